-- How a station's file of table definitions is uploaded, piece by piece.
use Rattle.std.specs.Prelude.{◌≡◌, ◌⊎◌, ⊤, ℕ, zero, suc, ◌<◌, ◌≤◌, List, [], ◌++◌, length, drop, Option, None, Some}
use Rattle.pb_frame.specs.Hearing.{HoldsContent}
use Rattle.pb_io.specs.View.{Link}
use Rattle.pb_tdf.specs.Definition.{file_bytes_max}
use Rattle.pb_trans.specs.declared.asked.Limits.{Limits}
use Rattle.pb_ask.specs.Asking.{Asks, Stops}
use Rattle.pb_ask.specs.Listening.{Listening}
use Rattle.pb_ask.specs.declared.question.Conclusion.{Conclusion}
use Rattle.pb_ask.specs.declared.question.Conclusion.TheVariants as conclusion
use Rattle.pb_collect.specs.Tables.{Channel}
use Rattle.pb_collect.specs.Upload.{Brings, MeansUpload, wanted_piece}
use Rattle.pb_collect.specs.declared.command.Contact.{Contact}
use Rattle.pb_collect.specs.declared.report.Cause.{Cause}
use Rattle.pb_collect.specs.declared.report.Cause.TheVariants.{NoAnswer, Flooded, Undelivered, Refused}
use Rattle.pb_collect.specs.declared.upload.FileReply.{FileReply}
use Rattle.pb_collect.specs.declared.upload.FileReply.TheVariants as reply
use Rattle.pb_collect.specs.declared.upload.UploadCommand.{UploadCommand}
use Rattle.pb_collect.specs.declared.uploading.Step.{Step}
use Rattle.pb_collect.specs.declared.uploading.Step.TheVariants.{Came, Ends, Fails}

-- ---- one request

-- the command asks the station for its file from this place on
pub record AsksFrom (contact : Contact) (at : ℕ) (c : UploadCommand) : Type 0 where
  pub contact_is : c.contact ≡ contact
  pub offset : c.offset ≡ at

-- The station was asked for its file from this place on, and that had this conclusion.
pub record AskedFrom (limits : Limits) (contact : Contact) (at : ℕ) (from : Channel) (o : Conclusion FileReply)
    (to : Channel) : Type 0 where
  pub command : UploadCommand
  pub from_here : AsksFrom contact at command
  pub asks : Asks (wanted_piece command) limits from.listener from.link o to.listener to.link

-- It was answered with these bytes: they stand in the message at hand, which was heard in answer.
pub record Brought (limits : Limits) (contact : Contact) (at : ℕ) (bytes : List ℕ) (from to : Channel) : Type 0 where
  pub command : UploadCommand
  pub from_here : AsksFrom contact at command
  pub asks : Asks (wanted_piece command) limits from.listener from.link (conclusion.Answer reply.Data) to.listener to.link
  pub brings : Brings command bytes (drop 8 to.listener.ear.content)

-- ---- requests, one after the other

-- So many answers with bytes, one after the other, each asked for at the place where those before it end, while these weren't
-- too many. Joined they are this.
abbrev pub Joins : Limits → Contact → ℕ → List ℕ → Channel → Channel → Type 0
Joins limits contact zero file from to = (file ≡ []) × (to ≡ from)
Joins limits contact (suc n) file from to =
    (earlier : List ℕ) × (bytes : List ℕ) × (mid : Channel) × (file ≡ earlier ++ bytes) × Joins limits contact n earlier from mid
    × (length earlier ≤ file_bytes_max) × (0 < length bytes) × Brought limits contact (length earlier) bytes mid to

-- bytes that were joined
pub record Joined (limits : Limits) (contact : Contact) (file : List ℕ) (from to : Channel) : Type 0 where
  pub pieces : ℕ
  pub joins : Joins limits contact pieces file from to

-- The file is too long, or an answer without bytes came after it.
abbrev pub IsWhole : Limits → Contact → List ℕ → Channel → Channel → Type 0
IsWhole limits contact file mid to =
    ((file_bytes_max < length file) × (to ≡ mid))
    ⊎ ((length file ≤ file_bytes_max) × Brought limits contact (length file) [] mid to)

-- The station's file: the bytes of the answers up to the first without any, or up to the one with which they are too many.
pub record Uploads (limits : Limits) (contact : Contact) (file : List ℕ) (from to : Channel) : Type 0 where
  pub mid : Channel
  pub joined : Joined limits contact file from mid
  pub whole : IsWhole limits contact file mid to

-- how a request ends where an upload fails so
abbrev pub conclusion_of : Cause → Conclusion FileReply
conclusion_of NoAnswer = conclusion.NoAnswer
conclusion_of Flooded = conclusion.Flooded
conclusion_of (Undelivered code) = conclusion.Undelivered code
conclusion_of (Refused code) = conclusion.Answer (reply.Refused code)

-- A request of an upload ended so, and not with bytes.
pub record UploadFails (limits : Limits) (contact : Contact) (cause : Cause) (from to : Channel) : Type 0 where
  pub file : List ℕ
  pub mid : Channel
  pub joined : Joined limits contact file from mid
  pub few : length file ≤ file_bytes_max
  pub asked : AskedFrom limits contact (length file) mid (conclusion_of cause) to

-- what came of an upload
abbrev pub UploadComes : Limits → Contact → Option Cause → List ℕ → Channel → Channel → Type 0
UploadComes limits contact None file from to = Uploads limits contact file from to
UploadComes limits contact (Some cause) file from to = UploadFails limits contact cause from to

-- A call of the link failed at a request for what comes from this place on.
pub record PieceStops (limits : Limits) (contact : Contact) (at : ℕ) (from : Channel) (link : Link) : Type 0 where
  pub command : UploadCommand
  pub from_here : AsksFrom contact at command
  pub last : Listening
  pub stops : Stops (wanted_piece command) limits from.listener from.link last link

-- It failed at a request of an upload.
pub record UploadStops (limits : Limits) (contact : Contact) (from : Channel) (link : Link) : Type 0 where
  pub file : List ℕ
  pub mid : Channel
  pub joined : Joined limits contact file from mid
  pub few : length file ≤ file_bytes_max
  pub stops : PieceStops limits contact (length file) mid link

-- ---- on the way

-- where an answer ended the request, the message at hand means it
abbrev pub HoldsReply : UploadCommand → Conclusion FileReply → Listening → Type 0
HoldsReply c (conclusion.Answer said) l =
    HoldsContent l.ear × (8 ≤ length l.ear.content) × MeansUpload c said (drop 8 l.ear.content)
HoldsReply c (conclusion.Undelivered code) l = ⊤
HoldsReply c conclusion.NoAnswer l = ⊤
HoldsReply c conclusion.Flooded l = ⊤

-- what one request makes of the bytes joined so far
abbrev pub StepIs : Limits → Contact → Step → List ℕ → List ℕ → Channel → Channel → Type 0
StepIs limits contact Came old new from to =
    (bytes : List ℕ) × (new ≡ old ++ bytes) × (0 < length bytes) × Brought limits contact (length old) bytes from to
StepIs limits contact Ends old new from to = (new ≡ old) × Brought limits contact (length old) [] from to
StepIs limits contact (Fails cause) old new from to = (new ≡ old) × AskedFrom limits contact (length old) from
    (conclusion_of cause) to
