-- What comes of the table definition files of all stations.
use Rattle.std.specs.Prelude.{◌≡◌, ◌⊎◌, ℕ, zero, suc, ◌<◌, List, [], ◌∷◌, ◌++◌, length, map, slice_get, Bool, true, false, Some}
use Rattle.std.specs.List.{Contains}
use Rattle.pb_base.specs.World.{World}
use Rattle.pb_frame.specs.Hearing.{StandsFor}
use Rattle.pb_io.specs.View.{View, Link}
use Rattle.pb_tdf.specs.Definition.{Definition, FileBytes}
use Rattle.pb_tdf.specs.Refusal.{FileFault}
use Rattle.pb_tdf.specs.View.{signature_of, view_of}
use Rattle.pb_tdf.specs.declared.fault.TdfFault.{TdfFault}
use Rattle.pb_archive.specs.Archive.{Table, Archive}
use Rattle.pb_archive.specs.Held.{HasArchive}
use Rattle.pb_archive.specs.Opened.{Register}
use Rattle.pb_archive.specs.Plan.{Plan}
use Rattle.pb_archive.specs.declared.plan.StationPlan.{StationPlan}
use Rattle.pb_ask.specs.Listening.{Listening}
use Rattle.pb_trans.specs.declared.asked.Limits.{Limits}
use Rattle.pb_collect.specs.Defining.{TablesCame}
use Rattle.pb_collect.specs.Report.{IsPlaceOf, station_line}
use Rattle.pb_collect.specs.Tables.{Channel, channel}
use Rattle.pb_collect.specs.Uploads.{UploadFails, UploadStops, Uploads}
use Rattle.pb_collect.specs.declared.command.Contact.{Contact}
use Rattle.pb_collect.specs.declared.fault.DefsFault.{DefsFault}
use Rattle.pb_collect.specs.declared.fault.DefsFault.TheVariants.{DiskFault, LinkFault, Memory}
use Rattle.pb_collect.specs.declared.report.Cause.{Cause}
use Rattle.pb_collect.specs.declared.report.DefsLine.{DefsLine}
use Rattle.pb_collect.specs.declared.report.DefsWhat.TheVariants.{Added, Failed, Bad}

-- ---- a file

-- The file defines no tables; the station's line has the place of its first fault.
pub record FileIsBad (n : ℕ) (file : List ℕ) (lines : List DefsLine) (before after : Register) : Type 0 where
  pub fault : TdfFault
  pub refused : FileFault file fault
  pub at : ℕ
  pub place : IsPlaceOf fault at
  pub line : lines ≡ station_line n (Bad at) ∷ []
  pub nothing : after ≡ before

-- The file defines these tables, and each was treated, with a line of its own.
pub record FileDefines (n : ℕ) (file : List ℕ) (lines : List DefsLine) (before after : Register) : Type 0 where
  pub definitions : List Definition
  pub are : FileBytes definitions file
  pub came : TablesCame n (map view_of definitions) (length definitions) lines before after

abbrev pub FileReads : ℕ → List ℕ → List DefsLine → Register → Register → Type 0
FileReads n file lines before after = FileIsBad n file lines before after ⊎ FileDefines n file lines before after

-- A table of the file was begun, after these.
pub record FileIsBegun (n : ℕ) (file : List ℕ) (lines : List DefsLine) (before after : Register) : Type 0 where
  pub definitions : List Definition
  pub are : FileBytes definitions file
  pub treated : ℕ
  pub some : treated < length definitions
  pub came : TablesCame n (map view_of definitions) treated lines before after

-- nothing came of it
pub record IsIdle (lines : List DefsLine) (before after : Register) : Type 0 where
  pub no_lines : lines ≡ []
  pub nothing : after ≡ before

-- Where a disk call failed, a table had been begun. For want of memory the same, or nothing was.
abbrev pub FileStops : DefsFault → ℕ → List ℕ → List DefsLine → Register → Register → Type 0
FileStops DiskFault n file lines before after = FileIsBegun n file lines before after
FileStops Memory n file lines before after = FileIsBegun n file lines before after ⊎ IsIdle lines before after
FileStops LinkFault n file lines before after = ⊥

-- ---- a station

-- how the plan says that the station of this place is asked
pub record IsContact (plan : Plan) (n : ℕ) (c : Contact) : Type 0 where
  pub planned : StationPlan
  pub there : slice_get plan.stations n ≡ Some planned
  pub me : c.me ≡ plan.me
  pub via : c.via ≡ plan.via
  pub station : c.station ≡ planned.addr
  pub code : c.code ≡ planned.code

-- The station's file didn't come; its line says why.
pub record FileFails (limits : Limits) (contact : Contact) (n : ℕ) (lines : List DefsLine) (from to : Channel)
    (before after : Register) : Type 0 where
  pub cause : Cause
  pub upload : UploadFails limits contact cause from to
  pub line : lines ≡ station_line n (Failed cause) ∷ []
  pub nothing : after ≡ before

-- the station's file came, and this of it
pub record FileComes (limits : Limits) (contact : Contact) (n : ℕ) (lines : List DefsLine) (from to : Channel)
    (before after : Register) : Type 0 where
  pub file : List ℕ
  pub upload : Uploads limits contact file from to
  pub reads : FileReads n file lines before after

-- what came of a station that is asked so
abbrev pub ContactCame : Limits → Contact → ℕ → List DefsLine → Channel → Channel → Register → Register → Type 0
ContactCame limits contact n lines from to before after =
    FileFails limits contact n lines from to before after ⊎ FileComes limits contact n lines from to before after

-- what came of the station of this place of the plan
pub record StationCame (limits : Limits) (plan : Plan) (n : ℕ) (lines : List DefsLine) (from to : Channel)
    (before after : Register) : Type 0 where
  pub contact : Contact
  pub is : IsContact plan n contact
  pub came : ContactCame limits contact n lines from to before after

-- ---- a station at which it was broken off

-- a call of the link failed while the file was uploaded
pub record UploadBreaks (limits : Limits) (contact : Contact) (lines : List DefsLine) (from : Channel) (link : Link)
    (before after : Register) : Type 0 where
  pub stops : UploadStops limits contact from link
  pub idle : IsIdle lines before after

-- the file came, and what it defines wasn't all taken in
pub record ReadBreaks (fault : DefsFault) (limits : Limits) (contact : Contact) (n : ℕ) (lines : List DefsLine)
    (from : Channel) (link : Link) (before after : Register) : Type 0 where
  pub file : List ℕ
  pub to : Channel
  pub upload : Uploads limits contact file from to
  pub same : link ≡ to.link
  pub stops : FileStops fault n file lines before after

-- the file didn't come, and there was no memory for the line that says why
pub record LineBreaks (limits : Limits) (contact : Contact) (lines : List DefsLine) (from : Channel) (link : Link)
    (before after : Register) : Type 0 where
  pub cause : Cause
  pub to : Channel
  pub upload : UploadFails limits contact cause from to
  pub same : link ≡ to.link
  pub idle : IsIdle lines before after

abbrev pub ContactStops : DefsFault → Limits → Contact → ℕ → List DefsLine → Channel → Link → Register → Register → Type 0
ContactStops LinkFault limits contact n lines from link before after = UploadBreaks limits contact lines from link before after
ContactStops DiskFault limits contact n lines from link before after =
    ReadBreaks DiskFault limits contact n lines from link before after
ContactStops Memory limits contact n lines from link before after =
    ReadBreaks Memory limits contact n lines from link before after ⊎ LineBreaks limits contact lines from link before after

-- at the station of this place of the plan
pub record StationStops (fault : DefsFault) (limits : Limits) (plan : Plan) (n : ℕ) (lines : List DefsLine) (from : Channel)
    (link : Link) (before after : Register) : Type 0 where
  pub contact : Contact
  pub is : IsContact plan n contact
  pub stops : ContactStops fault limits contact n lines from link before after

-- ---- all stations

-- what came of so many stations, one after the other in the plan's order
abbrev pub StationsCame : Limits → Plan → ℕ → List DefsLine → Channel → Channel → Register → Register → Type 0
StationsCame limits plan zero lines from to before after = (lines ≡ []) × (to ≡ from) × (after ≡ before)
StationsCame limits plan (suc n) lines from to before after =
    (earlier : List DefsLine) × (own : List DefsLine) × (mid : Channel) × (r : Register) × (lines ≡ earlier ++ own)
    × StationsCame limits plan n earlier from mid before r × StationCame limits plan n own mid to r after

-- a link of which nothing was heard before
pub record IsFresh (l : Listening) : Type 0 where
  pub quiet : l.inbox ≡ []
  pub fresh : StandsFor l.ear []

-- Each station of the plan was asked, in its order, on a link of which nothing had been heard, and these lines were added.
pub record Fetched (limits : Limits) (lines : List DefsLine) (link_old link_new : Link) (before after : Register) : Type 0 where
  pub first : Listening
  pub fresh : IsFresh first
  pub last : Listening
  pub came : StationsCame limits before.plan (length before.plan.stations) lines (channel first link_old)
      (channel last link_new) before after

-- It was broken off at a station, after these lines.
pub record StoppedAt (fault : DefsFault) (limits : Limits) (lines : List DefsLine) (link_old link_new : Link)
    (before after : Register) : Type 0 where
  pub first : Listening
  pub fresh : IsFresh first
  pub station : ℕ
  pub earlier : List DefsLine
  pub own : List DefsLine
  pub are : lines ≡ earlier ++ own
  pub mid : Channel
  pub register : Register
  pub came : StationsCame limits before.plan station earlier (channel first link_old) mid before register
  pub stops : StationStops fault limits before.plan station own mid link_new register after

-- There was no memory to begin with.
pub record NotBegun (fault : DefsFault) (lines : List DefsLine) (link_old link_new : Link)
    (before after : Register) : Type 0 where
  pub memory : fault ≡ Memory
  pub no_calls : link_new ≡ link_old
  pub idle : IsIdle lines before after

abbrev pub FetchedUntil : DefsFault → Limits → List DefsLine → Link → Link → Register → Register → Type 0
FetchedUntil fault limits lines link_old link_new before after =
    NotBegun fault lines link_old link_new before after ⊎ StoppedAt fault limits lines link_old link_new before after

-- ---- what stands

-- a table is the one that the line names
pub record IsNamedBy (line : DefsLine) (t : Table) : Type 0 where
  pub station : t.station ≡ line.station
  pub number : t.key.number ≡ line.number.0
  pub signature : signature_of t.definition ≡ line.sig
  pub name : t.definition.name ≡ line.name

-- Each table that a line says was added is in the archive of each file that a crash of now may leave.
abbrev pub AddedStand : List DefsLine → View → Type 0
AddedStand lines now =
    (w : World) (image : List ℕ) (a : Archive) (line : DefsLine) → now.link.world ≡ Some w → now.image image → HasArchive image a
    → Contains lines line → line.what ≡ Added → (id : ℕ) × (t : Table) × (slice_get a.tables id ≡ Some t) × IsNamedBy line t

-- after a failed disk call the collector is used no more
abbrev pub EndedByFault : DefsFault → Bool → Type 0
EndedByFault DiskFault ended = ended ≡ true
EndedByFault LinkFault ended = ended ≡ false
EndedByFault Memory ended = ended ≡ false
