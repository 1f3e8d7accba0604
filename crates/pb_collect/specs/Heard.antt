-- What was heard in answer to a collect command.
use Rattle.std.specs.Prelude.{◌≡◌, ⊤, ℕ, ◌≤◌, List, length, drop, Some}
use Rattle.pb_base.specs.World.{World}
use Rattle.pb_frame.specs.Hearing.{HoldsContent, StandsFor}
use Rattle.pb_io.specs.View.{View, Link}
use Rattle.pb_packet.specs.declared.headers.TheConstants.{PROTO_BMP5}
use Rattle.pb_bmp5.specs.TrueReply.{Delivered}
use Rattle.pb_archive.specs.Archive.{Archive}
use Rattle.pb_archive.specs.Held.{HasArchive}
use Rattle.pb_ask.specs.Listening.{Listening, IsListening}
use Rattle.pb_ask.specs.declared.question.Conclusion.{Conclusion}
use Rattle.pb_ask.specs.declared.question.Conclusion.TheVariants.{Answer, Undelivered, NoAnswer, Flooded}
use Rattle.pb_truth.specs.Asked.{Allows}
use Rattle.pb_truth.specs.Honest.{WasHeard}
use Rattle.pb_collect.specs.Question.{MeansReply, command_request}
use Rattle.pb_collect.specs.declared.answer.Said.{Said}
use Rattle.pb_collect.specs.declared.question.CollectCommand.{CollectCommand}

-- What was heard since the stream began ends with the bytes that the listener judged, and then those that wait.
pub record Listens (l : Listening) (link : Link) : Type 0 where
  pub judged : List ℕ
  pub stands : StandsFor l.ear judged
  pub hears : IsListening link judged l.inbox

-- each archive that a crash might leave allows what the command asks
abbrev pub IsAllowedIn : View → CollectCommand → Type 0
IsAllowedIn now c = (image : List ℕ) (a : Archive) → now.image image → HasArchive image a → Allows a (command_request c)

-- The message at hand answers the command so, and the packet that it came in was heard: from the station to the address
-- that asks.
pub record HasHeard (c : CollectCommand) (said : Said) (l : Listening) (link : Link) : Type 0 where
  pub held : HoldsContent l.ear
  pub full : 8 ≤ length l.ear.content
  pub means : MeansReply c said (drop 8 l.ear.content)
  pub packet : Delivered
  pub message : packet.message ≡ drop 8 l.ear.content
  pub src : packet.src ≡ c.station
  pub dst : packet.dst ≡ c.me
  pub proto : packet.proto ≡ PROTO_BMP5
  pub heard : (w : World) → link.world ≡ Some w → WasHeard w packet

-- what was heard where an answer ended the request
abbrev pub HeardBy : CollectCommand → Conclusion Said → Listening → Link → Type 0
HeardBy c (Answer said) l link = HasHeard c said l link
HeardBy c (Undelivered code) l link = ⊤
HeardBy c NoAnswer l link = ⊤
HeardBy c Flooded l link = ⊤
