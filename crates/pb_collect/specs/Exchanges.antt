-- One request of a table, and what came of it.
use Rattle.std.specs.Prelude.{◌≡◌, ◌≤◌, true, false, ⊤, ℕ, drop}
use Rattle.pb_io.specs.Faults.{Rose}
use Rattle.pb_io.specs.View.{View, Link}
use Rattle.pb_bmp5.specs.CollectReply.{SeenReply, CollectReads}
use Rattle.pb_archive.specs.Opened.{OpenArchive, IsOpen}
use Rattle.pb_archive.specs.Refusals.{NeedsOpening}
use Rattle.pb_trans.specs.declared.asked.Limits.{Limits}
use Rattle.pb_ask.specs.Asking.{Asks, Stops}
use Rattle.pb_ask.specs.Listening.{Listening}
use Rattle.pb_ask.specs.declared.question.Conclusion.{Conclusion}
use Rattle.pb_ask.specs.declared.question.Conclusion.TheVariants.{Answer, Undelivered, NoAnswer, Flooded}
use Rattle.pb_collect.specs.Ends.{Comes}
use Rattle.pb_collect.specs.Kept.{KnowsTrue}
use Rattle.pb_collect.specs.Question.{AsksOnce, wanted_reply}
use Rattle.pb_collect.specs.declared.broken.Broken.{Broken}
use Rattle.pb_collect.specs.declared.broken.Broken.TheVariants.{DiskFault, LinkFault}
use Rattle.pb_collect.specs.declared.ending.Next.{Next}
use Rattle.pb_collect.specs.Progress.{Progress, Suits, partial_bytes, after_all}
use Rattle.pb_collect.specs.declared.answer.Said.{Said}
use Rattle.pb_collect.specs.declared.question.CollectCommand.{CollectCommand}

-- the message at hand reads as this reply for the command's table
abbrev pub ReadsNow : CollectCommand → Listening → SeenReply → Type 0
ReadsNow c l reply = CollectReads c.table.0 c.layout reply (drop 8 l.ear.content)

-- An answer with response code 0 was taken in, fragment by fragment; nothing else changed how far the table came.
pub record Took (c : CollectCommand) (l : Listening) (said : Said) (old mid : Progress) : Type 0 where
  pub reply : SeenReply
  pub reads : ReadsNow c l reply
  pub fits : Suits c.mode reply
  pub resp : reply.resp ≡ said.resp
  pub more : reply.more ≡ said.more
  pub taken : said.resp ≡ 0 → mid ≡ after_all old reply.fragments
  pub refused : (said.resp ≡ 0 → ⊥) → mid ≡ old

abbrev pub TookBy : CollectCommand → Listening → Conclusion Said → Progress → Progress → Type 0
TookBy c l (Answer said) old mid = Took c l said old mid
TookBy c l (Undelivered code) old mid = mid ≡ old
TookBy c l NoAnswer old mid = mid ≡ old
TookBy c l Flooded old mid = mid ≡ old

-- what an answer with response code 0 teaches is true
abbrev pub TeachesTrue : CollectCommand → Listening → View → ℕ → Progress → Conclusion Said → Type 0
TeachesTrue c l now id p (Answer said) =
    said.resp ≡ 0 → (reply : SeenReply) → ReadsNow c l reply → reply.resp ≡ 0 → Suits c.mode reply
    → KnowsTrue now id (partial_bytes p) reply.fragments
TeachesTrue c l now id p (Undelivered code) = ⊤
TeachesTrue c l now id p NoAnswer = ⊤
TeachesTrue c l now id p Flooded = ⊤

-- one count rose, and the other stayed
pub record RoseAlone (old new stays_old stays_new : ℕ) : Type 0 where
  pub later : old ≤ new
  pub rose : Rose old new
  pub stays : stays_new ≡ stays_old

-- why a round was broken off: a failed disk call, after which the archive must be opened again, or a failed link call, after
-- which it stays usable
abbrev pub BrokenBy : Broken → OpenArchive → View → View → Type 0
BrokenBy DiskFault o old new = NeedsOpening o true × RoseAlone old.faults new.faults old.link.faults new.link.faults
BrokenBy LinkFault o old new =
    NeedsOpening o false × IsOpen o new × RoseAlone old.link.faults new.link.faults old.faults new.faults

-- no call failed, and the archive stays usable
pub record Goes (o : OpenArchive) (old new : View) : Type 0 where
  pub usable : NeedsOpening o false
  pub opened : IsOpen o new
  pub faults : new.faults ≡ old.faults
  pub link_faults : new.link.faults ≡ old.link.faults

-- One request was asked, whose frame asks for nothing else, and had this conclusion; its answer was taken, and this comes next.
pub record Exchanged (c : CollectCommand) (limits : Limits) (l_old : Listening) (link_old : Link) (p_old : Progress) (next : Next)
    (l_new : Listening) (link_new : Link) (p_new : Progress) : Type 0 where
  pub once : AsksOnce c
  pub conclusion : Conclusion Said
  pub mid : Progress
  pub asks : Asks (wanted_reply c) limits l_old link_old conclusion l_new link_new
  pub took : TookBy c l_new conclusion p_old mid
  pub comes : Comes limits.budget mid conclusion next p_new

-- A request that was broken off: a call of the link failed before it was answered, or it had a conclusion and a disk call failed
-- while its answer was taken.
abbrev pub BreaksBy : Broken → CollectCommand → Limits → Listening → Link → Link → Type 0
BreaksBy LinkFault c limits l link_old link_new = (last : Listening) × Stops (wanted_reply c) limits l link_old last link_new
BreaksBy DiskFault c limits l link_old link_new =
    (last : Listening) × (conclusion : Conclusion Said) × Asks (wanted_reply c) limits l link_old conclusion last link_new
