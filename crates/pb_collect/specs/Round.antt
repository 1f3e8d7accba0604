-- What contracts see of a collector, and what a round of it comes to.
use Rattle.std.specs.Prelude.{◌≡◌, ⊤, ℕ, suc, ◌<◌, ◌≤◌, Bool, true, false, List, [], ◌∷◌, length, slice_get, Some}
use Rattle.std.specs.List.{AllByRecursion}
use Rattle.pb_io.specs.Faults.{Rose}
use Rattle.pb_base.specs.World.{World}
use Rattle.pb_frame.specs.Hearing.{StandsFor}
use Rattle.pb_io.specs.View.{View, Link}
use Rattle.pb_archive.specs.Archive.{Table, Archive, front}
use Rattle.pb_archive.specs.Held.{HasArchive}
use Rattle.pb_archive.specs.Opened.{OpenArchive, Register}
use Rattle.pb_archive.specs.declared.held.Held.{Held}
use Rattle.pb_trans.specs.declared.asked.Limits.{Limits}
use Rattle.pb_ask.specs.Listening.{Listening}
use Rattle.pb_collect.specs.Changing.{GoesOnAs}
use Rattle.pb_collect.specs.Tables.{BreaksOff, Channel, CameOut, EndsBy, channel}
use Rattle.pb_collect.specs.declared.broken.Broken.{Broken}
use Rattle.pb_collect.specs.declared.broken.Broken.TheVariants as broken
use Rattle.pb_collect.specs.declared.ending.End.TheVariants as ended
use Rattle.pb_collect.specs.declared.outcome.Outcome.{Outcome}
use Rattle.pb_collect.specs.declared.collector.RoundResult.{RoundResult}
use Rattle.pb_collect.specs.declared.collector.RoundResult.TheVariants.{Done, Incomplete, DiskFault, LinkFault}

-- an open archive, what came of the tables in the last round, and whether a disk call failed in a round
pub record Collecting : Type 0 where
  pub archive : OpenArchive
  pub outcomes : List Outcome
  pub ended : Bool

-- one for each table, in their order from this place on
abbrev pub AreInOrder : ℕ → List Outcome → Type 0
AreInOrder n [] = ⊤
AreInOrder n (o ∷ rest) = (o.table.0 ≡ n) × AreInOrder (suc n) rest

abbrev pub IsDone : Outcome → Type 0
IsDone o = o.end ≡ ended.Done

-- ---- what came of the tables

-- Each outcome is that of the table at its place.
abbrev pub AllCameOut : List Outcome → Register → Register → Type 0
AllCameOut os old new =
    (n : ℕ) (o : Outcome) (before after : Held) → slice_get os n ≡ Some o → slice_get old.tables n ≡ Some before
    → slice_get new.tables n ≡ Some after → CameOut n before after o

-- How far a round came: no table is added; of the tables that ended this came out, the next one may have been begun, and those
-- after it are as they were.
pub record Reaches (os : List Outcome) (old new : Register) : Type 0 where
  pub plan : new.plan ≡ old.plan
  pub count : length new.tables ≡ length old.tables
  pub came : AllCameOut os old new
  pub begun : (before after : Held) → slice_get old.tables (length os) ≡ Some before
      → slice_get new.tables (length os) ≡ Some after → GoesOnAs before after
  pub later : (n : ℕ) → length os < n → slice_get new.tables n ≡ slice_get old.tables n

-- what was asked of the table of an outcome, and how it ended
pub record EndsAt (limits : Limits) (r : Register) (o : Outcome) (from to : Channel) : Type 0 where
  pub held : Held
  pub there : slice_get r.tables o.table.0 ≡ Some held
  pub ends : EndsBy limits r.plan held o from to

-- the same of all outcomes, one after the other
abbrev pub AllEnd : Limits → Register → List Outcome → Channel → Channel → Type 0
AllEnd limits r [] from to = to ≡ from
AllEnd limits r (o ∷ os) from to = (mid : Channel) × EndsAt limits r o from mid × AllEnd limits r os mid to

-- The tables of a round were asked on a link of which nothing had been heard before.
pub record Asks (limits : Limits) (r : Register) (os : List Outcome) (link_old link_new : Link) : Type 0 where
  pub first : Listening
  pub quiet : first.inbox ≡ []
  pub fresh : StandsFor first.ear []
  pub last : Listening
  pub all : AllEnd limits r os (channel first link_old) (channel last link_new)

-- The tables of a round were asked, and at the next one it was broken off.
pub record AsksUntil (broken : Broken) (limits : Limits) (r : Register) (os : List Outcome)
    (link_old link_new : Link) : Type 0 where
  pub first : Listening
  pub quiet : first.inbox ≡ []
  pub fresh : StandsFor first.ear []
  pub last : Channel
  pub all : AllEnd limits r os (channel first link_old) last
  pub held : Held
  pub there : slice_get r.tables (length os) ≡ Some held
  pub breaks : BreaksOff broken limits r.plan held last link_new

-- The archive of each file that a crash of now may leave has the tables of the outcomes with their new fronts, or higher ones.
abbrev pub FrontsStand : List Outcome → View → Type 0
FrontsStand os now =
    (w : World) (image : List ℕ) (a : Archive) (n : ℕ) (o : Outcome) → now.link.world ≡ Some w → now.image image
    → HasArchive image a → slice_get os n ≡ Some o
    → (t : Table) × (slice_get a.tables n ≡ Some t) × (o.to.0 ≤ front t)

-- ---- what a round answers

-- What a round answers, by what came of so many tables: it is done where each of them is; a fault broke it off at one.
abbrev pub RoundIs : RoundResult → List Outcome → ℕ → Type 0
RoundIs Done os tables = (length os ≡ tables) × AllByRecursion IsDone os
RoundIs Incomplete os tables = (length os ≡ tables) × (AllByRecursion IsDone os → ⊥)
RoundIs DiskFault os tables = length os < tables
RoundIs LinkFault os tables = length os < tables

-- the result of a round in which every table came to its end
abbrev pub ComesTo : RoundResult → List Outcome → Type 0
ComesTo Done os = AllByRecursion IsDone os
ComesTo Incomplete os = AllByRecursion IsDone os → ⊥
ComesTo DiskFault os = ⊥
ComesTo LinkFault os = ⊥

-- after a failed disk call the collector is used no more
abbrev pub IsEndedBy : RoundResult → Bool → Type 0
IsEndedBy Done ended = ended ≡ false
IsEndedBy Incomplete ended = ended ≡ false
IsEndedBy DiskFault ended = ended ≡ true
IsEndedBy LinkFault ended = ended ≡ false

-- what was asked in a round, by its result
abbrev pub AsksBy : RoundResult → Limits → Register → List Outcome → Link → Link → Type 0
AsksBy Done limits r os old new = Asks limits r os old new
AsksBy Incomplete limits r os old new = Asks limits r os old new
AsksBy DiskFault limits r os old new = AsksUntil broken.DiskFault limits r os old new
AsksBy LinkFault limits r os old new = AsksUntil broken.LinkFault limits r os old new

-- Each count rose where the result says so, and stays with any other result.
pub record CountsOf (result : RoundResult) (old new : View) : Type 0 where
  pub disk_later : old.faults ≤ new.faults
  pub disk_rose : result ≡ DiskFault → Rose old.faults new.faults
  pub disk_kept : (result ≡ DiskFault → ⊥) → new.faults ≡ old.faults
  pub link_later : old.link.faults ≤ new.link.faults
  pub link_rose : result ≡ LinkFault → Rose old.link.faults new.link.faults
  pub link_kept : (result ≡ LinkFault → ⊥) → new.link.faults ≡ old.link.faults
