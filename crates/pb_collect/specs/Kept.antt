-- What a run of calls keeps: whatever a crash leaves, each archive goes on, and stays true where the world is honest.
use Rattle.std.specs.Prelude.{◌≡◌, ◌⊎◌, ℕ, List, ◌++◌, length, slice_get, Option, Some}
use Rattle.pb_base.specs.World.{World}
use Rattle.pb_base.specs.History.{history}
use Rattle.pb_bmp5.specs.CollectReply.{SeenFragment}
use Rattle.pb_io.specs.View.{View, LeavesOnly}
use Rattle.pb_journal.specs.Changes.{Keeps as KeepsEntries}
use Rattle.pb_archive.specs.Archive.{Table, Archive, Extends, record_layout}
use Rattle.pb_archive.specs.Held.{HasArchive}
use Rattle.pb_truth.specs.Honest.{Honest}
use Rattle.pb_truth.specs.Learning.{SoundKnown, learned}
use Rattle.pb_truth.specs.Pairs.{AreGood, AreGoodSince}

-- ---- archives go on

-- The new file's archive goes on from the old one's: no table is added, no front falls, what was kept stays, and stops stay.
pub record Collects (old new : List ℕ) : Type 0 where
  pub one : Archive
  pub other : Archive
  pub before : HasArchive old one
  pub after : HasArchive new other
  pub extends : Extends one other
  pub tables : length other.tables ≡ length one.tables

-- The file itself, one with its entries, or one whose archive goes on from its.
abbrev pub StaysOrCollects : List ℕ → List ℕ → Type 0
StaysOrCollects old new = KeepsEntries old new ⊎ Collects old new

-- ---- calls go on by a step

-- A step relates a file of before and one of after.
abbrev pub Step : Type 1
Step = (old new : List ℕ) → Type 0

-- A file that goes on by the step from one that a crash might have left at the first moment, in a world that grew from the
-- one then.
pub record GoesOnBy (S : Step) (old : View) (w : World) (image : List ℕ) : Type 0 where
  pub first : List ℕ
  pub was : old.image first
  pub goes_on : S first image
  pub before : World
  pub more : World
  pub known : old.link.world ≡ Some before
  pub is : w ≡ before ++ more

-- a world that is known grows at its end, and stays known
pub record Grows (old new : Option World) : Type 0 where
  pub on : (w : World) → old ≡ Some w → (more : World) × (new ≡ Some (w ++ more))
  pub back : (v : World) → new ≡ Some v → (w more : World) × (old ≡ Some w) × (v ≡ w ++ more)

-- ---- truth

-- The world so far is honest for the archive of each file that a crash might have left at the first moment. Archives that go
-- on from one have its addresses, tables and definitions, of which alone this speaks.
abbrev pub HonestFrom : View → View → Type 0
HonestFrom entry now =
    (w : World) (image : List ℕ) (a : Archive) → now.link.world ≡ Some w → entry.image image → HasArchive image a → Honest w a

-- ---- what calls keep

-- At each moment the file that a crash leaves goes on by the step from one of before; and where all of before were good, and P
-- is so, all that a crash leaves are good.
pub record KeepsBy (S : Step) (P : Type 0) (old new : View) : Type 0 where
  pub grows : Grows old.link.world new.link.world
  pub leaves : LeavesOnly old new (GoesOnBy S old)
  pub good : AreGood old → P → AreGoodSince old new

-- Records are collected, where P is so.
abbrev pub KeepsWhere : Type 0 → View → View → Type 0
KeepsWhere P old new = KeepsBy StaysOrCollects P old new

-- Records are collected, in a world that is honest now.
abbrev pub Keeps : View → View → Type 0
Keeps old new = KeepsBy StaysOrCollects (HonestFrom old new) old new

-- The same, where P is so.
abbrev pub KeepsHonest : Type 0 → View → View → Type 0
KeepsHonest P old new = KeepsBy StaysOrCollects (P × HonestFrom old new) old new

-- These fragments, taken in with these bytes of a partial record, leave what is known of the table true.
abbrev pub KnowsTrue : View → ℕ → List ℕ → List SeenFragment → Type 0
KnowsTrue now id partial fs =
    (w : World) (image : List ℕ) (a : Archive) (t : Table) → now.link.world ≡ Some w → now.image image
    → HasArchive image a → slice_get a.tables id ≡ Some t
    → SoundKnown (learned (record_layout t.definition) (record { table = t; partial = partial }) fs) (history w t.key)

-- Each file that a crash of now may leave goes on by the step from this one.
abbrev pub AllGoOnBy : Step → Option (List ℕ) → View → Type 0
AllGoOnBy S file now =
    (w : World) (image first : List ℕ) → now.link.world ≡ Some w → now.image image → file ≡ Some first → S first image
