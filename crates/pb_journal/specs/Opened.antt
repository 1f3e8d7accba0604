-- What is so of a disk on which a journal was opened.
use Rattle.std.specs.Prelude.{◌≡◌, ℕ, Bool, List}
use Rattle.std.specs.Option.{ForSome}
use Rattle.pb_io.specs.Settled.{IsSettled}
use Rattle.pb_io.specs.View.{View}
use Rattle.pb_journal.specs.Entries.{AreBodies, at_rest, gate_place}

-- what contracts see of a journal: the place of its closed gate, and whether a disk fault came in an append
pub record OpenJournal : Type 0 where
  pub gate : ℕ
  pub must_reopen : Bool

-- the file has these entries and no byte after the gate, which is here
pub record RestsAt (gate : ℕ) (bodies : List (List ℕ)) (file : List ℕ) : Type 0 where
  pub bytes : file ≡ at_rest bodies
  pub fit : AreBodies bodies
  pub place : gate ≡ gate_place bodies

-- the file has entries and no byte after their gate, which is here
abbrev pub Rests : ℕ → List ℕ → Type 0
Rests gate file = (bodies : List (List ℕ)) × RestsAt gate bodies file

-- The file, where it is known, is at rest with its gate here, and nothing is pending.
pub record IsOpened (gate : ℕ) (disk : View) : Type 0 where
  pub rests : ForSome disk.file (Rests gate)
  pub settled : IsSettled disk
