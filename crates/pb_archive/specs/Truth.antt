-- When an archive is true of what the stations stored.
use Rattle.std.specs.Prelude.{◌≡◌, ⊤, ℕ, suc, ◌<◌, ◌≤◌, List, [], ◌∷◌, length, slice_get, Option, None, Some}
use Rattle.pb_base.specs.World.{StoredRecord}
use Rattle.pb_base.specs.History.{TableKey, History}
use Rattle.pb_base.specs.Record.{content}
use Rattle.pb_archive.specs.Archive.{Table, Archive, front}

-- the content is that of the record of this number
pub record IsContentOf (h : History) (number : ℕ) (bytes : List ℕ) : Type 0 where
  pub stored : StoredRecord
  pub is : slice_get h.records number ≡ Some stored
  pub same : bytes ≡ content stored

-- A gap was overwritten, and a kept content is the record's.
abbrev pub RowIsTrue : History → ℕ → Option (List ℕ) → Type 0
RowIsTrue h number None = number < h.oldest
RowIsTrue h number (Some bytes) = IsContentOf h number bytes

-- the rows from a number on
abbrev pub RowsAreTrue : History → ℕ → List (Option (List ℕ)) → Type 0
RowsAreTrue h number [] = ⊤
RowsAreTrue h number (row ∷ rows) = RowIsTrue h number row × RowsAreTrue h (suc number) rows

pub record SoundTable (t : Table) (h : History) : Type 0 where
  pub below : front t ≤ length h.records
  pub fit : RowsAreTrue h 0 t.rows

-- each table is true of the history of its station, number and signature
abbrev pub Sound : Archive → (TableKey → History) → Type 0
Sound a histories = (id : ℕ) (t : Table) → slice_get a.tables id ≡ Some t → SoundTable t (histories t.key)
