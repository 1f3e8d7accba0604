-- What is known of a table while it is collected, which answers fit what is asked next, and what an answer teaches.
use Rattle.std.specs.Prelude.{◌≡◌, ⊤, ℕ, zero, suc, ◌<◌, ◌≤◌, List, [], ◌∷◌, ◌++◌, length, map, slice_get, Some, ◌==◌, if◌then◌else◌}
use Rattle.pb_base.specs.declared.layout.Layout.{Layout}
use Rattle.pb_base.specs.World.{StoredRecord}
use Rattle.pb_base.specs.History.{History}
use Rattle.pb_base.specs.Record.{content, content_len, cut_records}
use Rattle.pb_bmp5.specs.CollectReply.{SeenFragment, whole, part}
use Rattle.pb_archive.specs.Archive.{Table, front, grown, record_layout}
use Rattle.pb_archive.specs.Truth.{SoundTable}

-- A table, and the bytes so far of its partial record, which is the record at the front. There are none where no record is
-- partial.
pub record Known : Type 0 where
  pub table : Table
  pub partial : List ℕ

abbrev pub without_partial : Table → Known
without_partial t = record { table = t; partial = [] }

-- The record of this number was stored with as many bytes as its layout says, and its content begins so.
pub record BeginsContent (layout : Layout) (h : History) (number : ℕ) (bytes : List ℕ) : Type 0 where
  pub stored : StoredRecord
  pub is : slice_get h.records number ≡ Some stored
  pub sized : length stored.bytes ≡ layout.record_len
  pub after : List ℕ
  pub parts : content stored ≡ bytes ++ after

-- the table is true of what its station stored, and so are the bytes of the partial record
pub record SoundKnown (k : Known) (h : History) : Type 0 where
  pub table : SoundTable k.table h
  pub partial : 0 < length k.partial → BeginsContent (record_layout k.table.definition) h (front k.table) k.partial

-- ---- which answers fit

-- no records, or first a record of this number or above from its first byte on
abbrev pub BeginsFrom : ℕ → List SeenFragment → Type 0
BeginsFrom n [] = ⊤
BeginsFrom n (whole first zero bytes ∷ fs) = BeginsFrom n fs
BeginsFrom n (whole first (suc k) bytes ∷ fs) = n ≤ first
BeginsFrom n (part number offset bytes ∷ fs) = (n ≤ number) × (offset ≡ 0)

-- no records, or first a part of this record from this byte on
abbrev pub BeginsWithPart : ℕ → ℕ → List SeenFragment → Type 0
BeginsWithPart n from [] = ⊤
BeginsWithPart n from (whole first zero bytes ∷ fs) = BeginsWithPart n from fs
BeginsWithPart n from (whole first (suc k) bytes ∷ fs) = ⊥
BeginsWithPart n from (part number offset bytes ∷ fs) = (number ≡ n) × (offset ≡ from)

-- What is asked for next: with a partial record the rest of it, else the records from the front on.
abbrev pub FitsNext : (front : ℕ) (partial : List ℕ) → List SeenFragment → Type 0
FitsNext n [] fs = BeginsFrom n fs
FitsNext n (b ∷ bs) fs = BeginsWithPart n (length (b ∷ bs)) fs

abbrev pub FitsKnown : Known → List SeenFragment → Type 0
FitsKnown k fs = FitsNext (front k.table) k.partial fs

-- ---- what an answer teaches

-- the bytes of this record so far: the whole of it is kept, less than that is partial
abbrev pub joined : Layout → ℕ → List ℕ → Table → Known
joined layout number bytes t =
    if length bytes == content_len layout then without_partial (grown number (bytes ∷ []) t)
    else record { table = grown number [] t; partial = bytes }

-- Records are kept, after gaps where they begin above the front. A part goes on with the partial record.
abbrev pub taken : Layout → Known → SeenFragment → Known
taken layout k (whole first zero bytes) = k
taken layout k (whole first (suc n) bytes) =
    without_partial (grown first (map content (cut_records layout (suc n) bytes)) k.table)
taken layout k (part number offset bytes) = joined layout number (k.partial ++ bytes) k.table

abbrev pub learned : Layout → Known → List SeenFragment → Known
learned layout k [] = k
learned layout k (f ∷ fs) = learned layout (taken layout k f) fs
