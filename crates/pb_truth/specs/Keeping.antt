-- The advances that keep what an answer teaches.
use Rattle.std.specs.Prelude.{◌≡◌, ⊤, ℕ, zero, suc, ◌≤◌, List, [], ◌∷◌, ◌++◌, length, nat_lt, ◌==◌, if◌then◌else◌}
use Rattle.pb_base.specs.declared.layout.Layout.{Layout}
use Rattle.pb_base.specs.Fields.{IsBytes}
use Rattle.pb_base.specs.Record.{content_len, run_len}
use Rattle.pb_bmp5.specs.CollectReply.{SeenFragment, whole, part}
use Rattle.pb_archive.specs.Archive.{Table, front, grown}
use Rattle.pb_archive.specs.Entry.{Advance, contents}
use Rattle.pb_truth.specs.Learning.{Known, taken}

-- a run of whole records, as it came; in a table of intervals with one time
abbrev pub run_advance : Layout → ℕ → ℕ → List ℕ → Advance
run_advance layout first count bytes =
    record { form = if layout.event then 0 else 1; first = first; count = count; bytes = bytes }

-- gaps up to a number
abbrev pub gap_advance : ℕ → Advance
gap_advance number = record { form = 0; first = number; count = 0; bytes = [] }

-- one content
abbrev pub content_advance : ℕ → List ℕ → Advance
content_advance number bytes = record { form = 0; first = number; count = 1; bytes = bytes }

-- The advances for one fragment: one for whole records. For a part above the front one that makes the gap, and one where the
-- part makes its record whole.
abbrev pub advances : Layout → Known → SeenFragment → List Advance
advances layout k (whole first zero bytes) = []
advances layout k (whole first (suc n) bytes) = run_advance layout first (suc n) bytes ∷ []
advances layout k (part number offset bytes) =
    let all = k.partial ++ bytes in
    (if nat_lt (front k.table) number then gap_advance number ∷ [] else [])
    ++ (if length all == content_len layout then content_advance number all ∷ [] else [])

-- the table after these advances, one after the other
abbrev pub table_after : Layout → Table → List Advance → Table
table_after layout t [] = t
table_after layout t (a ∷ rest) = table_after layout (grown a.first (contents layout a) t) rest

-- A record or a part isn't below the front, and records have the bytes that their layout says.
abbrev pub CanBeKept : Layout → Table → SeenFragment → Type 0
CanBeKept layout t (whole first zero bytes) = ⊤
CanBeKept layout t (whole first (suc n) bytes) = (front t ≤ first) × (length bytes ≡ run_len layout (suc n)) × IsBytes bytes
CanBeKept layout t (part number offset bytes) = front t ≤ number

-- each fragment can be kept when those before it are
abbrev pub CanAllBeKept : Layout → Known → List SeenFragment → Type 0
CanAllBeKept layout k [] = ⊤
CanAllBeKept layout k (f ∷ fs) = CanBeKept layout k.table f × CanAllBeKept layout (taken layout k f) fs
