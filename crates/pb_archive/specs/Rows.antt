-- The rows of a table: each kept record by itself, and the numbers between them as gaps.
use Rattle.std.specs.Prelude.{◌≡◌, ℕ, suc, ◌-◌, ◌<◌, List, [], ◌∷◌, take, drop, length, Option, None, Some}
use Rattle.pb_base.specs.declared.layout.Layout.{Layout}
use Rattle.pb_base.specs.Record.{content}
use Rattle.pb_record.specs.Cut.{seen_record}
use Rattle.pb_archive.specs.declared.row.Row.{Row}
use Rattle.pb_archive.specs.declared.row.Row.TheVariants.{Kept, Gap}

-- A kept record, by its number and its content; or the numbers from one up to, not with, another, none of which is kept.
pub data SeenRow : Type 0 where
  kept : (number : ℕ) (bytes : List ℕ) → SeenRow
  gap : (from to : ℕ) → SeenRow

-- with a number more that isn't kept, before these rows: a gap that follows it takes it up
abbrev pub with_missing : ℕ → List SeenRow → List SeenRow
with_missing number [] = gap number (suc number) ∷ []
with_missing number (kept next bytes ∷ rows) = gap number (suc number) ∷ kept next bytes ∷ rows
with_missing number (gap from to ∷ rows) = gap number to ∷ rows

-- the rows of what a table keeps from a number on
abbrev pub rows_from : ℕ → List (Option (List ℕ)) → List SeenRow
rows_from number [] = []
rows_from number (None ∷ rest) = with_missing number (rows_from (suc number) rest)
rows_from number (Some bytes ∷ rest) = kept number bytes ∷ rows_from (suc number) rest

-- the rows of the numbers from one up to, not with, another
abbrev pub rows_between : List (Option (List ℕ)) → ℕ → ℕ → List SeenRow
rows_between rows from to = rows_from from (take (to - from) (drop from rows))

-- the row is of the numbers from one up to, not with, another
abbrev pub IsOver : SeenRow → ℕ → ℕ → Type 0
IsOver (kept number bytes) from to = (number ≡ from) × (to ≡ suc from)
IsOver (gap first end) from to = (first ≡ from) × (end ≡ to) × (from < to)

-- a row as it is handed out
abbrev pub seen_row : Row → SeenRow
seen_row (Kept view) = kept view.number.0 (content (seen_record view).stored)
seen_row (Gap from to) = gap from.0 to.0

-- a kept record has the field bytes that the layout says
abbrev pub HasRecord : Layout → Row → Type 0
HasRecord layout (Kept view) = length view.bytes.now ≡ layout.record_len
HasRecord layout (Gap from to) = Unit {0}
