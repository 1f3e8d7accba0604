-- Entries by their first byte.
use Rattle.std.proofs.Common.{◌≡◌, ℕ, ◌<◌, List, [], ◌∷◌, ◌++◌, drop, get_or, length, ap, arith}
use Rattle.pb_tdf.specs.Definition.{Definition, IsTable, table_bytes}
use Rattle.pb_archive.specs.Entry.{Change, Added, Advanced, Stopped, table_kind, half, change_bytes}
use Rattle.pb_archive.specs.Inside.{IsSpelled}

-- a body that begins as a table's, where no table follows
pub no_table : (body : List ℕ) → ((station number : ℕ) (d : Definition) → IsTable d → drop 1 body ≡ station ∷ (half number ++ table_bytes d) → ⊥)
    → get_or body 0 0 ≡ table_kind → (said : Change) → IsSpelled said → body ≡ change_bytes said → ⊥
no_table body none kind (Added station number d) spelled bytes = none station number d spelled.2 (ap (drop 1) bytes)
no_table body none kind (Advanced id a) spelled bytes = omega (arith, ap (λ (l : List ℕ). get_or l 0 0) bytes, kind)
no_table body none kind (Stopped id stop) spelled bytes = omega (arith, ap (λ (l : List ℕ). get_or l 0 0) bytes, kind)

-- a body is its first byte and what comes after it
pub first_and : (body : List ℕ) (first : ℕ) (rest : List ℕ) → 0 < length body → get_or body 0 0 ≡ first → drop 1 body ≡ rest → body ≡ first ∷ rest
first_and [] first rest some is more = absurd (omega arith)
first_and (b ∷ body) first rest some is more = cc
