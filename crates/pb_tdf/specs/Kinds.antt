-- The types of fields: their codes, and how many values and bytes a field has.
use Rattle.std.specs.Prelude.{ℕ, Option, Some, None, ◌==◌, ◌||◌, if◌then◌else◌}

abbrev pub ascii : ℕ
ascii = 11

-- a text of any length in every record; a table with one isn't collected
abbrev pub asciiz : ℕ
asciiz = 16

-- the bytes of one value; None where no type has the code. An ASCII field is one value with a byte for each
-- of its dimension, and an ASCIIZ field has no bytes of fixed place.
abbrev pub value_bytes : ℕ → Option ℕ
value_bytes k =
    if k == 16 then Some 0
    else if (k == 1) || (k == 4) || (k == 10) || (k == 11) || (k == 17) then Some 1
    else if (k == 2) || (k == 5) || (k == 7) || (k == 19) || (k == 21) || (k == 27) then Some 2
    else if k == 15 then Some 3
    else if (k == 3) || (k == 6) || (k == 8) || (k == 9) || (k == 12)
    || (k == 20) || (k == 22) || (k == 24) || (k == 28) then Some 4
    else if k == 13 then Some 6
    else if (k == 14) || (k == 18) || (k == 23) || (k == 25) then Some 8
    else None
