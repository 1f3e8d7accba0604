-- The text of a value, by the code of its type.
use Rattle.std.specs.Prelude.{◌≡◌, ◌≢◌, ℕ, ◌⊎◌, ◌==◌, if◌then◌else◌, pos, List, Some, length, codes, decimal}
use Rattle.std.specs.Fmt.{signed_decimal}
use Rattle.std.specs.Int.{Width, w8, w16, w32, from_be_bytes, cast_signed}
use Rattle.pb_base.specs.Time.{time_of}
use Rattle.pb_tdf.specs.Kinds.{ascii, asciiz, value_bytes}
use Rattle.pb_value.specs.Escape.{ascii_text}
use Rattle.pb_value.specs.Fp2.{fp2_text}
use Rattle.pb_value.specs.Hex.{hex}
use Rattle.pb_value.specs.TimeText.{time_text}
use Rattle.pb_value.specs.Values.{ValueView}

-- how the bytes of a value are written
pub data Form : Type 0 where
  Unsigned : Width → Form
  Signed : Width → Form
  Decimal : Form
  Truth : Form
  Characters : Form
  Seconds : Form
  Time : Form
  Hexadecimal : Form

abbrev pub form_of : ℕ → Form
form_of kind =
    if kind == 1 then Unsigned w8 else if kind == 2 then Unsigned w16 else if kind == 3 then Unsigned w32
    else if kind == 4 then Signed w8 else if kind == 5 then Signed w16 else if kind == 6 then Signed w32
    else if kind == 7 then Decimal else if kind == 10 then Truth else if kind == ascii then Characters
    else if kind == 12 then Seconds else if kind == 14 then Time else Hexadecimal

abbrev pub truth_text : ℕ → List ℕ
truth_text n = if n == 0 then codes "false" else codes "true"

-- numbers have their highest byte first
abbrev pub form_text : Form → List ℕ → List ℕ
form_text (Unsigned w) bytes = decimal (from_be_bytes w bytes)
form_text (Signed w) bytes = signed_decimal (cast_signed w (from_be_bytes w bytes))
form_text Decimal bytes = fp2_text (from_be_bytes w16 bytes)
form_text Truth bytes = truth_text (from_be_bytes w8 bytes)
form_text Characters bytes = ascii_text bytes
form_text Seconds bytes = time_text (record { sec = cast_signed w32 (from_be_bytes w32 bytes); nano = pos 0 })
form_text Time bytes = time_text (time_of bytes)
form_text Hexadecimal bytes = hex bytes

unfoldable pub value_text : ℕ → List ℕ → List ℕ
value_text kind bytes = form_text (form_of kind) bytes

-- the bytes are a value of this type; those of an ASCII value may be any
abbrev pub IsValue : ℕ → List ℕ → Type 0
IsValue kind bytes = (kind ≡ ascii) ⊎ ((kind ≢ asciiz) × (value_bytes kind ≡ Some (length bytes)))

-- so has a value that is seen
abbrev pub HasText : ValueView → Type 0
HasText v = IsValue v.kind v.bytes
