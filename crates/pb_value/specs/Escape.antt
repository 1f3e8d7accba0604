-- Bytes as printable characters.
use Rattle.std.specs.Prelude.{ℕ, List, [], ◌∷◌, Bool, ◌&&◌, ◌==◌, nat_le, if◌then◌else◌, take, Option, Some, None, position}
use Rattle.std.specs.List.{flat_map}
use Rattle.pb_value.specs.Hex.{digits_of}

abbrev pub space : ℕ
space = 32

abbrev pub backslash : ℕ
backslash = 92

-- printable characters, which are written as they are
abbrev pub is_printable : ℕ → Bool
is_printable byte = nat_le 32 byte && nat_le byte 126

-- `\x` and two digits
abbrev pub escaped : ℕ → List ℕ
escaped byte = 92 ∷ 120 ∷ digits_of byte

-- a character of a text: a backslash is doubled, and what isn't printable is escaped
abbrev pub char_text : ℕ → List ℕ
char_text byte =
    if byte == backslash then backslash ∷ backslash ∷ []
    else if is_printable byte then byte ∷ [] else escaped byte

-- a character of a name: a space is escaped too
abbrev pub name_char_text : ℕ → List ℕ
name_char_text byte = if byte == space then escaped byte else char_text byte

-- the bytes before the first zero byte; all where there is none
abbrev pub before : List ℕ → Option ℕ → List ℕ
before bytes (Some n) = take n bytes
before bytes None = bytes

abbrev pub before_zero : List ℕ → List ℕ
before_zero bytes = before bytes (position (λ byte. byte == 0) bytes)

-- the text of an ASCII value
unfoldable pub ascii_text : List ℕ → List ℕ
ascii_text bytes = flat_map char_text (before_zero bytes)

-- the escaped text of a name
unfoldable pub name_text : List ℕ → List ℕ
name_text bytes = flat_map name_char_text bytes
