-- The texts of characters in one of the two ways.
use Rattle.std.specs.Prelude.{ℕ, List}
use Rattle.pb_value.specs.Escape.{char_text, name_char_text}
use Rattle.pb_value.specs.declared.characters.Alphabet.{Alphabet}
use Rattle.pb_value.specs.declared.characters.Alphabet.TheVariants.{Values, Names}

abbrev pub character : Alphabet → ℕ → List ℕ
character Values = char_text
character Names = name_char_text
