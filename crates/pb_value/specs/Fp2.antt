-- Numbers of type FP2: a decimal number in two bytes.
use Rattle.std.specs.Prelude.{ℕ, ◌/◌, ◌%◌, ◌^◌, List, [], ◌++◌, Bool, ◌==◌, if◌then◌else◌, codes, decimal}
use Rattle.pb_value.specs.TimeText.{digits}

-- the words that are no numbers
abbrev pub infinity : ℕ
infinity = 0x1FFF

abbrev pub minus_infinity : ℕ
minus_infinity = 0x9FFF

abbrev pub not_a_number : ℕ
not_a_number = 0x9FFE

-- the highest bit is the sign, the next two are the number of decimals, and thirteen bits are the mantissa
abbrev pub is_negative : ℕ → Bool
is_negative word = word / 2 ^ 15 == 1

abbrev pub decimals : ℕ → ℕ
decimals word = word / 2 ^ 13 % 4

abbrev pub mantissa : ℕ → ℕ
mantissa word = word % 2 ^ 13

abbrev pub sign_text : Bool → List ℕ
sign_text negative = if negative then codes "-" else []

-- a number with so many decimals, and no point where there are none
abbrev pub decimals_text : ℕ → ℕ → List ℕ
decimals_text count m = if count == 0 then [] else codes "." ++ digits count m

-- a sign, and a number with so many decimals
abbrev pub signed_text : Bool → ℕ → ℕ → List ℕ
signed_text negative m count = sign_text negative ++ decimal (m / 10 ^ count) ++ decimals_text count m

abbrev pub number_text : ℕ → List ℕ
number_text word = signed_text (is_negative word) (mantissa word) (decimals word)

unfoldable pub fp2_text : ℕ → List ℕ
fp2_text word =
    if word == infinity then codes "INF"
    else if word == minus_infinity then codes "-INF"
    else if word == not_a_number then codes "NAN" else number_text word
