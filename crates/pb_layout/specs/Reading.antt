-- The first key, from the left, that can't be read.
use Rattle.std.specs.Prelude.{◌≡◌, ℕ, zero, suc, ◌+◌, ◌/◌, ◌%◌, min, List, [], ◌∷◌, length, take, Result, Ok, Err, nat_le, ◌==◌, ◌&&◌, if◌then◌else◌}
use Rattle.std.specs.Int.{w8, w16, w32}
use Rattle.pb_base.specs.declared.fields.FieldFault.{FieldFault}
use Rattle.pb_base.specs.declared.message.MessageFault.{MessageFault}
use Rattle.pb_base.specs.declared.message.MessageFault.TheVariants.{Malformed}
use Rattle.pb_base.specs.Fields.{Unread, behind, bytes_at, number_at, text_at}
use Rattle.pb_base.specs.Time.{time_at}
use Rattle.pb_layout.specs.Kind.{Kind, Value, Byte, Between, Half, Word, Split, Time, Text, Rest, AtMost, Numbers, Settings}
use Rattle.pb_layout.specs.Layout.{MessageLayout, Done, Stop, Key}

-- the next step, where this one didn't fail
abbrev pub and_then : {A B : Type 0} → Result A MessageFault → (A → Result B MessageFault) → Result B MessageFault
and_then (Ok x) next = next x
and_then (Err fault) next = Err fault

-- a field of its own: where it can't be read, the fault is at its first byte
abbrev pub field : {A : Type 0} → Unread → Result A FieldFault → Result A MessageFault
field u (Ok x) = Ok x
field u (Err fault) = Err (Malformed u.at)

-- a byte that was read, where it lies from low to high
abbrev pub within : ℕ → ℕ → Unread → ℕ × Unread → Result (ℕ × Unread) MessageFault
within low high u n = if nat_le low n.0 && nat_le n.0 high then Ok n else Err (Malformed u.at)

-- a number's four high bits and its twelve low ones
abbrev pub split : ℕ → ℕ × ℕ
split n = (n / 4096, n % 4096)

-- the next bytes, up to so many
abbrev pub front_at : ℕ → Unread → Result (List ℕ × Unread) MessageFault
front_at most u = Ok (take most u.rest, behind (min most (length u.rest)) u)

-- a number before those that follow
abbrev pub with_number : ℕ → ℕ → List ℕ × Unread → Result (List ℕ × Unread) MessageFault
with_number high low numbers = Ok (high ∷ low ∷ numbers.0, numbers.1)

-- numbers of two bytes up to the first 0, from the place on
abbrev pub numbers_at : List ℕ → ℕ → Result (List ℕ × Unread) MessageFault
numbers_at [] at = Err (Malformed at)
numbers_at (high ∷ []) at = Err (Malformed at)
numbers_at (high ∷ low ∷ rest) at = if high + low == 0 then Ok ([], record { at = at + 2; rest = rest })
    else and_then (numbers_at rest (at + 2)) (with_number high low)

-- what is left behind the next setting: its number, its length and its bytes are three fields
abbrev pub setting_at : Unread → Result Unread MessageFault
setting_at u =
    and_then (field u (number_at w16 u))
    (λ number. and_then (field number.1 (number_at w16 number.1))
    (λ len. and_then (field len.1 (bytes_at len.0 len.1)) (λ content. Ok content.1)))

-- settings up to the end, at most so many
abbrev pub settings_at : ℕ → Unread → Result Unread MessageFault
settings_at zero u = Ok u
settings_at (suc most) u = if length u.rest == 0 then Ok u else and_then (setting_at u) (settings_at most)

-- the key at the front
unfoldable pub key_at : (k : Kind) → Unread → Result (Value k × Unread) MessageFault
key_at Byte u = field u (number_at w8 u)
key_at (Between low high) u = and_then (field u (number_at w8 u)) (within low high u)
key_at Half u = field u (number_at w16 u)
key_at Word u = field u (number_at w32 u)
key_at Split u = and_then (field u (number_at w16 u)) (λ n. Ok (split n.0, n.1))
key_at Time u = field u (time_at u)
key_at Text u = field u (text_at u)
key_at Rest u = Ok (u.rest, behind (length u.rest) u)
key_at (AtMost most) u = front_at most u
key_at Numbers u = numbers_at u.rest u.at
key_at Settings u = and_then (settings_at (length u.rest) u) (λ end. Ok (u.rest, behind (length u.rest) u))

-- the whole message
unfoldable pub reading : {X : Type 0} → MessageLayout X → Unread → Result X MessageFault
reading (Done x) u = Ok x
reading (Stop fault) u = Err fault
reading (Key k next) u = and_then (key_at k u) (λ v. reading (next v.0) v.1)

-- what a function answered, seen by the view, is what reading gives
abbrev pub Gives : {X Y : Type 0} → (X → Y) → Result X MessageFault → Result Y MessageFault → Type 0
Gives view (Ok x) read = read ≡ Ok (view x)
Gives view (Err fault) read = read ≡ Err fault
