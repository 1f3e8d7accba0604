-- One push, as a function of what is known before it.
use Rattle.std.specs.Prelude.{ℕ, ◌+◌, ◌&&◌, not, nat_eq, nat_lt, if◌then◌else◌, [], ◌∷◌, ◌++◌, length}
use Rattle.pb_frame.specs.declared.heard.Heard.{Heard}
use Rattle.pb_frame.specs.declared.heard.Heard.TheVariants.{Nothing, Body, Bad}
use Rattle.pb_frame.specs.declared.state.State.{State}
use Rattle.pb_frame.specs.declared.state.State.TheVariants.{Skipping, Between, Whole, Plain, Quoting}
use Rattle.pb_frame.specs.declared.why.Why.TheVariants.{Quote, Long, Short, Signature}
use Rattle.pb_frame.specs.Framing.{flag, quote}
use Rattle.pb_frame.specs.Signature.{start, sig}
use Rattle.pb_frame.specs.Hearing.{Hearing, hearing}

-- what is known after a push, and its answer
pub record Turn : Type 0 where
  pub after : Hearing
  pub heard : Heard

-- the byte was pushed, and the body stays
abbrev pub turned : Hearing → State → Heard → Turn
turned h state heard = record { after = hearing state (h.count + 1) h.piece h.body; heard = heard }

-- one more body byte
abbrev pub kept : Hearing → ℕ → Turn
kept h byte =
    if nat_lt (length h.body) 1010
    then record { after = hearing Plain (h.count + 1) h.piece (h.body ++ byte ∷ []); heard = Nothing }
    else turned h Skipping (Bad h.count Long)

-- the flag byte that ends a piece
abbrev pub ended : Hearing → Turn
ended h =
    if nat_lt (length h.body) 10 && not (nat_eq (length h.body) 6) then turned h Between (Bad h.count Short)
    else (if nat_eq (sig h.body start) 0 then turned h Whole (Body h.piece) else turned h Between (Bad h.count Signature))

-- a byte of a piece that isn't behind a quote byte
abbrev pub gone_on : Hearing → ℕ → Turn
gone_on h byte =
    if nat_eq byte flag then ended h
    else (if nat_eq byte quote then turned h Quoting Nothing else kept h byte)

-- a byte behind a flag byte
abbrev pub begun : Hearing → ℕ → Turn
begun h byte = if nat_eq byte flag then turned h Between Nothing else gone_on (hearing Plain h.count h.count []) byte

-- a byte behind a quote byte
abbrev pub unquoted_by : Hearing → ℕ → Turn
unquoted_by h byte =
    if nat_eq byte 0xDC then kept h quote
    else (if nat_eq byte 0xDD then kept h flag
    else (if nat_eq byte flag then turned h Between (Bad h.count Quote) else turned h Skipping (Bad h.count Quote)))

-- a byte of what is passed over
abbrev pub passed : Hearing → ℕ → Turn
passed h byte = if nat_eq byte flag then turned h Between Nothing else turned h Skipping Nothing

abbrev pub turn_in : State → Hearing → ℕ → Turn
turn_in Skipping h byte = passed h byte
turn_in Between h byte = begun h byte
turn_in Whole h byte = begun h byte
turn_in Plain h byte = gone_on h byte
turn_in Quoting h byte = unquoted_by h byte

unfoldable pub turn : Hearing → ℕ → Turn
turn h byte = turn_in h.state h byte
