-- What an exchange knows, and the inputs since its begin for which it stands.
use Rattle.std.specs.Prelude.{◌≡◌, ℕ, zero, suc, ◌+◌, ◌-◌, ◌<◌, ◌≤◌, ◌⊎◌, List, [], ◌∷◌, ◌++◌, All, min}
use Rattle.pb_packet.specs.declared.headers.Header.{Header}
use Rattle.pb_trans.specs.declared.asked.Asked.{Asked}
use Rattle.pb_trans.specs.declared.asked.Limits.{Limits}
use Rattle.pb_trans.specs.declared.asked.Step.{Step}
use Rattle.pb_trans.specs.declared.asked.Step.TheVariants.{Wait, Resend, NoAnswer, Flooded}
use Rattle.pb_trans.specs.declared.asked.TheConstants.{FLOOD, WAIT_MAX}
use Rattle.pb_trans.specs.Asking.{IsPleaseWait}

-- a packet was heard; a tick was quiet; so many bytes were heard
pub data Input : Type 0 where
  Packet : (header : Header) (message : List ℕ) → Input
  Tick : Input
  Bytes : (n : ℕ) → Input

abbrev pub ticks_in : List Input → ℕ
ticks_in [] = 0
ticks_in (Tick ∷ rest) = ticks_in rest + 1
ticks_in (input ∷ rest) = ticks_in rest

abbrev pub bytes_in : List Input → ℕ
bytes_in [] = 0
bytes_in (Bytes n ∷ rest) = bytes_in rest + n
bytes_in (input ∷ rest) = bytes_in rest

-- the station asked to wait so many seconds
abbrev pub AsksToWait : Asked → ℕ → Input → Type 0
AsksToWait asked seconds (Packet header message) = IsPleaseWait asked seconds header message
AsksToWait asked seconds input = ⊥

-- ---- the quiet ticks that are still to be heard

-- after a please-wait of so many seconds, in place of all that were to be heard before it
abbrev pub ticks_after_wait : Limits → ℕ → ℕ
ticks_after_wait limits seconds = limits.quiets + min seconds WAIT_MAX

-- these inputs end with a please-wait after which so many ticks are to be heard
pub record SetBy (asked : Asked) (limits : Limits) (inputs : List Input) (ticks : ℕ) : Type 0 where
  pub earlier : List Input
  pub last : Input
  pub seconds : ℕ
  pub is : inputs ≡ earlier ++ last ∷ []
  pub asks : AsksToWait asked seconds last
  pub ticks_are : ticks ≡ ticks_after_wait limits seconds

-- So many as the sending, or the last please-wait after it, asks for, less those that were quiet since then.
pub record IsDue (asked : Asked) (limits : Limits) (inputs : List Input) (due : ℕ) : Type 0 where
  pub before : List Input
  pub since : List Input
  pub ticks : ℕ
  pub split : inputs ≡ before ++ since
  pub none_waits : (seconds : ℕ) → All (λ input. AsksToWait asked seconds input → ⊥) since
  pub set : ((before ≡ []) × (ticks ≡ limits.quiets)) ⊎ SetBy asked limits before ticks
  pub due_is : due ≡ ticks - ticks_in since

-- ---- the sendings

-- the inputs of one sending that is over: the last is the tick that was still to be heard
pub record IsOver (asked : Asked) (limits : Limits) (inputs : List Input) : Type 0 where
  pub earlier : List Input
  pub due : ℕ
  pub is_due : IsDue asked limits earlier due
  pub last_one : due ≤ 1
  pub is : inputs ≡ earlier ++ Tick ∷ []

-- so many sendings are over, one after another
abbrev pub AreOver : Asked → Limits → ℕ → List Input → Type 0
AreOver asked limits zero inputs = inputs ≡ []
AreOver asked limits (suc n) inputs =
    (earlier : List Input) × (last : List Input) × AreOver asked limits n earlier × IsOver asked limits last
    × (inputs ≡ earlier ++ last)

-- what an exchange knows: how often was sent, and since then how many quiet ticks are still to be heard, and the bytes
pub record Waiting : Type 0 where
  pub asked : Asked
  pub limits : Limits
  pub sent : ℕ
  pub due : ℕ
  pub heard : ℕ

-- An exchange that knows this stands for these inputs since its begin: all sendings but the last are over.
pub record StandsFor (e : Waiting) (inputs : List Input) : Type 0 where
  pub earlier : List Input
  pub last : List Input
  pub resends : ℕ
  pub sent : e.sent ≡ resends + 1
  pub few : e.sent ≤ e.limits.sends
  pub over : AreOver e.asked e.limits resends earlier
  pub split : inputs ≡ earlier ++ last
  pub due : IsDue e.asked e.limits last e.due
  -- a count stands still at the greatest number of its type
  pub heard : e.heard ≡ min (bytes_in last) (18446744073709551615)

-- ---- one call

abbrev pub after_sending : Asked → Limits → ℕ → Waiting
after_sending asked limits sent = record { asked = asked; limits = limits; sent = sent; due = limits.quiets; heard = 0 }

-- a packet was heard: one that asks to wait sets the ticks that are still to be heard
pub record Hears (old : Waiting) (header : Header) (message : List ℕ) (new : Waiting) : Type 0 where
  pub same : new ≡ record old { due = new.due }
  pub due : ((seconds : ℕ) × IsPleaseWait old.asked seconds header message × (new.due ≡ ticks_after_wait old.limits seconds))
      ⊎ (((seconds : ℕ) → IsPleaseWait old.asked seconds header message → ⊥) × (new.due ≡ old.due))

-- a tick was quiet
abbrev pub Ticks : Waiting → Step → Waiting → Type 0
Ticks old Wait new = (1 < old.due) × (new ≡ record old { due = old.due - 1 })
Ticks old Resend new = (old.due ≤ 1) × (old.sent < old.limits.sends) × (new ≡ after_sending old.asked old.limits (old.sent + 1))
Ticks old NoAnswer new = (old.due ≤ 1) × (old.sent ≡ old.limits.sends) × (new ≡ record old { due = 0 })
Ticks old step new = ⊥

-- bytes were heard, so many since the last sending
abbrev pub Counts : ℕ → Step → Type 0
Counts heard Flooded = FLOOD ≤ heard
Counts heard Wait = heard < FLOOD
Counts heard step = ⊥
