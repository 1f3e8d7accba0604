-- How a station on a link goes on, from step to step, and how that ends.
use Rattle.std.specs.Prelude.{◌≡◌, ◌⊎◌, ℕ, ◌+◌, ◌<◌, ◌≤◌, List, [], ◌∷◌, ◌++◌, length, map}
use Rattle.pb_base.specs.World.{World, Sent, Quiet, all_heard, bytes_heard, sent}
use Rattle.pb_station.specs.State.{State}
use Rattle.pb_serve.specs.Owed.{owed, all_owed, contents}
use Rattle.pb_serve.specs.declared.server.End.{End}
use Rattle.pb_serve.specs.declared.server.End.TheVariants.{Done, Idle, Flooded, LinkFault}
use Rattle.pb_serve.specs.declared.server.TheConstants.{CHUNK, FLOOD, IDLE}

-- One moment: the bytes that were judged and those that came and wait, the state that the station is in, how many good
-- frames were heard, how many bytes since the last of them, and how many quiet ticks in a row.
pub record Moment : Type 0 where
  pub judged : List ℕ
  pub waiting : List ℕ
  pub state : State
  pub good : ℕ
  pub since : ℕ
  pub quiets : ℕ

abbrev pub start : State → Moment
start state = record { judged = []; waiting = []; state = state; good = 0; since = 0; quiets = 0 }

-- none of the three ends has come
pub record GoesOn (goal : ℕ) (m : Moment) : Type 0 where
  pub not_done : m.good < goal
  pub not_flooded : m.since < FLOOD
  pub not_idle : m.quiets < IDLE

-- ---- the steps

abbrev pub ticked : Moment → Moment
ticked m = record m { quiets = m.quiets + 1 }

abbrev pub with_chunk : List ℕ → Moment → Moment
with_chunk chunk m = record m { waiting = chunk; quiets = 0 }

abbrev pub after_run : List ℕ → List ℕ → Moment → Moment
after_run run rest m = record m { judged = m.judged ++ run; waiting = rest; since = m.since + length run }

abbrev pub after_frame : ℕ → List ℕ → State → Moment → Moment
after_frame byte rest state m =
    record m { judged = m.judged ++ byte ∷ []; waiting = rest; state = state; good = m.good + 1; since = 0 }

-- bytes that end no good frame
abbrev pub EndsNone : List ℕ → List ℕ → Type 0
EndsNone judged run = contents (judged ++ run) ≡ contents judged

-- the byte ends a good frame of this content
abbrev pub EndsFrame : List ℕ → ℕ → List ℕ → Type 0
EndsFrame judged byte content = contents (judged ++ byte ∷ []) ≡ contents judged ++ content ∷ []

-- After these events of a station that was in this state at first and is to hear so many good frames, this is the moment.
-- A tick is quiet, or bytes come, only where none wait; what a good frame is owed is sent before the next byte is judged.
pub data Serving (first : State) (goal : ℕ) : World → Moment → Type 0 where
  Starts : Serving first goal [] (start first)
  Ticks : {w : World} {m : Moment} → Serving first goal w m → GoesOn goal m → m.waiting ≡ []
      → Serving first goal (w ++ Quiet ∷ []) (ticked m)
  Hears : {w : World} {m : Moment} → Serving first goal w m → GoesOn goal m → m.waiting ≡ []
      → (chunk : List ℕ) → 0 < length chunk → length chunk ≤ CHUNK → Serving first goal (w ++ all_heard chunk) (with_chunk chunk m)
  Passes : {w : World} {m : Moment} → Serving first goal w m → GoesOn goal m
      → (run rest : List ℕ) → m.waiting ≡ run ++ rest → EndsNone m.judged run → m.since + length run ≤ FLOOD
      → Serving first goal w (after_run run rest m)
  Answers : {w : World} {m : Moment} → Serving first goal w m → GoesOn goal m
      → (byte : ℕ) (rest content : List ℕ) → m.waiting ≡ byte ∷ rest → EndsFrame m.judged byte content
      → Serving first goal (w ++ map Sent (owed m.state content).frames) (after_frame byte rest (owed m.state content).state m)

-- ---- the ends

-- A frame that is owed wasn't sent, or it isn't known whether it was: the call failed.
pub record SendFails (first : State) (goal : ℕ) (w : World) : Type 0 where
  pub before : World
  pub moment : Moment
  pub serving : Serving first goal before moment
  pub goes_on : GoesOn goal moment
  pub byte : ℕ
  pub rest : List ℕ
  pub content : List ℕ
  pub frame : List ℕ
  pub next : moment.waiting ≡ byte ∷ rest
  pub ends_frame : EndsFrame moment.judged byte content
  pub is_owed : (owed moment.state content).frames ≡ frame ∷ []
  pub events : (w ≡ before ++ Sent frame ∷ []) ⊎ (w ≡ before)

-- Nothing came, since the call failed.
abbrev pub ReceiveFails : State → ℕ → World → Type 0
ReceiveFails first goal w = (m : Moment) × Serving first goal w m × GoesOn goal m × (m.waiting ≡ [])

-- what the events were where it ended so
abbrev pub Ends : State → ℕ → World → End → Type 0
Ends first goal w Done = (m : Moment) × Serving first goal w m × (m.good ≡ goal)
Ends first goal w Idle = (m : Moment) × Serving first goal w m × (m.quiets ≡ IDLE)
Ends first goal w Flooded = (m : Moment) × Serving first goal w m × (m.since ≡ FLOOD)
Ends first goal w LinkFault = ReceiveFails first goal w ⊎ SendFails first goal w

-- ---- what follows of that

-- The good frames among the bytes that were judged are those that were counted, all that they are owed was sent, in their
-- order, and nothing else.
pub record AllSent (first : State) (w : World) (m : Moment) : Type 0 where
  pub frames : sent w ≡ (all_owed first (contents m.judged)).frames
  pub state : m.state ≡ (all_owed first (contents m.judged)).state
  pub good : m.good ≡ length (contents m.judged)
  pub bytes : bytes_heard w ≡ m.judged ++ m.waiting

-- Before a quiet tick all is judged, and sent, that came before it.
abbrev pub SentInTime : State → World → Type 0
SentInTime first w =
    (before after : World) → w ≡ before ++ Quiet ∷ after → sent before ≡ (all_owed first (contents (bytes_heard before))).frames
