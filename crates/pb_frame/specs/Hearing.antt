-- What an unframer knows, and the list of all bytes that were pushed, for which it stands.
use Rattle.std.specs.Prelude.{◌≡◌, ◌≢◌, ℕ, ◌+◌, ◌<◌, ◌≤◌, ◌⊎◌, Bool, List, [], ◌∷◌, ◌++◌, length, All, Some}
use Rattle.pb_frame.specs.declared.heard.Heard.{Heard}
use Rattle.pb_frame.specs.declared.heard.Heard.TheVariants.{Nothing, Body, Bad}
use Rattle.pb_frame.specs.declared.state.State.{State}
use Rattle.pb_frame.specs.declared.state.State.TheVariants.{Skipping, Between, Whole as WholeBody, Plain, Quoting}
use Rattle.pb_frame.specs.Framing.{flag, quote, IsPlain, quoted, outcome, content_of, Finding, Whole, Faulty, Verdict, verdicts, IsContentSize}

-- what an unframer knows
pub record Hearing : Type 0 where
  -- where in a piece it is
  pub state : State
  -- how many bytes were pushed
  pub count : ℕ
  -- the place of the piece in progress, or just judged
  pub piece : ℕ
  -- the body bytes that it keeps
  pub body : List ℕ
  -- those without the last two
  pub content : List ℕ

abbrev pub hearing : State → ℕ → ℕ → List ℕ → Hearing
hearing state count piece body = record { state = state; count = count; piece = piece; body = body; content = content_of body }

abbrev pub HasNoFlag : List ℕ → Type 0
HasNoFlag text = All (λ byte. byte ≢ flag) text

-- a text with an outcome that nothing behind it changes
abbrev pub IsSettled : ℕ → List ℕ → Finding → Type 0
IsSettled at text o = (more : List ℕ) (ended : Bool) → outcome (record { at = at; text = text ++ more; ended = ended }) ≡ Some o

-- the piece in progress has its verdict
pub record IsJudged (pushed : List ℕ) : Type 0 where
  pub front : List ℕ
  pub text : List ℕ
  pub outcome : Finding
  pub is : pushed ≡ front ++ flag ∷ text
  pub some : 0 < length text
  pub no_flag : HasNoFlag text
  pub settled : IsSettled (length front + 1) text outcome

-- the last byte is a flag byte
pub record IsBehindFlag (pushed : List ℕ) : Type 0 where
  pub front : List ℕ
  pub is : pushed ≡ front ++ flag ∷ []

-- the piece in progress is the text of this body, and then these bytes
pub record IsWithin (piece : ℕ) (body more pushed : List ℕ) : Type 0 where
  pub front : List ℕ
  pub is : pushed ≡ front ++ flag ∷ (quoted body ++ more)
  pub at : piece ≡ length front + 1
  pub some : 0 < length body + length more

abbrev pub StandsIn : State → ℕ → List ℕ → List ℕ → Type 0
StandsIn Skipping piece body pushed = HasNoFlag pushed ⊎ IsJudged pushed
StandsIn Between piece body pushed = IsBehindFlag pushed
StandsIn WholeBody piece body pushed = IsBehindFlag pushed
StandsIn Plain piece body pushed = IsWithin piece body [] pushed
StandsIn Quoting piece body pushed = IsWithin piece body (quote ∷ []) pushed

-- An unframer that knows this stands for this list of pushed bytes.
pub record StandsFor (h : Hearing) (pushed : List ℕ) : Type 0 where
  pub count : length pushed ≡ h.count
  pub room : length h.body ≤ 1010
  pub stands : StandsIn h.state h.piece h.body pushed

-- From one state to a later one the bytes were pushed and the verdicts were shown: whatever the first stands for,
-- the later one stands for that with the bytes behind it, and the verdicts of the longer list are these more.
pub record Follows (u : Hearing) (bytes : List ℕ) (vs : List Verdict) (v : Hearing) : Type 0 where
  pub stands : (pushed : List ℕ) → StandsFor u pushed → StandsFor v (pushed ++ bytes)
  pub shows : (pushed : List ℕ) → StandsFor u pushed → verdicts (pushed ++ bytes) ≡ verdicts pushed ++ vs

-- the verdict that the answer of a push shows, for the hearing after it
abbrev pub shown : Hearing → Heard → List Verdict
shown h Nothing = []
shown h (Body at) = record { piece = h.piece; outcome = Whole h.content } ∷ []
shown h (Bad at why) = record { piece = h.piece; outcome = Faulty at why } ∷ []

-- a good body was just heard, and its content may be asked for
pub record HoldsContent (h : Hearing) : Type 0 where
  pub state : h.state ≡ WholeBody
  pub size : IsContentSize (length h.content)

-- what more holds after the answer of a push
abbrev pub IsAnswered : Hearing → Heard → Type 0
IsAnswered h Nothing = Unit {0}
IsAnswered h (Body at) = (at ≡ h.piece) × HoldsContent h
IsAnswered h (Bad at why) = at + 1 ≡ h.count

-- why a run of bytes without a verdict ends before its last one: at a byte that is to be pushed, or where the body is full
abbrev pub EndsRun : State → List ℕ → ℕ → ℕ → Type 0
EndsRun Skipping body taken byte = byte ≡ flag
EndsRun Between body taken byte = Unit {0}
EndsRun WholeBody body taken byte = Unit {0}
EndsRun Plain body taken byte = IsPlain byte → length body + taken ≡ 1010
EndsRun Quoting body taken byte = Unit {0}
