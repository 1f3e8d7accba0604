-- How one request goes, in the bytes and the verdicts of the stream alone.
use Rattle.std.specs.Prelude.{◌≡◌, ℕ, zero, suc, ◌+◌, ◌<◌, ◌≤◌, List, [], ◌∷◌, ◌++◌, length}
use Rattle.pb_base.specs.World.{World, Sent, bytes_heard}
use Rattle.pb_frame.specs.Framing.{Verdict, verdicts}
use Rattle.pb_trans.specs.declared.asked.Limits.{Limits}
use Rattle.pb_trans.specs.declared.asked.TheConstants.{FLOOD}
use Rattle.pb_ask.specs.declared.inbox.TheConstants.{CHUNK}
use Rattle.pb_ask.specs.declared.question.Conclusion.{Conclusion}
use Rattle.pb_ask.specs.declared.question.Conclusion.TheVariants.{Answer, Undelivered, NoAnswer, Flooded}
use Rattle.pb_ask.specs.Asking.{JudgedAs}
use Rattle.pb_ask.specs.Events.{HearsOnly, CameWith}
use Rattle.pb_ask.specs.Judging.{NoneShows}
use Rattle.pb_ask.specs.Ticking.{IsDue}
use Rattle.pb_ask.specs.Wanted.{Wanted, EndsBy}

-- the bytes of a stream that were judged, and those that came after them and wait
pub record Stream : Type 0 where
  pub judged : List ℕ
  pub waiting : List ℕ

abbrev pub no_stream : Stream
no_stream = record { judged = []; waiting = [] }

-- after the bytes that were judged, these show these verdicts
abbrev pub ShownAfter : List ℕ → List ℕ → List Verdict → Type 0
ShownAfter judged bytes shown = verdicts (judged ++ bytes) ≡ verdicts judged ++ shown

-- What was heard went on with the bytes of these events, and of all these the verdicts shown were judged.
pub record GoesOn (old : Stream) (events : World) (shown : List Verdict) (new : Stream) : Type 0 where
  pub bytes : (old.judged ++ old.waiting) ++ bytes_heard events ≡ new.judged ++ new.waiting
  pub verdicts_are : verdicts new.judged ≡ verdicts old.judged ++ shown

-- What was heard after one sending, and how many quiet ticks are still to be heard then. Fewer bytes than a flood and
-- one further chunk were heard.
pub record SentOnce {A : Type 0} (wanted : Wanted A) (limits : Limits) (old : Stream) (heard : World)
    (shown : List Verdict) (due : ℕ) (new : Stream) : Type 0 where
  pub hearing : HearsOnly heard
  pub brief : length (bytes_heard heard) < FLOOD + CHUNK
  pub goes_on : GoesOn old heard shown new
  pub is_due : IsDue (ShownAfter old.judged) old.waiting wanted.asked limits heard shown due

-- It was sent in vain: no verdict ends the request, all was judged, and it was no flood.
pub record SentInVain {A : Type 0} (wanted : Wanted A) (limits : Limits) (old : Stream) (heard : World) (due : ℕ)
    (new : Stream) : Type 0 where
  pub shown : List Verdict
  pub sending : SentOnce wanted limits old heard shown due new
  pub none : NoneShows (EndsBy wanted) shown
  pub all : new.waiting ≡ []
  pub no_flood : length (bytes_heard heard) < FLOOD

-- It was sent so often, each time in vain, until no quiet tick was still to be heard.
abbrev pub SentAgain : {A : Type 0} → Wanted A → Limits → ℕ → Stream → World → Stream → Type 0
SentAgain wanted limits zero old events new = (events ≡ []) × (new ≡ old)
SentAgain wanted limits (suc n) old events new =
    (mid : Stream) × (before : World) × SentAgain wanted limits n old before mid
    × ((heard : World) × SentInVain wanted limits mid heard 0 new × (events ≡ before ++ (Sent wanted.frame ∷ heard)))

-- how the last sending came to its end
abbrev pub EndsAsked : {A : Type 0} → Limits → ℕ → World → ℕ → Stream → Conclusion A → Type 0
EndsAsked limits resends heard due new (Answer answer) = CameWith heard new.waiting × (0 < due)
EndsAsked limits resends heard due new (Undelivered code) = CameWith heard new.waiting × (0 < due)
EndsAsked limits resends heard due new NoAnswer = (new.waiting ≡ []) × (resends + 1 ≡ limits.sends) × (due ≡ 0)
    × (length (bytes_heard heard) < FLOOD)
EndsAsked limits resends heard due new Flooded = (new.waiting ≡ []) × (0 < due) × (FLOOD ≤ length (bytes_heard heard))

-- A request was asked: it was sent at least once and at most as often as the limits say, all sendings but the last were
-- in vain, and of the verdicts that were judged the first that ends the request is the last.
pub record AsksOn {A : Type 0} (wanted : Wanted A) (limits : Limits) (old : Stream) (events : World)
    (conclusion : Conclusion A) (new : Stream) : Type 0 where
  pub resends : ℕ
  pub few : resends < limits.sends
  pub before : World
  pub mid : Stream
  pub again : SentAgain wanted limits resends old before mid
  pub heard : World
  pub last_shown : List Verdict
  pub due : ℕ
  pub last : SentOnce wanted limits mid heard last_shown due new
  pub ends : EndsAsked limits resends heard due new conclusion
  pub events_are : events ≡ before ++ (Sent wanted.frame ∷ heard)
  pub shown : List Verdict
  pub goes_on : GoesOn old events shown new
  pub judged : JudgedAs wanted conclusion shown

-- A call of the link failed at a request, before which no verdict ended it: a sending, which was made or not, or after
-- it a call that hears.
pub data BreaksOn {A : Type 0} (wanted : Wanted A) (limits : Limits) (mid : Stream) : World → Stream → Type 0 where
  Unsent : BreaksOn wanted limits mid [] mid
  SentOnly : BreaksOn wanted limits mid (Sent wanted.frame ∷ []) mid
  Hearing : (heard : World) (due : ℕ) (new : Stream) → SentInVain wanted limits mid heard due new → 0 < due
      → BreaksOn wanted limits mid (Sent wanted.frame ∷ heard) new

pub record StopsOn {A : Type 0} (wanted : Wanted A) (limits : Limits) (old : Stream) (events : World)
    (new : Stream) : Type 0 where
  pub resends : ℕ
  pub few : resends < limits.sends
  pub before : World
  pub mid : Stream
  pub again : SentAgain wanted limits resends old before mid
  pub rest : World
  pub breaks : BreaksOn wanted limits mid rest new
  pub events_are : events ≡ before ++ rest
