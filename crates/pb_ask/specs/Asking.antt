-- How one request goes.
use Rattle.std.specs.Prelude.{◌≡◌, ℕ, zero, suc, ◌+◌, ◌<◌, ◌≤◌, List, [], ◌∷◌, ◌++◌, length}
use Rattle.pb_base.specs.World.{World, Sent, bytes_heard, quiet_ticks}
use Rattle.pb_io.specs.Site.{GrowsBy}
use Rattle.pb_io.specs.View.{Link}
use Rattle.pb_frame.specs.Framing.{Verdict}
use Rattle.pb_frame.specs.Hearing.{Follows}
use Rattle.pb_trans.specs.declared.asked.Limits.{Limits}
use Rattle.pb_trans.specs.declared.asked.TheConstants.{FLOOD}
use Rattle.pb_ask.specs.declared.inbox.TheConstants.{CHUNK}
use Rattle.pb_ask.specs.declared.question.Ended.TheVariants as ended
use Rattle.pb_ask.specs.declared.question.Conclusion.{Conclusion}
use Rattle.pb_ask.specs.declared.question.Conclusion.TheVariants.{Answer, Undelivered, NoAnswer, Flooded}
use Rattle.pb_ask.specs.Events.{HearsOnly, CameWith}
use Rattle.pb_ask.specs.Judging.{NoneShows, EndsWith, Holds, ShownBy}
use Rattle.pb_ask.specs.Listening.{Listening}
use Rattle.pb_ask.specs.Ticking.{RoseBy, IsDue}
use Rattle.pb_ask.specs.Wanted.{Wanted, EndsBy}

-- All that was judged in one call, from what waited on: what wasn't judged waits.
pub record Hears (old : Listening) (events : World) (new : Listening) : Type 0 where
  pub pushed : List ℕ
  pub shown : List Verdict
  pub follows : Follows old.ear pushed shown new.ear
  pub split : old.inbox ++ bytes_heard events ≡ pushed ++ new.inbox

-- What was heard and judged after one sending, and how many quiet ticks are still to be heard then. Fewer bytes than a
-- flood and one further chunk were heard.
pub record Sending {A : Type 0} (wanted : Wanted A) (limits : Limits) (old : Listening) (due : ℕ) (new : Listening) : Type 0 where
  pub heard : World
  pub hearing : HearsOnly heard
  pub brief : length (bytes_heard heard) < FLOOD + CHUNK
  pub pushed : List ℕ
  pub shown : List Verdict
  pub follows : Follows old.ear pushed shown new.ear
  pub split : old.inbox ++ bytes_heard heard ≡ pushed ++ new.inbox
  pub is_due : IsDue (ShownBy old.ear) old.inbox wanted.asked limits heard shown due

-- Nothing that was judged after the sending ended the request; all was judged, and it was no flood.
pub record IsVain {A : Type 0} (wanted : Wanted A) (limits : Limits) (old new : Listening) (due : ℕ)
    (s : Sending wanted limits old due new) : Type 0 where
  pub none : NoneShows (EndsBy wanted) s.shown
  pub all : new.inbox ≡ []
  pub no_flood : length (bytes_heard s.heard) < FLOOD

-- The frame was sent so often, each time in vain, until no quiet tick was still to be heard.
abbrev pub Resent : {A : Type 0} → Wanted A → Limits → ℕ → Listening → World → Listening → Type 0
Resent wanted limits zero old events new = (events ≡ []) × (new ≡ old)
Resent wanted limits (suc n) old events new =
    (mid : Listening) × (before : World) × Resent wanted limits n old before mid
    × ((s : Sending wanted limits mid 0 new) × IsVain wanted limits mid new 0 s
    × (events ≡ before ++ (Sent wanted.frame ∷ s.heard)))

-- why a request ended after its last sending
abbrev pub ConclusionOf : {A : Type 0} (wanted : Wanted A) (limits : Limits) (resends : ℕ) (mid new : Listening) (due : ℕ)
    → Sending wanted limits mid due new → Conclusion A → Type 0
ConclusionOf wanted limits resends mid new due s (Answer answer) =
    EndsWith (EndsBy wanted) (ended.Answer answer) s.shown × Holds (EndsBy wanted) (ended.Answer answer) s.shown new.ear
    × CameWith s.heard new.inbox × (0 < due)
ConclusionOf wanted limits resends mid new due s (Undelivered code) =
    EndsWith (EndsBy wanted) (ended.Undelivered code) s.shown × CameWith s.heard new.inbox × (0 < due)
ConclusionOf wanted limits resends mid new due s NoAnswer = IsVain wanted limits mid new due s
    × (resends + 1 ≡ limits.sends) × (due ≡ 0)
ConclusionOf wanted limits resends mid new due s Flooded = NoneShows (EndsBy wanted) s.shown × (new.inbox ≡ [])
    × (FLOOD ≤ length (bytes_heard s.heard)) × (0 < due)

-- The frame was sent at least once and at most as often as the limits say, and all sendings but the last were in vain.
-- Of the good frames that were judged the first that ends the request is the last; what came after it waits.
pub record Asks {A : Type 0} (wanted : Wanted A) (limits : Limits) (old : Listening) (link_old : Link)
    (conclusion : Conclusion A) (new : Listening) (link_new : Link) : Type 0 where
  pub resends : ℕ
  pub few : resends < limits.sends
  pub before : World
  pub mid : Listening
  pub resent : Resent wanted limits resends old before mid
  pub due : ℕ
  pub last : Sending wanted limits mid due new
  pub ended : ConclusionOf wanted limits resends mid new due last conclusion
  pub grows : GrowsBy link_old.world link_new.world (before ++ (Sent wanted.frame ∷ last.heard))
  pub quiets : RoseBy (quiet_ticks (before ++ (Sent wanted.frame ∷ last.heard))) link_old.quiets link_new.quiets

-- what all judged verdicts show: only the last of them ends a request, where one does
abbrev pub JudgedAs : {A : Type 0} → Wanted A → Conclusion A → List Verdict → Type 0
JudgedAs wanted (Answer answer) shown = EndsWith (EndsBy wanted) (ended.Answer answer) shown
JudgedAs wanted (Undelivered code) shown = EndsWith (EndsBy wanted) (ended.Undelivered code) shown
JudgedAs wanted NoAnswer shown = NoneShows (EndsBy wanted) shown
JudgedAs wanted Flooded shown = NoneShows (EndsBy wanted) shown

-- A call failed: a sending, which was made or not, or after it a call that hears.
pub data Breaks {A : Type 0} (wanted : Wanted A) (limits : Limits) (mid : Listening) : World → Listening → Type 0 where
  Unsent : Breaks wanted limits mid [] mid
  SentOnly : Breaks wanted limits mid (Sent wanted.frame ∷ []) mid
  Hearing : (new : Listening) (due : ℕ) (s : Sending wanted limits mid due new) → IsVain wanted limits mid new due s
      → 0 < due → Breaks wanted limits mid (Sent wanted.frame ∷ s.heard) new

-- A call of the link failed, before which nothing that was judged ended the request.
pub record Stops {A : Type 0} (wanted : Wanted A) (limits : Limits) (old : Listening) (link_old : Link) (new : Listening)
    (link_new : Link) : Type 0 where
  pub resends : ℕ
  pub few : resends < limits.sends
  pub before : World
  pub mid : Listening
  pub resent : Resent wanted limits resends old before mid
  pub rest : World
  pub breaks : Breaks wanted limits mid rest new
  pub grows : GrowsBy link_old.world link_new.world (before ++ rest)
  pub quiets : RoseBy (quiet_ticks (before ++ rest)) link_old.quiets link_new.quiets
