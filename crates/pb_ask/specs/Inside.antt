-- How listening goes, as the code has it; no promise cites this.
use Rattle.std.specs.Prelude.{◌≡◌, ◌⊎◌, ℕ, ◌+◌, ◌-◌, ◌^◌, ◌<◌, ◌≤◌, List, ◌++◌, length, min, Option, Some, None, MatchOption}
use Rattle.pb_base.specs.World.{World, quiet_ticks}
use Rattle.pb_io.specs.Site.{GrowsBy}
use Rattle.pb_io.specs.View.{Link}
use Rattle.pb_frame.specs.Framing.{Verdict}
use Rattle.pb_frame.specs.Hearing.{Follows}
use Rattle.pb_trans.specs.declared.asked.Asked.{Asked}
use Rattle.pb_trans.specs.declared.asked.Limits.{Limits}
use Rattle.pb_trans.specs.declared.asked.Step.{Step}
use Rattle.pb_trans.specs.Waiting.{Waiting, Ticks, Counts, after_sending, ticks_after_wait}
use Rattle.pb_ask.specs.declared.question.Conclusion.{Conclusion}
use Rattle.pb_ask.specs.Asking.{Sending, IsVain, ConclusionOf}
use Rattle.pb_ask.specs.Judging.{NoneShows, EndsWith, LastShows, Holds}
use Rattle.pb_ask.specs.Listening.{Listening}
use Rattle.pb_ask.specs.Ticking.{RoseBy}
use Rattle.pb_ask.specs.Wanted.{Wanted, AsksToWait}

-- ---- what judging does to an exchange

-- the content of a good body was heeded
pub record HeedsContent (content : List ℕ) (old new : Waiting) : Type 0 where
  pub same : new ≡ record old { due = new.due }
  pub due : ((seconds : ℕ) × AsksToWait old.asked seconds content × (new.due ≡ ticks_after_wait old.limits seconds))
      ⊎ (((seconds : ℕ) → AsksToWait old.asked seconds content → ⊥) × (new.due ≡ old.due))

-- these verdicts set the quiet ticks that are still to be heard, or leave them
abbrev pub SetsDue : Asked → Limits → List Verdict → ℕ → ℕ → Type 0
SetsDue asked limits shown old new =
    ((seconds : ℕ) × LastShows (AsksToWait asked) seconds shown × (new ≡ ticks_after_wait limits seconds))
    ⊎ (NoneShows (AsksToWait asked) shown × (new ≡ old))

-- these verdicts were heeded
pub record Heeds (shown : List Verdict) (old new : Waiting) : Type 0 where
  pub same : new ≡ record old { due = new.due }
  pub due : SetsDue old.asked old.limits shown old.due new.due

-- bytes at hand were judged, up to the first frame that shows something where one does
pub record Judged {E : Type 0} (P : E → List ℕ → Type 0) (old : Listening) (e_old : Waiting) (result : Option E)
    (new : Listening) (e_new : Waiting) : Type 0 where
  pub pushed : List ℕ
  pub shown : List Verdict
  pub follows : Follows old.ear pushed shown new.ear
  pub count : new.ear.count ≡ old.ear.count + length pushed
  pub split : old.inbox ≡ pushed ++ new.inbox
  pub outcome : MatchOption result (NoneShows P shown) (λ e. EndsWith P e shown)
  pub kept : MatchOption result (Unit {0}) (λ e. Holds P e shown new.ear)
  pub some : MatchOption result (Unit {0}) (λ e. 0 < length pushed)
  pub heeds : Heeds shown e_old e_new

-- what came was counted: so many bytes, or a quiet tick
pub record Counted (old : Waiting) (n : ℕ) (step : Step) (new : Waiting) : Type 0 where
  pub tick : n ≡ 0 → Ticks old step new
  pub bytes : 0 < n → Counts new.heard step
  pub heard : 0 < n → new ≡ record old { heard = new.heard }
  pub sum : 0 < n → new.heard ≡ min (old.heard + n) (2 ^ 64 - 1)

-- ---- after one sending

-- what the link heard meanwhile, and how far the unframer went
pub record Run (old : Listening) (link_old : Link) (heard : World) (new : Listening) (link_new : Link)
    (pushed : List ℕ) : Type 0 where
  pub grows : GrowsBy link_old.world link_new.world heard
  pub quiets : RoseBy (quiet_ticks heard) link_old.quiets link_new.quiets
  pub room : length old.inbox ≤ 4096
  pub count : new.ear.count ≡ old.ear.count + length pushed

-- the end of listening: so that the request is to be sent again, or with a conclusion
abbrev pub RunEnds : {A : Type 0} (wanted : Wanted A) (e : Waiting) (mid new : Listening) (due : ℕ)
    → Sending wanted e.limits mid due new → Option (Conclusion A) → Waiting → Type 0
RunEnds wanted e mid new due s None e_new = IsVain wanted e.limits mid new due s × (due ≡ 0) × (e.sent < e.limits.sends)
    × (e_new ≡ after_sending wanted.asked e.limits (e.sent + 1))
RunEnds wanted e mid new due s (Some conclusion) e_new = (resends : ℕ) × (e.sent ≡ resends + 1)
    × ConclusionOf wanted e.limits resends mid new due s conclusion

abbrev pub Listens : {A : Type 0} → Wanted A → Listening → Link → Waiting → Option (Conclusion A) → Listening → Link
    → Waiting → Type 0
Listens wanted old link_old e result new link_new e_new =
    (due : ℕ) × (s : Sending wanted e.limits old due new) × Run old link_old s.heard new link_new s.pushed
    × RunEnds wanted e old new due s result e_new

abbrev pub ListensInVain : {A : Type 0} → Wanted A → Listening → Link → Waiting → Listening → Link → Type 0
ListensInVain wanted old link_old e new link_new =
    (due : ℕ) × (s : Sending wanted e.limits old due new) × Run old link_old s.heard new link_new s.pushed
    × (IsVain wanted e.limits old new due s × (0 < due))
