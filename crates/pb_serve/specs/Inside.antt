-- Between the code's own values and the moments of a station on a link; no promise cites this.
use Rattle.std.specs.Prelude.{◌≡◌, ◌⊎◌, ℕ, ◌+◌, ◌-◌, ◌*◌, ◌<◌, ◌≤◌, List, [], ◌∷◌, ◌++◌, map, Option, Some, MatchOption, Result, Ok, Err}
use Rattle.pb_base.specs.World.{World, Sent}
use Rattle.pb_io.specs.ChangeLog.{arrival}
use Rattle.pb_io.specs.Faults.{Rose}
use Rattle.pb_io.specs.declared.failed.Failed.{Failed}
use Rattle.pb_frame.specs.Hearing as ear
use Rattle.pb_io.specs.Site.{GrowsBy}
use Rattle.pb_io.specs.View.{Link}
use Rattle.pb_station.specs.State as station
use Rattle.pb_serve.specs.Serving.{Moment, Serving, Ends}
use Rattle.pb_serve.specs.declared.server.Server.TheInside.{Inside}
use Rattle.pb_serve.specs.declared.server.End.{End}
use Rattle.pb_serve.specs.declared.server.End.TheVariants.{LinkFault}
use Rattle.pb_serve.specs.declared.server.TheConstants.{FLOOD, IDLE}
use Rattle.pb_serve.specs.declared.goal.TheConstants.{GOAL_MAX}

-- what a server keeps
pub record Kept : Type 0 where
  pub ear : ear.Hearing
  pub station : station.KeptStation
  pub goal : ℕ
  pub good : ℕ
  pub since : ℕ
  pub quiets : ℕ

-- what is seen of its fields
abbrev pub server_view : Inside → Kept
server_view s =
    record { ear = s.ear; station = s.station; goal = s.goal; good = s.good; since = s.since; quiets = s.quiets }

pub record IsKept (k : Kept) : Type 0 where
  pub few : k.goal ≤ GOAL_MAX
  pub good : k.good ≤ k.goal
  pub since : k.since ≤ FLOOD
  pub quiets : k.quiets ≤ IDLE
  pub count : k.ear.count ≤ k.good * FLOOD + k.since

abbrev pub moment_of : Kept → List ℕ → List ℕ → station.State → Moment
moment_of k judged waiting state =
    record { judged = judged; waiting = waiting; state = state; good = k.good; since = k.since; quiets = k.quiets }

-- it stands for a moment after these events, at which these bytes wait
pub record Stands (first : station.State) (k : Kept) (w : World) (waiting : List ℕ) : Type 0 where
  pub judged : List ℕ
  pub state : station.State
  pub ear : ear.StandsFor k.ear judged
  pub station : station.StandsFor k.station state
  pub serving : Serving first k.goal w (moment_of k judged waiting state)

-- none of the three ends has come
pub record IsGoing (k : Kept) : Type 0 where
  pub not_done : k.good < k.goal
  pub not_flooded : k.since < FLOOD
  pub not_idle : k.quiets < IDLE

-- the station is one of some state
abbrev pub IsAlive : Kept → Type 0
IsAlive k = (state : station.State) × station.StandsFor k.station state

-- where it goes on, so many bytes and good frames are still to come at most
abbrev pub work : Kept → ℕ
work k = (k.goal - k.good) * (FLOOD + 1) + (FLOOD - k.since)

-- from one moment to another, at which these bytes wait, or to an end
pub record Leads (first : station.State) (goal : ℕ) (w : World) (link_old link_new : Link) (result : Option End) (new : Kept)
    (waiting : List ℕ) : Type 0 where
  pub more : World
  pub grows : GrowsBy link_old.world link_new.world more
  pub leads : MatchOption result (Stands first new (w ++ more) waiting) (λ end. Ends first goal (w ++ more) end)

-- from a moment at which nothing waits on, what came of one call is judged
pub record IsHandled (first : station.State) (goal : ℕ) (w : World) (bytes : List ℕ) (link_old link_new : Link)
    (result : Option End) (new : Kept) : Type 0 where
  pub more : World
  pub grows : GrowsBy link_old.world link_new.world more
  pub leads : MatchOption result (Stands first new (w ++ (arrival bytes ++ more)) [])
      (λ end. Ends first goal (w ++ (arrival bytes ++ more)) end)

-- a failed call is counted, and ends it
pub record Counts (result : Option End) (before now : ℕ) : Type 0 where
  pub later : before ≤ now
  pub rose : result ≡ Some LinkFault → Rose before now
  pub kept : (result ≡ Some LinkFault → ⊥) → now ≡ before

-- with other bytes heard, and so many more since the last good frame
abbrev pub passed : ear.Hearing → ℕ → Kept → Kept
passed hearing n k = record k { ear = hearing; since = k.since + n }

-- with a good frame more
abbrev pub answered : ear.Hearing → station.KeptStation → Kept → Kept
answered hearing kept k = record k { ear = hearing; station = kept; good = k.good + 1; since = 0 }

-- what is owed for a content was sent; a call that failed sent it or not
abbrev pub SendsOwed : List (List ℕ) → Option World → Option World → Result Unit Failed → Type 0
SendsOwed frames old new (Ok sent) = GrowsBy old new (map Sent frames)
SendsOwed frames old new (Err failed) =
    (frame : List ℕ) × (frames ≡ frame ∷ []) × (GrowsBy old new (Sent frame ∷ []) ⊎ GrowsBy old new [])

-- what stays: it is to hear as many good frames, and, where no end came, goes on with so much less to come
pub record GoesOn (result : Option End) (n : ℕ) (old new : Kept) : Type 0 where
  pub goal : new.goal ≡ old.goal
  pub quiets : new.quiets ≡ old.quiets
  pub alive : IsAlive new
  pub going : MatchOption result (IsGoing new) (λ end. Unit {0})
  pub less : MatchOption result (work new + n ≤ work old) (λ end. Unit {0})

-- what the first of the bytes that wait leads to
abbrev pub LeadsByte : ℕ → Kept → Link → Link → Option End → Kept → Type 0
LeadsByte byte old link_old link_new result new =
    (first : station.State) (w : World) (rest : List ℕ) → Stands first old w (byte ∷ rest)
    → Leads first old.goal w link_old link_new result new rest

-- the most calls that are still to come
abbrev pub calls : Kept → ℕ
calls k = work k * (IDLE + 1) + (IDLE - k.quiets)

pub record GoesFurther (result : Option End) (old new : Kept) : Type 0 where
  pub goal : new.goal ≡ old.goal
  pub alive : IsAlive new
  pub going : MatchOption result (IsGoing new) (λ end. Unit {0})
  pub less : MatchOption result (calls new < calls old) (λ end. Unit {0})
