-- When nothing disturbs a round: each request is answered at once and fully, and nothing else is heard.
use Rattle.std.specs.Prelude.{◌≡◌, ◌⊎◌, ⊤, ℕ, ◌<◌, ◌≤◌, List, [], ◌∷◌, ◌++◌, length}
use Rattle.std.specs.List.{AllByRecursion}
use Rattle.pb_base.specs.World.{World, Event, Begin, Sent, Quiet, bytes_heard}
use Rattle.pb_base.specs.History.{History, history}
use Rattle.pb_base.specs.Request.{Request}
use Rattle.pb_frame.specs.Framing.{IsContentSize, frame}
use Rattle.pb_bmp5.specs.TrueReply.{Delivered, Stage, FullReply}
use Rattle.pb_truth.specs.Asked.{IsIn}
use Rattle.pb_truth.specs.Honest.{Delivers}

-- no stream begins, no frame is sent, and no tick is quiet
abbrev pub IsCalm : Event → Type 0
IsCalm Begin = ⊥
IsCalm (Sent bytes) = ⊥
IsCalm Quiet = ⊥
IsCalm event = ⊤

-- The answer's stage isn't before the sending, and something is held then or nothing was stored yet.
pub record IsStageSince (sending : History) (stage : Stage) : Type 0 where
  pub stored : length sending.records ≤ stage.next
  pub oldest : sending.oldest ≤ stage.oldest
  pub held : (stage.oldest < stage.next) ⊎ (stage.next ≡ 0)

-- A frame with one request is sent, and then one frame is heard, whatever the stations store meanwhile: the full reply to the
-- request.
pub record IsExchange (before events : World) : Type 0 where
  pub sent : List ℕ
  pub rest : World
  pub is : events ≡ Sent sent ∷ rest
  pub calm : AllByRecursion IsCalm rest
  pub request : Request
  pub asks : IsIn request sent
  pub content : List ℕ
  pub size : IsContentSize (length content)
  pub heard : bytes_heard rest ≡ frame content
  pub packet : Delivered
  pub delivers : Delivers content packet
  pub reply : FullReply request packet (history (before ++ events))
  pub complete : reply.is_true.resp ≡ 0
  pub stage : IsStageSince (history before request.table) (reply.is_true.says complete).answer.stage

-- from one world to a later one, exchanges alone, one after another
pub data Undisturbed : World → World → Type 0 where
  Calm : (w events : World) → AllByRecursion IsCalm events → bytes_heard events ≡ [] → Undisturbed w (w ++ events)
  Exchanges : (w v events : World) → Undisturbed w v → IsExchange v events → Undisturbed w (v ++ events)
