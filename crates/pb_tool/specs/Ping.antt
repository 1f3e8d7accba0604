-- What the answers of `ping` mean.
pub mod Requests
use Rattle.std.specs.Prelude.{◌≡◌, ◌≢◌, ◌⊎◌, ℕ, zero, suc, List, ◌++◌, Some, Result, Ok, Err}
use Rattle.pb_base.specs.World.{World, quiet_ticks, sent}
use Rattle.pb_base.specs.declared.nsec.Nsec.{Nsec}
use Rattle.pb_io.specs.Site.{GrowsBy}
use Rattle.pb_io.specs.View.{View, Link}
use Rattle.pb_ask.specs.Events.{Repeats}
use Rattle.pb_ask.specs.Stream.{Stream, no_stream, AsksOn, StopsOn}
use Rattle.pb_ask.specs.Ticking.{RoseBy}
use Rattle.pb_ask.specs.declared.question.Conclusion.{Conclusion}
use Rattle.pb_ask.specs.declared.question.Conclusion.TheVariants as conclusion
use Rattle.pb_tool.specs.declared.ping.answer.Pinged.{Pinged}
use Rattle.pb_collect.specs.declared.report.Cause.{Cause}
use Rattle.pb_collect.specs.declared.report.Cause.TheVariants.{NoAnswer, Flooded, Undelivered, Refused}
use Rattle.pb_tool.specs.declared.ping.answer.PingFault.{PingFault}
use Rattle.pb_tool.specs.declared.ping.answer.PingFault.TheVariants as fault
use Rattle.pb_tool.specs.declared.ping.questions.Greeting.{Greeting}
use Rattle.pb_tool.specs.declared.ping.questions.Reading.{Reading}
use Rattle.pb_tool.specs.Ping.Requests.{limits, hello, clock}

-- the answer, or why there is none
abbrev pub answered : {A : Type 0} → Conclusion A → Result A Cause
answered (conclusion.Answer answer) = Ok answer
answered conclusion.NoAnswer = Err NoAnswer
answered conclusion.Flooded = Err Flooded
answered (conclusion.Undelivered code) = Err (Undelivered code)

-- The hello was asked over a link of which nothing was heard in this call, and had this conclusion; the stream is that of
-- the bytes heard in this call.
abbrev pub AsksHello : (me node : ℕ) → World → Conclusion Greeting → Stream → Type 0
AsksHello me node events o new = AsksOn (hello me node) limits no_stream events o new

-- The hello was answered so, and then the clock was asked, and had this conclusion.
pub record AsksClock (me node : ℕ) (greeting : Greeting) (events : World) (o : Conclusion Reading) : Type 0 where
  pub first : World
  pub second : World
  pub mid : Stream
  pub last : Stream
  pub is : events ≡ first ++ second
  pub greeted : AsksHello me node first (conclusion.Answer greeting) mid
  pub asks : AsksOn (clock me node) limits mid second o last

-- the hello has no answer, for this cause
pub record HelloFails (me node : ℕ) (cause : Cause) (events : World) : Type 0 where
  pub conclusion : Conclusion Greeting
  pub last : Stream
  pub why : answered conclusion ≡ Err cause
  pub asks : AsksHello me node events conclusion last

-- there is no time: no answer, for this cause, or one with a response code that isn't 0
abbrev pub NoClock : (me node : ℕ) → Cause → Greeting → World → Type 0
NoClock me node (Refused code) greeting events = (code ≢ 0)
    × ((time : Nsec) × AsksClock me node greeting events (conclusion.Answer (record { resp = code; time = time })))
NoClock me node cause greeting events = (o : Conclusion Reading) × (answered o ≡ Err cause) × AsksClock me node greeting events o

-- a call of the link failed at the hello
abbrev pub StopsAtHello : (me node : ℕ) → World → Type 0
StopsAtHello me node events = (last : Stream) × StopsOn (hello me node) limits no_stream events last

-- or at the clock, after an answered hello
pub record StopsAtClock (me node : ℕ) (events : World) : Type 0 where
  pub first : World
  pub second : World
  pub greeting : Greeting
  pub mid : Stream
  pub last : Stream
  pub is : events ≡ first ++ second
  pub greeted : AsksHello me node first (conclusion.Answer greeting) mid
  pub stops : StopsOn (clock me node) limits mid second last

-- the events of the call, and its answer
abbrev pub Pings : ℕ → ℕ → World → Result Pinged PingFault → Type 0
Pings me node events (Ok p) =
    AsksClock me node (record { router = p.router; metric = p.metric; verify = p.verify }) events
    (conclusion.Answer (record { resp = 0; time = p.time }))
Pings me node events (Err (fault.Hello cause)) = HelloFails me node cause events
Pings me node events (Err (fault.Clock cause router metric verify)) =
    NoClock me node cause (record { router = router; metric = metric; verify = verify }) events
Pings me node events (Err fault.LinkFault) = StopsAtHello me node events ⊎ StopsAtClock me node events

-- The world grew by these events, which mean this answer; the count of quiet ticks rose by theirs, also where the world
-- isn't known.
pub record Pinging (me node : ℕ) (link_old link_new : Link) (answer : Result Pinged PingFault) : Type 0 where
  pub events : World
  pub grows : GrowsBy link_old.world link_new.world events
  pub quiets : RoseBy (quiet_ticks events) link_old.quiets link_new.quiets
  pub pings : Pings me node events answer

-- ---- what a crash may leave meanwhile

-- an image of before, and the world of before, after which the hello was sent, three times at most, and then the clock
-- command, three times at most
pub record Greets (me node : ℕ) (old : View) (w : World) (c : List ℕ) : Type 0 where
  pub image : old.image c
  pub before : World
  pub more : World
  pub known : old.link.world ≡ Some before
  pub is : w ≡ before ++ more
  pub hellos : List (List ℕ)
  pub clocks : List (List ℕ)
  pub frames : sent more ≡ hellos ++ clocks
  pub hellos_are : Repeats (hello me node).frame 3 hellos
  pub clocks_are : Repeats (clock me node).frame 3 clocks

-- ---- how the code puts its answer together

abbrev pub read_time : Greeting → ℕ → Nsec → Result Pinged PingFault
read_time g zero time = Ok (record { router = g.router; metric = g.metric; verify = g.verify; time = time })
read_time g (suc code) time = Err (fault.Clock (Refused (suc code)) g.router g.metric g.verify)

abbrev pub concluded : Greeting → Conclusion Reading → Result Pinged PingFault
concluded g (conclusion.Answer r) = read_time g r.resp r.time
concluded g conclusion.NoAnswer = Err (fault.Clock NoAnswer g.router g.metric g.verify)
concluded g conclusion.Flooded = Err (fault.Clock Flooded g.router g.metric g.verify)
concluded g (conclusion.Undelivered code) = Err (fault.Clock (Undelivered code) g.router g.metric g.verify)
