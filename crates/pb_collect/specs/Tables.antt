-- How a table was collected in a round.
use Rattle.std.specs.Prelude.{◌≡◌, ◌⊎◌, ℕ, zero, suc, ◌+◌, ◌-◌, ◌<◌, ◌≤◌, Option, None, Some, Ok}
use Rattle.pb_base.specs.declared.layout.Layout.{Layout}
use Rattle.pb_trans.specs.declared.asked.Limits.{Limits}
use Rattle.pb_io.specs.View.{Link}
use Rattle.pb_archive.specs.Plan.{Plan}
use Rattle.pb_archive.specs.declared.held.Held.{Held}
use Rattle.pb_archive.specs.declared.table_view.Stop.{Stop as TableStop}
use Rattle.pb_ask.specs.Listening.{Listening}
use Rattle.pb_bmp5.specs.declared.message.Mode.{Mode}
use Rattle.pb_collect.specs.Changing.{GoesOnAs}
use Rattle.pb_collect.specs.Commands.{IsCommandTo}
use Rattle.pb_collect.specs.Ends.{asked_once_more}
use Rattle.pb_collect.specs.Exchanges.{BreaksBy, Exchanged}
use Rattle.pb_collect.specs.Progress.{Progress, begun}
use Rattle.pb_collect.specs.declared.broken.Broken.{Broken}
use Rattle.pb_collect.specs.declared.broken.Broken.TheVariants.{DiskFault}
use Rattle.pb_collect.specs.declared.ending.End.{End}
use Rattle.pb_collect.specs.declared.ending.End.TheVariants.{Done, NoAnswer, Flooded, Undelivered, Refused, Redefined, Budget}
use Rattle.pb_collect.specs.declared.ending.Next.{Next}
use Rattle.pb_collect.specs.declared.ending.Next.TheVariants.{Ask, Stop, Ends}
use Rattle.pb_collect.specs.declared.outcome.Outcome.{Outcome}
use Rattle.pb_collect.specs.declared.state.State.{State}
use Rattle.pb_collect.specs.declared.question.CollectCommand.{CollectCommand}

-- Requests may be sent, and each table at least one, within the most requests that a table may take.
pub record AreLimits (limits : Limits) : Type 0 where
  pub sends : 1 ≤ limits.sends
  pub quiets : 1 ≤ limits.quiets
  pub budget : 1 ≤ limits.budget
  pub spent : limits.budget ≤ 1000000

-- the end that comes next; none where the table is stopped
abbrev pub end_of : Option End → Next
end_of None = Stop
end_of (Some end) = Ends end

-- ---- requests, one after the other

-- the link, and what was heard on it and isn't judged yet
pub record Channel : Type 0 where
  pub listener : Listening
  pub link : Link

-- a moment between two requests of a table
pub record Point : Type 0 where
  pub channel : Channel
  pub progress : Progress

abbrev pub channel : Listening → Link → Channel
channel listener link = record { listener = listener; link = link }

abbrev pub point : Listening → Link → Progress → Point
point listener link p = record { channel = channel listener link; progress = p }

-- One request of the table: its frame was sent, at most as often as the limits say, it had an outcome, an answer was taken,
-- and this comes next.
pub record Requested (limits : Limits) (plan : Plan) (held : Held) (from : Point) (next : Next) (to : Point) : Type 0 where
  pub command : CollectCommand
  pub of : IsCommandTo plan held from.progress command
  pub exchanged : Exchanged command limits from.channel.listener from.channel.link from.progress next
      to.channel.listener to.channel.link to.progress

-- so many requests, after each of which another comes
abbrev pub Requests : Limits → Plan → Held → ℕ → Point → Point → Type 0
Requests limits plan held zero from to = to ≡ from
Requests limits plan held (suc n) from to =
    (mid : Point) × (mode : Mode) × Requests limits plan held n from mid × Requested limits plan held mid (Ask mode) to

-- so many requests, after the last of which this comes
pub record Asked (limits : Limits) (plan : Plan) (held : Held) (asked : ℕ) (from : Point) (next : Next)
    (to : Point) : Type 0 where
  pub before : ℕ
  pub count : asked ≡ before + 1
  pub mid : Point
  pub requests : Requests limits plan held before from mid
  pub last : Requested limits plan held mid next to

-- ---- a table that was asked

-- the table ended so after its last request; where that answered so it was stopped
abbrev pub EndedBy : Limits → Plan → Held → ℕ → Point → End → Point → Type 0
EndedBy limits plan held asked from end to =
    Asked limits plan held asked from (Ends end) to
    ⊎ (Asked limits plan held asked from Stop to × (end ≡ Redefined held.table.signature None))

-- where a table begins that has this front, whatever was collected before it
abbrev pub start_of : Channel → Progress → Layout → ℕ → Point
start_of channel p layout front = record { channel = channel; progress = asked_once_more (begun p layout front) }

-- A table without a stop was asked from its front on, within the budget, until it ended. Its new front is as far as the
-- answers went.
pub record Collected (limits : Limits) (plan : Plan) (held : Held) (o : Outcome) (from to : Channel) : Type 0 where
  pub going_on : held.stop ≡ None
  pub layout : Layout
  pub has_layout : held.table.layout ≡ Ok layout
  pub idle : Progress
  pub last : Progress
  pub ended : EndedBy limits plan held o.asked (start_of from idle layout held.front) o.end
      (record { channel = to; progress = last })
  pub within : o.asked ≤ limits.budget
  pub front : o.to.0 ≡ last.front

-- ---- a table at which a round was broken off

-- After so many requests one was broken off.
pub record BreaksAt (broken : Broken) (limits : Limits) (plan : Plan) (held : Held) (from : Point) (link : Link) : Type 0 where
  pub before : ℕ
  pub few : before < limits.budget
  pub mid : Point
  pub requests : Requests limits plan held before from mid
  pub command : CollectCommand
  pub of : IsCommandTo plan held mid.progress command
  pub breaks : BreaksBy broken command limits mid.channel.listener mid.channel.link link

-- After the last request the table's stop couldn't be made.
pub record StopFails (broken : Broken) (limits : Limits) (plan : Plan) (held : Held) (from : Point) (link : Link) : Type 0 where
  pub fault : broken ≡ DiskFault
  pub asked : ℕ
  pub within : asked ≤ limits.budget
  pub to : Point
  pub requests : Asked limits plan held asked from Stop to
  pub same : link ≡ to.channel.link

abbrev pub BreaksFrom : Broken → Limits → Plan → Held → Point → Link → Type 0
BreaksFrom broken limits plan held from link =
    BreaksAt broken limits plan held from link ⊎ StopFails broken limits plan held from link

-- A table without a stop was asked from its front on, until a call failed.
pub record BreaksOff (broken : Broken) (limits : Limits) (plan : Plan) (held : Held) (from : Channel) (link : Link) : Type 0 where
  pub going_on : held.stop ≡ None
  pub layout : Layout
  pub has_layout : held.table.layout ≡ Ok layout
  pub idle : Progress
  pub breaks : BreaksFrom broken limits plan held (start_of from idle layout held.front) link

-- ---- a table that ended

-- A table with a stop wasn't asked.
pub record PassedOver (held : Held) (o : Outcome) (from to : Channel) : Type 0 where
  pub stop : TableStop
  pub stopped : held.stop ≡ Some stop
  pub none : o.asked ≡ 0
  pub end : o.end ≡ Redefined held.table.signature stop.told
  pub nothing : to ≡ from

-- what was asked of a table, and how it ended
abbrev pub EndsBy : Limits → Plan → Held → Outcome → Channel → Channel → Type 0
EndsBy limits plan held o from to = PassedOver held o from to ⊎ Collected limits plan held o from to

-- ---- what came of a table

-- A table that ends as redefined has its stop, with the signature that was told; any other has none.
abbrev pub HasStopOf : End → Held → Type 0
HasStopOf (Redefined old told) held = held.stop ≡ Some (record { told = told })
HasStopOf Done held = held.stop ≡ None
HasStopOf NoAnswer held = held.stop ≡ None
HasStopOf Flooded held = held.stop ≡ None
HasStopOf (Undelivered code) held = held.stop ≡ None
HasStopOf (Refused code) held = held.stop ≡ None
HasStopOf Budget held = held.stop ≡ None

-- What came of a table, from what is kept of it before and after.
pub record CameOut (id : ℕ) (before after : Held) (o : Outcome) : Type 0 where
  pub table : o.table.0 ≡ id
  pub goes_on : GoesOnAs before after
  pub from : o.from.0 ≡ before.front
  pub to : o.to.0 ≡ after.front
  pub gaps : o.gaps ≡ after.gaps - before.gaps
  pub stopped : HasStopOf o.end after

-- what is said of a table
pub record IsStateOf (held : Held) (s : State) : Type 0 where
  pub front : s.front.0 ≡ held.front
  pub gaps : s.gaps ≡ held.gaps
  pub signature : s.signature ≡ held.table.signature
  pub stop : s.stop ≡ held.stop
