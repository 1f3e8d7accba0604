-- The requests of a table, as commands to it.
use Rattle.std.proofs.Common.{◌≡◌, ℕ, ◌+◌, Some, refl, ◌∙◌, ap}
use Rattle.std.specs.Prelude.{slice_get}
use Rattle.pb_archive.specs.Entry.{address_of}
use Rattle.pb_archive.specs.Opened.{OpenArchive, Register, register_of}
use Rattle.pb_archive.specs.Plan.{Plan}
use Rattle.pb_archive.specs.declared.held.Held.{Held}
use Rattle.pb_trans.specs.declared.asked.Limits.{Limits}
use Rattle.pb_bmp5.specs.declared.message.Mode.{Mode}
use Rattle.pb_collect.specs.Changing.{ChangesOnly}
use Rattle.pb_collect.specs.Commands.{IsCommandTo, IsCommandOf, code_of}
use Rattle.pb_collect.specs.Exchanges.{Exchanged}
use Rattle.pb_collect.specs.Progress.{Progress}
use Rattle.pb_collect.specs.Tables.{Point, Requests, Asked}
use Rattle.pb_collect.specs.declared.ending.Next.{Next}
use Rattle.pb_collect.specs.declared.ending.End.{End}
use Rattle.pb_collect.specs.declared.ending.Next.TheVariants.{Ask, Stop, Ends}
use Rattle.pb_collect.specs.declared.question.CollectCommand.{CollectCommand}
use Rattle.pb_collect.proofs.ExchangeLemmas.{took_same}

-- a command of the table later is one of the table before
pub command_before : (r : Register) (o : OpenArchive) (id : ℕ) (held : Held) (p : Progress) (c : CollectCommand) → ChangesOnly id r (register_of o) → slice_get r.tables id ≡ Some held
    → IsCommandOf o id p c → IsCommandTo r.plan held p c
command_before r o id held p c changes there of =
    let here = changes.here held of.held there of.there in
    let plan = changes.plan in
    record {
      me = of.to.me ∙ ap (λ (q : Plan). q.me) plan;
      via = of.to.via ∙ ap (λ (q : Plan). q.via) plan;
      station = of.to.station ∙ ap (λ (q : Plan). address_of (slice_get q.stations of.held.station)) plan ∙ ap (λ n. address_of (slice_get r.plan.stations n)) here.station;
      code = of.to.code ∙ ap (λ (q : Plan). code_of (slice_get q.stations of.held.station)) plan ∙ ap (λ n. code_of (slice_get r.plan.stations n)) here.station;
      table = of.to.table ∙ here.number;
      sig = of.to.sig ∙ ap (λ t. t.signature) here.table;
      layout = of.to.layout;
      mode = of.to.mode;
    }

-- ---- what comes next

pub stops_not : (mode : Mode) → Stop ≡ Ask mode → ⊥
stops_not mode is = cc

pub ends_not : (end : End) (mode : Mode) → Ends end ≡ Ask mode → ⊥
ends_not end mode is = cc

-- a request after which no other comes is one more
pub asked_same : (c : CollectCommand) (limits : Limits) (from to : Point) (next : Next) → ((mode : Mode) → next ≡ Ask mode → ⊥)
    → Exchanged c limits from.channel.listener from.channel.link from.progress next to.channel.listener to.channel.link to.progress → to.progress.asked ≡ from.progress.asked
asked_same c limits from to (Ask mode) never e = absurd (never mode refl)
asked_same c limits from to Stop never e =
    ap (λ (x : Progress). x.asked) e.comes.1 ∙ (took_same c to.channel.listener e.conclusion from.progress e.mid e.took).0
asked_same c limits from to (Ends end) never e =
    ap (λ (x : Progress). x.asked) e.comes.1 ∙ (took_same c to.channel.listener e.conclusion from.progress e.mid e.took).0

-- the last request of a table
pub asked_last : (limits : Limits) (r : Register) (o : OpenArchive) (id : ℕ) (held : Held) (start from to : Point) (n : ℕ) (next : Next) (c : CollectCommand)
    → ChangesOnly id r (register_of o) → slice_get r.tables id ≡ Some held → IsCommandOf o id from.progress c → from.progress.asked ≡ n + 1 → Requests limits r.plan held n start from
    → ((mode : Mode) → next ≡ Ask mode → ⊥) → Exchanged c limits from.channel.listener from.channel.link from.progress next to.channel.listener to.channel.link to.progress
    → Asked limits r.plan held to.progress.asked start next to
asked_last limits r o id held start from to n next c changes there of count requests never e = record {
  before = n;
  count = asked_same c limits from to next never e ∙ count;
  mid = from;
  requests = requests;
  last = record { command = c; of = command_before r o id held from.progress c changes there of; exchanged = e };
}
