use Rattle.std.proofs.Common.{◌≤◌, ◌+◌, List, ℕ, [], refl, sym, ap, subst, arith, add-one}
use Rattle.pb_base.specs.Record.{content_len}
use Rattle.pb_base.specs.declared.layout.Layout.{Layout}
use Rattle.pb_archive.specs.Entry.{advance_bytes_max}
use Rattle.pb_archive.specs.Opened.{register_of}
use Rattle.pb_collect.specs.Exchanges.{Exchanged}
use Rattle.pb_collect.specs.Kept.{KnowsTrue}
use Rattle.pb_collect.specs.Tables.{point}
use Rattle.pb_collect.specs.Ends.{asked_once_more}
use Rattle.pb_collect.specs.declared.ending.Next.{Next}
use Rattle.pb_collect.specs.declared.ending.Next.TheVariants.{Stop, Ends}
use Rattle.pb_collect.proofs.AskedLemmas.{command_before, asked_last, stops_not, ends_not}
use Rattle.pb_collect.proofs.ChangingLemmas.{changes_none, changes_trans}
use Rattle.pb_collect.specs.Progress.{Progress, partial_bytes}
use Rattle.pb_collect.proofs.ExchangeLemmas.{ready_asked, closed_bytes, exchanged_layout, asks_next, ends_same}
use Rattle.pb_collect.proofs.KeptLemmas.{keeps_none}
use Rattle.pb_collect.proofs.RequestLemmas.{goes_start, goes_trans, knows_start, keeps_more, knows_more}
use Rattle.pb_collect.proofs.table.ask_until_end.Goals as goal

pub requests-init : goal.requests-init
requests-init g c =
    let p = c.args.progress.now in
    let q = c.ask-mode.new.self in
    let now = g.S.Disk.view c.args.site.now in
    let is = c.ask-mode.ensures.asked in
    record {
      mode = c.ask-mode.ensures.question;
      some = omega (arith, ap (λ (x : Progress). x.asked) is);
      within = omega (arith, ap (λ (x : Progress). x.asked) is, c.requires.none, c.requires.limits.budget);
      small = subst (λ (l : Layout). content_len l ≤ advance_bytes_max) (sym (ap (λ (x : Progress). x.layout) is)) c.requires.small;
      ready = ready_asked c.args.archive.now c.args.id.0 p q is c.requires.ready;
      goes = goes_start c.args.archive.now now c.requires.usable c.requires.opened;
      listens = c.requires.listens;
      asks = λ held there. (0, omega (arith, ap (λ (x : Progress). x.asked) is, c.requires.none), ap (λ (x : Progress). point c.args.listener.now now.link x) is);
      changes = changes_none c.args.id.0 (register_of c.args.archive.now) (register_of c.args.archive.now) refl;
      keeps = keeps_none now (g.met.S.Disk.lawful c.args.site.now);
      knows = λ good honest. subst (λ (b : List ℕ). KnowsTrue now c.args.id.0 b []) (sym (closed_bytes p q is c.requires.closed)) (knows_start now c.args.id.0 good);
      count = omega arith;
    }

pub returns-in-Err-clause-keeps : goal.returns-in-Err-clause-keeps
returns-in-Err-clause-keeps g c =
    let old = g.S.Disk.view c.args.site.now in
    let now = g.S.Disk.view c.requests.site in
    let new = g.S.Disk.view c.exchange.new.site in
    let inv = c.requests.invariant in
    keeps_more (KnowsTrue now c.args.id.0 (partial_bytes c.requests.progress) []) old now new (g.met.S.Disk.lawful c.requests.site) inv.keeps inv.knows c.exchange.ensures.keeps

pub returns-in-Ok-Stop-clause-keeps : goal.returns-in-Ok-Stop-clause-keeps
returns-in-Ok-Stop-clause-keeps g c =
    let old = g.S.Disk.view c.args.site.now in
    let now = g.S.Disk.view c.requests.site in
    let new = g.S.Disk.view c.exchange.new.site in
    let inv = c.requests.invariant in
    keeps_more (KnowsTrue now c.args.id.0 (partial_bytes c.requests.progress) []) old now new (g.met.S.Disk.lawful c.requests.site) inv.keeps inv.knows c.exchange.ensures.keeps

pub returns-in-Ok-Ends-clause-keeps : goal.returns-in-Ok-Ends-clause-keeps
returns-in-Ok-Ends-clause-keeps g c =
    let old = g.S.Disk.view c.args.site.now in
    let now = g.S.Disk.view c.requests.site in
    let new = g.S.Disk.view c.exchange.new.site in
    let inv = c.requests.invariant in
    keeps_more (KnowsTrue now c.args.id.0 (partial_bytes c.requests.progress) []) old now new (g.met.S.Disk.lawful c.requests.site) inv.keeps inv.knows c.exchange.ensures.keeps

pub returns-in-Ok-Ends-clause-asked : goal.returns-in-Ok-Ends-clause-asked
returns-in-Ok-Ends-clause-asked g c =
    let same = ends_same c.command_of-command.result c.args.limits c.requests.listener (g.S.Disk.view c.requests.site).link c.requests.progress c.in-Ok-Ends.field-0 c.exchange.new.listener (g.S.Disk.view c.exchange.new.site).link c.exchange.new.progress c.in-Ok-Ends.ensures.exchanged c.in-Ok-Ends.end c.in-Ok-Ends.field-0-is in
    let inv = c.requests.invariant in
    (omega (arith, same, inv.some), omega (arith, same, inv.within))

pub requests-smaller : goal.requests-smaller
requests-smaller g c =
    let next = asks_next c.command_of-command.result c.args.limits c.requests.listener (g.S.Disk.view c.requests.site).link c.requests.progress c.in-Ok-Ask.field-0 c.exchange.new.listener (g.S.Disk.view c.exchange.new.site).link c.exchange.new.progress c.in-Ok-Ask.ensures.exchanged c.in-Ok-Ask.next c.in-Ok-Ask.field-0-is in
    omega (arith, next.1, next.2)

pub requests-preserved : goal.requests-preserved
requests-preserved g c =
    let old = g.S.Disk.view c.args.site.now in
    let now = g.S.Disk.view c.requests.site in
    let new = g.S.Disk.view c.exchange.new.site in
    let inv = c.requests.invariant in
    let next = asks_next c.command_of-command.result c.args.limits c.requests.listener (g.S.Disk.view c.requests.site).link c.requests.progress c.in-Ok-Ask.field-0 c.exchange.new.listener (g.S.Disk.view c.exchange.new.site).link c.exchange.new.progress c.in-Ok-Ask.ensures.exchanged c.in-Ok-Ask.next c.in-Ok-Ask.field-0-is in
    let layout = exchanged_layout c.command_of-command.result c.args.limits c.requests.listener (g.S.Disk.view c.requests.site).link c.requests.progress c.in-Ok-Ask.field-0 c.exchange.new.listener (g.S.Disk.view c.exchange.new.site).link c.exchange.new.progress c.in-Ok-Ask.ensures.exchanged in
    record {
      mode = next.0;
      some = omega (arith, next.1);
      within = omega (arith, next.1, next.2);
      small = subst (λ (l : Layout). content_len l ≤ advance_bytes_max) (sym layout) inv.small;
      ready = c.in-Ok-Ask.ensures.ready;
      goes = goes_trans c.requests.archive c.exchange.new.archive old now new inv.goes c.in-Ok-Ask.ensures.goes;
      listens = c.in-Ok-Ask.ensures.listens;
      asks = λ held there.
          let before = inv.asks held there in (
            before.0 + 1,
            omega (arith, next.1, before.1),
            rw add-one (
              point c.requests.listener now.link c.requests.progress,
              c.in-Ok-Ask.next,
              before.2,
              record {
                command = c.command_of-command.result;
                of = command_before (register_of c.args.archive.now) c.requests.archive c.args.id.0 held c.requests.progress c.command_of-command.result inv.changes there c.command_of-command.ensures.of;
                exchanged = subst (λ (n : Next). Exchanged c.command_of-command.result c.args.limits c.requests.listener now.link c.requests.progress n c.exchange.new.listener new.link c.exchange.new.progress) c.in-Ok-Ask.field-0-is c.in-Ok-Ask.ensures.exchanged;
              },
            ),
          );
      changes = changes_trans c.args.id.0 (register_of c.args.archive.now) (register_of c.requests.archive) (register_of c.exchange.new.archive) inv.changes c.exchange.ensures.changes;
      keeps = keeps_more (KnowsTrue now c.args.id.0 (partial_bytes c.requests.progress) []) old now new (g.met.S.Disk.lawful c.requests.site) inv.keeps inv.knows c.exchange.ensures.keeps;
      knows = knows_more (KnowsTrue now c.args.id.0 (partial_bytes c.requests.progress) []) old now new (g.met.S.Disk.lawful c.requests.site) inv.keeps inv.knows c.exchange.ensures.keeps (KnowsTrue new c.args.id.0 (partial_bytes c.exchange.new.progress) []) c.in-Ok-Ask.ensures.knows;
      count = omega (arith, inv.count, inv.some, next.1, c.exchange.ensures.count);
    }

pub returns-in-Ok-Stop-clause-asks : goal.returns-in-Ok-Stop-clause-asks
returns-in-Ok-Stop-clause-asks g c held there =
    let inv = c.requests.invariant in
    let before = inv.asks held there in
    asked_last c.args.limits (register_of c.args.archive.now) c.requests.archive c.args.id.0 held
    (point c.args.listener.now (g.S.Disk.view c.args.site.now).link (asked_once_more c.args.progress.now)) (point c.requests.listener (g.S.Disk.view c.requests.site).link c.requests.progress)
    (point c.exchange.new.listener (g.S.Disk.view c.exchange.new.site).link c.exchange.new.progress) before.0 Stop c.command_of-command.result
    inv.changes there c.command_of-command.ensures.of before.1 before.2 (λ mode is. absurd (stops_not mode is))
    (subst (λ (n : Next). Exchanged c.command_of-command.result c.args.limits c.requests.listener (g.S.Disk.view c.requests.site).link c.requests.progress n c.exchange.new.listener (g.S.Disk.view c.exchange.new.site).link c.exchange.new.progress) c.in-Ok-Stop.field-0-is c.in-Ok-Stop.ensures.exchanged)

pub returns-in-Ok-Ends-clause-asks : goal.returns-in-Ok-Ends-clause-asks
returns-in-Ok-Ends-clause-asks g c held there =
    let inv = c.requests.invariant in
    let before = inv.asks held there in
    asked_last c.args.limits (register_of c.args.archive.now) c.requests.archive c.args.id.0 held
    (point c.args.listener.now (g.S.Disk.view c.args.site.now).link (asked_once_more c.args.progress.now)) (point c.requests.listener (g.S.Disk.view c.requests.site).link c.requests.progress)
    (point c.exchange.new.listener (g.S.Disk.view c.exchange.new.site).link c.exchange.new.progress) before.0 (Ends c.in-Ok-Ends.end) c.command_of-command.result
    inv.changes there c.command_of-command.ensures.of before.1 before.2 (λ mode is. absurd (ends_not c.in-Ok-Ends.end mode is))
    (subst (λ (n : Next). Exchanged c.command_of-command.result c.args.limits c.requests.listener (g.S.Disk.view c.requests.site).link c.requests.progress n c.exchange.new.listener (g.S.Disk.view c.exchange.new.site).link c.exchange.new.progress) c.in-Ok-Ends.field-0-is c.in-Ok-Ends.ensures.exchanged)

pub returns-in-Ok-Stop-clause-changes : goal.returns-in-Ok-Stop-clause-changes
returns-in-Ok-Stop-clause-changes g c =
    changes_trans c.args.id.0 (register_of c.args.archive.now) (register_of c.requests.archive) (register_of c.exchange.new.archive) c.requests.invariant.changes c.exchange.ensures.changes

pub returns-in-Ok-Ends-clause-changes : goal.returns-in-Ok-Ends-clause-changes
returns-in-Ok-Ends-clause-changes g c =
    changes_trans c.args.id.0 (register_of c.args.archive.now) (register_of c.requests.archive) (register_of c.exchange.new.archive) c.requests.invariant.changes c.exchange.ensures.changes

pub returns-in-Err-clause-changes : goal.returns-in-Err-clause-changes
returns-in-Err-clause-changes g c =
    changes_trans c.args.id.0 (register_of c.args.archive.now) (register_of c.requests.archive) (register_of c.exchange.new.archive) c.requests.invariant.changes c.exchange.ensures.changes

pub returns-in-Err-clause-breaks : goal.returns-in-Err-clause-breaks
returns-in-Err-clause-breaks g c held there =
    let inv = c.requests.invariant in
    let before = inv.asks held there in
    record {
      before = before.0;
      few = omega (arith, before.1, inv.within);
      mid = point c.requests.listener (g.S.Disk.view c.requests.site).link c.requests.progress;
      requests = before.2;
      command = c.command_of-command.result;
      of = command_before (register_of c.args.archive.now) c.requests.archive c.args.id.0 held c.requests.progress c.command_of-command.result inv.changes there c.command_of-command.ensures.of;
      breaks = c.in-Err.ensures.breaks;
    }
