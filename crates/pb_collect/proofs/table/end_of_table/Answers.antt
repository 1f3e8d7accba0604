use Rattle.std.proofs.Common.{◌<◌, Option, None, inl, inr, length, refl, sym, ◌∙◌, ap, subst, arith}
use Rattle.std.specs.Prelude.{slice_get}
use Rattle.std.proofs.lemmas.Option.{same_Some}
use Rattle.pb_io.specs.View.{Link}
use Rattle.pb_archive.specs.Opened.{Register, ended, register_of}
use Rattle.pb_archive.proofs.HeldLemmas.{length-changed_at}
use Rattle.pb_archive.specs.declared.held.Held.{Held}
use Rattle.pb_archive.specs.declared.table_view.Stop.{Stop as TableStop}
use Rattle.pb_collect.specs.Ends.{Comes, asked_once_more}
use Rattle.pb_collect.specs.Tables.{Asked, end_of, point}
use Rattle.pb_collect.specs.declared.ending.End.{End}
use Rattle.pb_collect.specs.declared.ending.End.TheVariants.{Redefined}
use Rattle.pb_collect.specs.declared.ending.Next.TheVariants.{Stop}
use Rattle.pb_collect.proofs.ChangingLemmas.{changes_none, changes_stopped, changes_trans}
use Rattle.pb_collect.proofs.FragmentLemmas.{get_below, ready_there}
use Rattle.pb_collect.proofs.RequestLemmas.{get_changed, get_there, keeps_stopped, stop_there, stops_none}
use Rattle.pb_collect.proofs.table.end_of_table.Goals as goal

pub returns-in-Ok-clause-there : goal.returns-in-Ok-clause-there
returns-in-Ok-clause-there g c =
    let ready = c.in-Ok-None.ensures.ready in
    let tables = c.ask_until_end.new.archive.tables in
    let below : c.args.id.0 < length tables = get_below tables c.args.id.0 ready.held ready.there in
    omega (arith, below, ap (λ (r : Register). length r.tables) c.in-Ok.ensures.made.changed, length-changed_at (ended (record { told = None })) tables c.args.id.0)

pub returns-in-Ok-clause-stopped : goal.returns-in-Ok-clause-stopped
returns-in-Ok-clause-stopped g c held then =
    let ready = c.in-Ok-None.ensures.ready in
    stop_there (register_of c.ask_until_end.new.archive) (register_of c.stop.new.self) c.args.id.0 (record { told = None }) ready.held held c.in-Ok.ensures.made.changed ready.there then

pub returns-in-Ok-Some-clause-stopped : goal.returns-in-Ok-Some-clause-stopped
returns-in-Ok-Some-clause-stopped g c held then =
    let ready = c.in-Ok-Some.ensures.ready in
    let there = get_there c.args.archive.now.tables c.args.id.0 (ready_there c.args.archive.now c.args.id.0 c.args.progress.now c.requires.ready) in
    let asks = c.in-Ok-Some.ensures.asks there.0 there.1 in
    let exchanged = asks.last.exchanged in
    let comes = subst (λ (next : Option End). Comes c.args.limits.budget exchanged.mid exchanged.conclusion (end_of next) c.ask_until_end.new.progress) c.in-Ok-Some.field-0-is exchanged.comes in
    stops_none c.args.limits.budget exchanged.mid exchanged.conclusion c.in-Ok-Some.end held comes.0 (ap (λ (h : Held). h.stop) (same_Some held ready.held (sym then ∙ ready.there)) ∙ ready.far.going_on)

pub returns-in-Ok-Some-clause-ended : goal.returns-in-Ok-Some-clause-ended
returns-in-Ok-Some-clause-ended g c held there =
    let asks = c.in-Ok-Some.ensures.asks held there in
    inl (subst (λ (next : Option End). Asked c.args.limits c.args.archive.now.plan held c.ask_until_end.new.progress.asked (point c.args.listener.now (g.S.Disk.view c.args.site.now).link (asked_once_more c.args.progress.now)) (end_of next) (point c.ask_until_end.new.listener (g.S.Disk.view c.ask_until_end.new.site).link c.ask_until_end.new.progress)) c.in-Ok-Some.field-0-is asks)

pub returns-in-Ok-clause-ended : goal.returns-in-Ok-clause-ended
returns-in-Ok-clause-ended g c held there =
    let asks = c.in-Ok-None.ensures.asks held there in
    inr (
      subst (λ (k : Link). Asked c.args.limits c.args.archive.now.plan held c.ask_until_end.new.progress.asked (point c.args.listener.now (g.S.Disk.view c.args.site.now).link (asked_once_more c.args.progress.now)) Stop (point c.ask_until_end.new.listener k c.ask_until_end.new.progress)) (sym c.stop.ensures.writes.link)
          (subst (λ (next : Option End). Asked c.args.limits c.args.archive.now.plan held c.ask_until_end.new.progress.asked (point c.args.listener.now (g.S.Disk.view c.args.site.now).link (asked_once_more c.args.progress.now)) (end_of next) (point c.ask_until_end.new.listener (g.S.Disk.view c.ask_until_end.new.site).link c.ask_until_end.new.progress)) c.in-Ok-None.field-0-is asks),
      ap (λ n. Redefined n None) (c.requires.signature held there),
    )

pub returns-in-Ok-Some-clause-front : goal.returns-in-Ok-Some-clause-front
returns-in-Ok-Some-clause-front g c held then =
    let ready = c.in-Ok-Some.ensures.ready in
    ap (λ (h : Held). h.front) (same_Some held ready.held (sym then ∙ ready.there)) ∙ ready.far.front

pub returns-in-Ok-clause-front : goal.returns-in-Ok-clause-front
returns-in-Ok-clause-front g c held then =
    let ready = c.in-Ok-None.ensures.ready in
    let stop : TableStop = record { told = None } in
    ap (λ (h : Held). h.front) (get_changed (ended stop) c.ask_until_end.new.archive.tables c.args.id.0 ready.held held ready.there (sym (ap (λ (r : Register). slice_get r.tables c.args.id.0) c.in-Ok.ensures.made.changed) ∙ then)) ∙ ready.far.front

pub returns-in-Ok-clause-changes : goal.returns-in-Ok-clause-changes
returns-in-Ok-clause-changes g c =
    let ready = c.in-Ok-None.ensures.ready in
    changes_trans c.args.id.0 (register_of c.args.archive.now) (register_of c.ask_until_end.new.archive) (register_of c.stop.new.self) c.ask_until_end.ensures.changes
    (changes_stopped c.args.id.0 (register_of c.ask_until_end.new.archive) (register_of c.stop.new.self) (record { told = None }) ready.held ready.there ready.far.going_on c.in-Ok.ensures.made.changed)

pub returns-in-Err-stop-clause-changes : goal.returns-in-Err-stop-clause-changes
returns-in-Err-stop-clause-changes g c =
    changes_trans c.args.id.0 (register_of c.args.archive.now) (register_of c.ask_until_end.new.archive) (register_of c.stop.new.self) c.ask_until_end.ensures.changes
    (changes_none c.args.id.0 (register_of c.ask_until_end.new.archive) (register_of c.stop.new.self) c.in-Err-stop.ensures.refusal.stays)

pub returns-in-Ok-clause-keeps : goal.returns-in-Ok-clause-keeps
returns-in-Ok-clause-keeps g c =
    keeps_stopped (g.S.Disk.view c.args.site.now) (g.S.Disk.view c.ask_until_end.new.site) (g.S.Disk.view c.stop.new.disk) c.args.id.0 _
    (g.met.S.Disk.lawful c.ask_until_end.new.site) (g.met.S.Disk.lawful c.stop.new.disk) c.ask_until_end.ensures.keeps c.stop.ensures.writes

pub returns-in-Err-stop-clause-keeps : goal.returns-in-Err-stop-clause-keeps
returns-in-Err-stop-clause-keeps g c =
    keeps_stopped (g.S.Disk.view c.args.site.now) (g.S.Disk.view c.ask_until_end.new.site) (g.S.Disk.view c.stop.new.disk) c.args.id.0 _
    (g.met.S.Disk.lawful c.ask_until_end.new.site) (g.met.S.Disk.lawful c.stop.new.disk) c.ask_until_end.ensures.keeps c.stop.ensures.writes

pub returns-in-Err-clause-breaks : goal.returns-in-Err-clause-breaks
returns-in-Err-clause-breaks g c held there = inl (c.in-Err.ensures.breaks held there)

pub returns-in-Err-stop-clause-breaks : goal.returns-in-Err-stop-clause-breaks
returns-in-Err-stop-clause-breaks g c held there =
    let asks = c.in-Ok-None.ensures.asks held there in
    let to = point c.ask_until_end.new.listener (g.S.Disk.view c.ask_until_end.new.site).link c.ask_until_end.new.progress in
    inr (record {
      fault = refl;
      asked = c.ask_until_end.new.progress.asked;
      within = c.in-Ok-None.ensures.asked.1;
      to = to;
      requests = subst (λ (next : Option End). Asked c.args.limits c.args.archive.now.plan held c.ask_until_end.new.progress.asked (point c.args.listener.now (g.S.Disk.view c.args.site.now).link (asked_once_more c.args.progress.now)) (end_of next) to) c.in-Ok-None.field-0-is asks;
      same = c.stop.ensures.writes.link;
    })
