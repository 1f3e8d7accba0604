use Rattle.std.proofs.Common.{Ok, Err, sym, subst}
use Rattle.std.specs.Option.{ForSome}
use Rattle.pb_archive.specs.Opened.{Register}
use Rattle.pb_collect.proofs.AddingLemmas.{adds_opened, adds_trans, all_grow_on}
use Rattle.pb_tool.specs.Check.{IsKeptOf}
use Rattle.pb_tool.specs.Defs.{answer_text}
use Rattle.pb_tool.proofs.CheckLemmas.{means_of}
use Rattle.pb_tool.proofs.DefsLemmas.{came_after}
use Rattle.pb_tool.proofs.defs.print.Goals as goal

pub returns-in-Ok-clause-ran : goal.returns-in-Ok-clause-ran
unfolding answer_text
returns-in-Ok-clause-ran g c =
    let old = g.S.Disk.view c.args.site.now in
    let mid = g.S.Disk.view c.open.new.site in
    let new = g.S.Disk.view c.read.new.site in
    let archive = c.in-Ok.collector.archive in
    let ran = c.read.ensures.ran in
    let opened = c.in-Ok.ensures.opened in
    record {
      answer = Ok ran.reading;
      means = record {
        kept = subst (λ (r : Register). ForSome old.file (IsKeptOf r)) (sym ran.is) (means_of (Ok archive) old.file mid c.in-Ok.ensures.same opened tt);
        came = came_after ran.reading old mid new c.open.ensures.link ran.came;
        goes_on = all_grow_on old.file mid new (g.met.S.Disk.lawful c.read.new.site) c.in-Ok.ensures.same opened.settled c.read.ensures.adds;
      };
      printed = ran.printed;
    }

pub returns-in-Err-clause-ran : goal.returns-in-Err-clause-ran
unfolding answer_text
returns-in-Err-clause-ran g c = record { answer = Err c.in-Err.fault; means = (c.in-Err.ensures.refused, c.open.ensures.link); printed = c.refuse.ensures.closed }

pub returns-in-Ok-clause-adds : goal.returns-in-Ok-clause-adds
returns-in-Ok-clause-adds g c =
    let old = g.S.Disk.view c.args.site.now in
    let mid = g.S.Disk.view c.open.new.site in
    adds_trans old mid (g.S.Disk.view c.read.new.site) (g.met.S.Disk.lawful c.open.new.site)
    (adds_opened old mid (g.met.S.Disk.lawful c.open.new.site) c.open.ensures.leaves c.open.ensures.link) c.read.ensures.adds

pub returns-in-Err-clause-adds : goal.returns-in-Err-clause-adds
returns-in-Err-clause-adds g c =
    adds_opened (g.S.Disk.view c.args.site.now) (g.S.Disk.view c.open.new.site) (g.met.S.Disk.lawful c.open.new.site) c.open.ensures.leaves c.open.ensures.link
