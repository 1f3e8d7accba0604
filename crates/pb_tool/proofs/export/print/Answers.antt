use Rattle.std.proofs.Common.{Ok, Err, sym, subst}
use Rattle.pb_archive.specs.Opened.{register_of}
use Rattle.pb_io.specs.Crash.{Changes}
use Rattle.pb_io.specs.Outside.{output_view, talk}
use Rattle.pb_journal.specs.Changes.{SameEntries}
use Rattle.pb_tool.specs.Export.{asked_by, place_named}
use Rattle.pb_tool.proofs.CheckLemmas.{means_of}
use Rattle.pb_tool.proofs.ExportLemmas.{leaves_then, named_before}
use Rattle.pb_tool.proofs.export.print.Goals as goal

pub returns-in-Ok-clause-ran : goal.returns-in-Ok-clause-ran
returns-in-Ok-clause-ran g c =
    let old = g.S.Disk.view c.args.site.now in
    let mid = g.S.Disk.view c.open.new.disk in
    let archive = c.in-Ok.archive in
    let register = register_of archive in
    let asked = asked_by c.args.asked in
    record {
      answer = Ok register;
      means = means_of (Ok archive) old.file mid c.in-Ok.ensures.same c.in-Ok.ensures.opened tt;
      failed = λ is. cc is;
      answers = (
        named_before asked register (place_named register asked) c.put_named.result old mid (output_view g.O.Sink c.args.out.now) (talk g.S.Disk g.O.Sink c.put_named.new.site c.put_named.new.out) c.in-Ok.ensures.same
            (c.in-Ok.ensures.cause.kept (λ is. cc is)) c.put_named.ensures.exports,
        subst (λ file. Changes SameEntries old.file file) (sym c.put_named.ensures.file) c.in-Ok.ensures.same,
      );
    }

pub returns-in-Ok-clause-leaves : goal.returns-in-Ok-clause-leaves
returns-in-Ok-clause-leaves g c =
    leaves_then (g.S.Disk.view c.args.site.now) (g.S.Disk.view c.open.new.disk) (g.S.Disk.view c.put_named.new.site) (g.met.S.Disk.lawful c.open.new.disk) c.open.ensures.leaves c.put_named.ensures.leaves

pub returns-in-Err-clause-ran : goal.returns-in-Err-clause-ran
returns-in-Err-clause-ran g c = record {
  answer = Err c.in-Err.fault;
  means = c.in-Err.ensures.refused;
  failed = λ is. c.in-Err.ensures.cause.failed (cc is);
  answers = c.refuse.ensures.closed;
}
