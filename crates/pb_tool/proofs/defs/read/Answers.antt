use Rattle.std.proofs.Common.{◌++◌, refl, sym, ◌∙◌, ap, subst}
use Rattle.pb_archive.specs.Opened.{register_of}
use Rattle.pb_io.proofs.PageLemmas.{Adds-two}
use Rattle.pb_tool.specs.Closing.{Closes}
use Rattle.pb_tool.specs.Defs.{Reading, has_starred, reading_text, result_status}
use Rattle.pb_tool.specs.declared.status.Status.{Status}
use Rattle.pb_tool.proofs.ClosingLemmas.{Closes-finished}
use Rattle.pb_tool.proofs.DefsLemmas.{reads_by}
use Rattle.pb_tool.proofs.defs.read.Goals as goal

pub returns-clause-ran : goal.returns-clause-ran
returns-clause-ran g c =
    let f = c.fetch_definitions-result in
    let lines = f.new.report.lines in
    let none = c.new-report.ensures in
    let reading : Reading = record {
      result = f.result;
      before = register_of c.args.collector.now.archive;
      after = register_of f.new.self.archive;
      lines = lines;
    } in
    record {
      reading = reading;
      is = refl;
      came = record {
        reads = reads_by f.result c.new-report.result.lines lines (g.S.Disk.view c.args.site.now) (g.S.Disk.view f.new.site) reading.before reading.after none f.ensures.fetched f.ensures.until;
        stand = f.ensures.stand lines (sym (ap (λ l. l ++ lines) none));
        holds = f.ensures.holds;
      };
      printed = subst (λ (s : Status). Closes s c.finish.result (reading_text reading) (g.O.Sink.written c.args.out.now) (g.O.Sink.written c.finish.new.out))
          (c.status_of.ensures ∙ ap (λ l. result_status f.result (has_starred l)) c.lines-2.ensures)
          (Closes-finished _ _ (reading_text reading) c.new-page.result c.push_fault.new.page c.finish.new.page _ _ _ c.new-page.ensures
          (Adds-two _ _ (reading_text reading) _ _ _ (simp (c.archive.ensures, c.lines.ensures) refl) c.push_report.ensures c.push_fault.ensures) c.finish.ensures.adds c.finish.ensures.closed);
    }
