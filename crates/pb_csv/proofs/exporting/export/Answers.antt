use Rattle.std.proofs.Common.{ap, ◌∙◌}
use Rattle.std.proofs.lemmas.Option.{same_Some}
use Rattle.pb_archive.specs.Opened.{register_of}
use Rattle.pb_archive.specs.declared.held.Held.{Held}
use Rattle.pb_csv.specs.Export.{Range}
use Rattle.pb_csv.proofs.RangeLemmas.{range_rows, none_written, lines_as, written, cut_off}
use Rattle.pb_csv.proofs.exporting.export.Goals as goal

pub put_lines-result-requires-clause-rows : goal.put_lines-result-requires-clause-rows
put_lines-result-requires-clause-rows g c f view =
    let b = c.in-Ok.ensures.begins f (c.requires.opened.stands f view) in
    (_, b.4)

pub returns-in-Err-clause-text : goal.returns-in-Err-clause-text
returns-in-Err-clause-text g c held is =
    let range : Range = record { id = c.args.id.0; from = c.args.from.0; to = c.args.to.0 } in
    let r = range_rows range (g.D.Disk.view c.args.disk.now).file (register_of c.args.archive.now) c.args.archive.now.journal.gate held c.requires.opened.stands is in
    (r.0, r.1, none_written range held.table.fields r.0 (g.O.Sink.written c.args.out.now))

pub returns-in-Err-new-clause-text : goal.returns-in-Err-new-clause-text
returns-in-Err-new-clause-text g c held is =
    let range : Range = record { id = c.args.id.0; from = c.args.from.0; to = c.args.to.0 } in
    let r = range_rows range (g.D.Disk.view c.args.disk.now).file (register_of c.args.archive.now) c.args.archive.now.journal.gate held c.requires.opened.stands is in
    (r.0, r.1, none_written range held.table.fields r.0 (g.O.Sink.written c.args.out.now))

pub returns-in-Ok-flush-clause-text : goal.returns-in-Ok-flush-clause-text
returns-in-Ok-flush-clause-text g c held is =
    let range : Range = record { id = c.args.id.0; from = c.args.from.0; to = c.args.to.0 } in
    let same = c.in-Ok-new.ensures ∙ ap (λ (h : Held). h.table) (same_Some _ _ (c.in-Some.ensures.table ∙ is)) in
    written range held.table.fields (g.D.Disk.view c.args.disk.now).file c.in-Ok.rows (λ f view. c.in-Ok.ensures.begins f (c.requires.opened.stands f view))
    _ _ _ _ _ _ c.put_lines-result.result c.new-page.ensures (lines_as _ _ _ _ _ _ _ same c.put_lines-result.ensures.puts) c.flush.ensures.adds c.in-Ok-flush.ensures.whole c.put_lines-result.ensures.reads.no_write

pub returns-clause-text : goal.returns-clause-text
returns-clause-text g c held is =
    let range : Range = record { id = c.args.id.0; from = c.args.from.0; to = c.args.to.0 } in
    let same = c.in-Ok-new.ensures ∙ ap (λ (h : Held). h.table) (same_Some _ _ (c.in-Some.ensures.table ∙ is)) in
    cut_off range held.table.fields (g.D.Disk.view c.args.disk.now).file c.in-Ok.rows (λ f view. c.in-Ok.ensures.begins f (c.requires.opened.stands f view))
    _ _ _ _ _ _ c.put_lines-result.result c.new-page.ensures (lines_as _ _ _ _ _ _ _ same c.put_lines-result.ensures.puts) c.flush.ensures.adds c.in-Err-flush.ensures.whole
