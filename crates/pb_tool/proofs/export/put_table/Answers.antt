use Rattle.std.proofs.Common.{Ok, Err, refl, sym, ap}
use Rattle.pb_archive.specs.Seen.{seen_table}
use Rattle.pb_csv.specs.declared.fault.ExportFault.{ExportFault}
use Rattle.pb_csv.specs.declared.fault.ExportFault.TheVariants as ended
use Rattle.pb_tool.proofs.ExportLemmas.{ended_as, range_is}
use Rattle.pb_tool.proofs.export.put_table.Goals as goal

pub returns-in-Ok-clause-exports : goal.returns-in-Ok-clause-exports
returns-in-Ok-clause-exports g c =
    let held = seen_table c.in-Some.table in
    let text = c.in-Ok.ensures.text held (sym c.in-Some.ensures.table) in
    record {
      held = held;
      there = sym c.in-Some.ensures.table;
      rows = text.0;
      are = range_is c.args.id.0 c.args.asked.numbers held _ _ _ text.0 c.cut-range.ensures.from c.cut-range.ensures.to text.1;
      ended = Ok tt;
      cause = tt;
      writes = (refl, text.2);
    }

pub returns-in-Err-WriteFault-clause-exports : goal.returns-in-Err-WriteFault-clause-exports
returns-in-Err-WriteFault-clause-exports g c =
    let held = seen_table c.in-Some.table in
    let text = c.in-Err-WriteFault.ensures.text held (sym c.in-Some.ensures.table) in
    let written = ended_as held.table.fields text.0 _ _ c.in-Err-WriteFault.field-0 ended.WriteFault c.in-Err-WriteFault.field-0-is text.2 in
    record {
      held = held;
      there = sym c.in-Some.ensures.table;
      rows = text.0;
      are = range_is c.args.id.0 c.args.asked.numbers held _ _ _ text.0 c.cut-range.ensures.from c.cut-range.ensures.to text.1;
      ended = Err ended.WriteFault;
      cause = tt;
      writes = (refl, written);
    }

pub returns-in-Err-DiskFault-clause-exports : goal.returns-in-Err-DiskFault-clause-exports
returns-in-Err-DiskFault-clause-exports g c =
    let held = seen_table c.in-Some.table in
    let text = c.in-Err-DiskFault.ensures.text held (sym c.in-Some.ensures.table) in
    let written = ended_as held.table.fields text.0 _ _ c.in-Err-DiskFault.field-0 ended.DiskFault c.in-Err-DiskFault.field-0-is text.2 in
    record {
      held = held;
      there = sym c.in-Some.ensures.table;
      rows = text.0;
      are = range_is c.args.id.0 c.args.asked.numbers held _ _ _ text.0 c.cut-range.ensures.from c.cut-range.ensures.to text.1;
      ended = Err ended.DiskFault;
      cause = c.in-Err-DiskFault.ensures.cause.failed (ap (λ (e : ExportFault). Err e) c.in-Err-DiskFault.field-0-is);
      writes = record { between = g.O.Sink.written c.export.new.out; appends = written; closed = c.refuse.ensures.closed };
    }

pub returns-in-Err-Memory-clause-exports : goal.returns-in-Err-Memory-clause-exports
returns-in-Err-Memory-clause-exports g c =
    let held = seen_table c.in-Some.table in
    let text = c.in-Err-Memory.ensures.text held (sym c.in-Some.ensures.table) in
    let written = ended_as held.table.fields text.0 _ _ c.in-Err-Memory.field-0 ended.Memory c.in-Err-Memory.field-0-is text.2 in
    record {
      held = held;
      there = sym c.in-Some.ensures.table;
      rows = text.0;
      are = range_is c.args.id.0 c.args.asked.numbers held _ _ _ text.0 c.cut-range.ensures.from c.cut-range.ensures.to text.1;
      ended = Err ended.Memory;
      cause = tt;
      writes = (refl, written);
    }
