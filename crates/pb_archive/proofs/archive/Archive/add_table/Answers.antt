use Rattle.std.proofs.Common.{◌∙◌, ◌<◌, ap, length, arith}
use Rattle.pb_archive.specs.Entry.{Added, tables_max}
use Rattle.pb_archive.specs.Opened.{Register, OpenArchive, register_of, with_table}
use Rattle.pb_archive.proofs.CallLemmas.{table_entry, opened_after}
use Rattle.pb_archive.proofs.archive.Archive.add_table.Goals as goal

pub returns-in-Ok-clause-writes : goal.returns-in-Ok-clause-writes
returns-in-Ok-clause-writes g c d is seen =
    let room : length c.args.self.now.tables < tables_max =
    omega (arith, c.count-place.ensures.count, c.if-place-ge-TABLES_MAX.false, ap (λ (o : OpenArchive). length o.tables) c.self.view_is) in
    c.write.ensures.writes (Added c.args.station c.args.number.0 d)
    (table_entry _ c.args.station c.args.number.0 c.args.table d c.table_head.result c.bytes.result.now is seen c.requires.there c.requires.new c.requires.layout room c.table_head.ensures.ranges c.table_head.ensures.head c.bytes.ensures.bytes)

pub returns-in-Err-clause-writes : goal.returns-in-Err-clause-writes
returns-in-Err-clause-writes g c d is seen =
    let room : length c.args.self.now.tables < tables_max =
    omega (arith, c.count-place.ensures.count, c.if-place-ge-TABLES_MAX.false, ap (λ (o : OpenArchive). length o.tables) c.self.view_is) in
    c.write.ensures.writes (Added c.args.station c.args.number.0 d)
    (table_entry _ c.args.station c.args.number.0 c.args.table d c.table_head.result c.bytes.result.now is seen c.requires.there c.requires.new c.requires.layout room c.table_head.ensures.ranges c.table_head.ensures.head c.bytes.ensures.bytes)

pub returns-in-Ok-clause-wrote : goal.returns-in-Ok-clause-wrote
returns-in-Ok-clause-wrote g c d is seen =
    let room : length c.args.self.now.tables < tables_max =
    omega (arith, c.count-place.ensures.count, c.if-place-ge-TABLES_MAX.false, ap (λ (o : OpenArchive). length o.tables) c.self.view_is) in
    (c.in-Ok.ensures.wrote (Added c.args.station c.args.number.0 d)
    (table_entry _ c.args.station c.args.number.0 c.args.table d c.table_head.result c.bytes.result.now is seen c.requires.there c.requires.new c.requires.layout room c.table_head.ensures.ranges c.table_head.ensures.head c.bytes.ensures.bytes)).wrote

pub returns-in-Ok-clause-made : goal.returns-in-Ok-clause-made
returns-in-Ok-clause-made g c =
    let room : length c.args.self.now.tables < tables_max =
    omega (arith, c.count-place.ensures.count, c.if-place-ge-TABLES_MAX.false, ap (λ (o : OpenArchive). length o.tables) c.self.view_is) in
    let d = c.bytes.ensures.defined in
    let written = c.in-Ok.ensures.wrote (Added c.args.station c.args.number.0 d.0)
    (table_entry _ c.args.station c.args.number.0 c.args.table d.0 c.table_head.result c.bytes.result.now d.1 d.2 c.requires.there c.requires.new c.requires.layout room c.table_head.ensures.ranges c.table_head.ensures.head c.bytes.ensures.bytes) in
    let changed = c.add.ensures ∙ ap (λ (r : Register). with_table r c.args.station c.args.number.0 c.args.table) (ap register_of c.self-2.view_is ∙ c.write.ensures.same) in
    record {
      changed = changed;
      opened = opened_after _ _ _ _ (Added c.args.station c.args.number.0 d.0) c.write.new.self.journal.gate written
          (changed ∙ ap (λ t. with_table (register_of c.args.self.now) c.args.station c.args.number.0 t) d.2)
          (ap (λ (o : OpenArchive). o.journal.gate) c.self-2.view_is);
      usable = ap (λ (o : OpenArchive). o.journal.must_reopen) c.self-2.view_is ∙ c.in-Ok.ensures.must_reopen;
    }
