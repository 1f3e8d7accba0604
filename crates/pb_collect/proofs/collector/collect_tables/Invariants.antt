use Rattle.std.proofs.Common.{◌-◌, ◌*◌, ◌^◌, ◌≤◌, length, vec_capacity}
use Rattle.pb_archive.specs.Entry.{tables_max}
use Rattle.pb_archive.specs.Opened.{register_of}
use Rattle.pb_collect.specs.Exchanges.{Goes}
use Rattle.pb_collect.specs.Heard.{Listens}
use Rattle.pb_collect.specs.Kept.{Keeps}
use Rattle.pb_collect.specs.Round.{AllEnd, AreInOrder}
use Rattle.pb_collect.specs.Tables.{channel}
use Rattle.pb_collect.proofs.RoundLemmas.{Reached}
use Rattle.pb_collect.proofs.collector.collect_tables.Given as goal

abbrev pub invariant-tables : goal.invariant-tables
invariant-tables g l = record {
  room : tables_max ≤ vec_capacity l.outcomes;
  few : length l.outcomes.items ≤ tables_max;
  within : length l.outcomes.items ≤ length l.archive.tables;
  order : AreInOrder 0 l.outcomes.items;
  reached : Reached l.outcomes.items (register_of l.fn.archive) (register_of l.archive);
  asks : AllEnd l.limits (register_of l.fn.archive) l.outcomes.items (channel l.initial.listener (g.S.Disk.view l.fn.site).link) (channel l.listener (g.S.Disk.view l.site).link);
  goes : Goes l.archive (g.S.Disk.view l.fn.site) (g.S.Disk.view l.site);
  listens : Listens l.listener (g.S.Disk.view l.site).link;
  keeps : Keeps (g.S.Disk.view l.fn.site) (g.S.Disk.view l.site);
  count : l.listener.ear.count ≤ length l.outcomes.items * 2 ^ 46;
}

abbrev pub decreases-tables : goal.decreases-tables
decreases-tables g l = tables_max - length l.outcomes.items
