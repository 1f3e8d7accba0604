use Rattle.std.proofs.Common.{◌≡◌, ◌≤◌, false}
use Rattle.pb_base.specs.Record.{content_len}
use Rattle.pb_archive.specs.Entry.{advance_bytes_max}
use Rattle.pb_archive.specs.Opened.{IsOpen, register_of}
use Rattle.pb_archive.specs.Refusals.{NeedsOpening}
use Rattle.pb_collect.specs.Changing.{ChangesOnly}
use Rattle.pb_collect.specs.Kept.{KeepsWhere, KnowsTrue}
use Rattle.pb_collect.specs.Progress.{CanTakeAll, after_all, partial_bytes}
use Rattle.pb_collect.specs.Taking.{AreBrief, IsReady}
use Rattle.pb_collect.proofs.taking.take_answer.Given as goal

abbrev pub invariant-loop-fragment : goal.invariant-loop-fragment
invariant-loop-fragment g l = record {
  can : CanTakeAll l.progress l.fragment-iterator;
  brief : AreBrief l.fragment-iterator;
  small : content_len l.progress.layout ≤ advance_bytes_max;
  ready : IsReady l.archive l.id.0 l.progress;
  opened : IsOpen l.archive (g.D.Disk.view l.disk);
  usable : NeedsOpening l.archive false;
  after : after_all l.progress l.fragment-iterator ≡ after_all l.fn.progress l.fn.fragments;
  changes : ChangesOnly l.id.0 (register_of l.fn.archive) (register_of l.archive);
  keeps : KeepsWhere (KnowsTrue (g.D.Disk.view l.fn.disk) l.id.0 (partial_bytes l.fn.progress) l.fn.fragments) (g.D.Disk.view l.fn.disk) (g.D.Disk.view l.disk);
  knows : KnowsTrue (g.D.Disk.view l.fn.disk) l.id.0 (partial_bytes l.fn.progress) l.fn.fragments → KnowsTrue (g.D.Disk.view l.disk) l.id.0 (partial_bytes l.progress) l.fragment-iterator;
  link : (g.D.Disk.view l.disk).link ≡ (g.D.Disk.view l.fn.disk).link;
  faults : (g.D.Disk.view l.disk).faults ≡ (g.D.Disk.view l.fn.disk).faults;
}
