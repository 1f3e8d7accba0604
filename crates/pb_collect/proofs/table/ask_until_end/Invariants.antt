use Rattle.std.proofs.Common.{◌≡◌, ℕ, Some, ◌+◌, ◌-◌, ◌*◌, ◌^◌, ◌≤◌, []}
use Rattle.std.specs.Prelude.{slice_get}
use Rattle.pb_base.specs.Record.{content_len}
use Rattle.pb_archive.specs.Entry.{advance_bytes_max}
use Rattle.pb_archive.specs.Opened.{register_of}
use Rattle.pb_archive.specs.declared.held.Held.{Held}
use Rattle.pb_truth.specs.Pairs.{AreGood}
use Rattle.pb_collect.specs.Changing.{ChangesOnly}
use Rattle.pb_collect.specs.Ends.{asked_once_more}
use Rattle.pb_collect.specs.Exchanges.{Goes}
use Rattle.pb_collect.specs.Heard.{Listens}
use Rattle.pb_collect.specs.Kept.{HonestFrom, Keeps, KnowsTrue}
use Rattle.pb_collect.specs.Progress.{question, partial_bytes}
use Rattle.pb_collect.specs.Tables.{Requests, point}
use Rattle.pb_collect.specs.Taking.{IsReady}
use Rattle.pb_collect.proofs.table.ask_until_end.Given as goal

abbrev pub invariant-requests : goal.invariant-requests
invariant-requests g l = record {
  mode : l.mode ≡ question l.progress;
  some : 1 ≤ l.progress.asked;
  within : l.progress.asked ≤ l.limits.budget;
  small : content_len l.progress.layout ≤ advance_bytes_max;
  ready : IsReady l.archive l.id.0 l.progress;
  goes : Goes l.archive (g.S.Disk.view l.fn.site) (g.S.Disk.view l.site);
  listens : Listens l.listener (g.S.Disk.view l.site).link;
  asks : (held : Held) → slice_get l.fn.archive.tables l.id.0 ≡ Some held
      → (n : ℕ) × (l.progress.asked ≡ n + 1) × Requests l.limits l.fn.archive.plan held n (point l.fn.listener (g.S.Disk.view l.fn.site).link (asked_once_more l.fn.progress)) (point l.listener (g.S.Disk.view l.site).link l.progress);
  changes : ChangesOnly l.id.0 (register_of l.fn.archive) (register_of l.archive);
  keeps : Keeps (g.S.Disk.view l.fn.site) (g.S.Disk.view l.site);
  knows : AreGood (g.S.Disk.view l.fn.site) → HonestFrom (g.S.Disk.view l.fn.site) (g.S.Disk.view l.site) → KnowsTrue (g.S.Disk.view l.site) l.id.0 (partial_bytes l.progress) [];
  count : l.listener.ear.count ≤ l.fn.listener.ear.count + (l.progress.asked - 1) * 2 ^ 25;
}

abbrev pub decreases-requests : goal.decreases-requests
decreases-requests g l = l.limits.budget - l.progress.asked
