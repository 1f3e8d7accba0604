use Rattle.std.proofs.Common.{arith, ◌≡◌}
use Rattle.std.proofs.lemmas.Grind.{common_steps}
use Rattle.pb_io.proofs.DiskLemmas.{first_kept}
use Rattle.pb_io.proofs.mem_disk.MemDisk.new.Goals as goal

pub invariant_of-result : goal.invariant_of-result
invariant_of-result c =
    let first : c.in_ok-map_err.field-0.items ≡ c.args.bytes.now = grind (arith, common_steps) in
    let bytes : c.in_ok-map_err-2.field-0.items ≡ c.args.bytes.now = grind (arith, common_steps) in
    first_kept c.args.bytes.now _ _ c.new.result bytes first c.new.ensures (omega arith)
