use Rattle.std.proofs.Common.{◌≡◌, ℕ, ◌-◌, arith, rules, ap, w32}
use Rattle.std.specs.Int.RustNames.{FitsSigned}
use Rattle.pb_base.specs.Time.{time_of}
use Rattle.pb_base.proofs.ReadTimeLemmas.{time_first}
use Rattle.pb_archive.proofs.FormLemmas.{all_times}
use Rattle.pb_archive.proofs.held.has_times.Goals as goal

pub returns-in-Ok : goal.returns-in-Ok
returns-in-Ok c =
    let time : c.in-Ok.time ≡ time_of c.args.run.now = time_first c.args.run.now _ _ _ c.new.ensures c.in-Ok.ensures.read in
    let fits : FitsSigned w32 c.in-Ok.time.sec = search rules in
    let last : c.from.result - 1 ≡ c.args.count - 1 = ap (λ (n : ℕ). n - 1) c.from.ensures in
    rw c.is_some.ensures (all_times _ _ _ _ _ _ time fits last (omega arith) c.after.ensures.has)
