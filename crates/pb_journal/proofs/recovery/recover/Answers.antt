use Rattle.std.proofs.Common.{◌≡◌, ◌∙◌, ◌+◌, ℕ, List, Some, length, take, ap, sym, arith, length-take}
use Rattle.pb_io.proofs.CrashLemmas.{known_before}
use Rattle.pb_journal.proofs.RecoveryLemmas.{within_end, cut_file, shut_file, cut_run, shut_run, file_same, opened}
use Rattle.pb_journal.proofs.recovery.recover.Goals as goal

pub cut_settled-requires : goal.cut_settled-requires
cut_settled-requires g c f view = within_end c.args.gate f (c.requires.ends f view)

pub write_settled-requires : goal.write_settled-requires
write_settled-requires g c x view =
    let n = c.args.gate + 1 in
    let was : (f : List ℕ) × ((g.D.Disk.view c.args.disk.now).file ≡ Some f) × (x ≡ take n f) = known_before (take n) _ x (sym c.in_ok-cut_settled.ensures.shortened ∙ view) in
    let size : length x ≡ length (take n was.0) = ap length was.2 in
    omega (arith, within_end c.args.gate was.0 (c.requires.ends was.0 was.1), size, length-take n was.0)

pub returns-in_err-cut_settled-clause-file : goal.returns-in_err-cut_settled-clause-file
returns-in_err-cut_settled-clause-file g c = cut_file c.args.gate _ c.requires.ends _ c.cut_settled.ensures.file

pub returns-in_err-write_settled-clause-file : goal.returns-in_err-write_settled-clause-file
returns-in_err-write_settled-clause-file g c = shut_file c.args.gate _ c.requires.ends _ _ c.in_ok-cut_settled.ensures.shortened c.write_settled.ensures.file

pub returns-clause-file : goal.returns-clause-file
returns-clause-file g c = shut_file c.args.gate _ c.requires.ends _ _ c.in_ok-cut_settled.ensures.shortened c.write_settled.ensures.file

pub returns-in_err-cut_settled-clause-run : goal.returns-in_err-cut_settled-clause-run
returns-in_err-cut_settled-clause-run g c = cut_run c.args.gate _ _ c.requires.ends c.requires.settled c.cut_settled.ensures.run

pub returns-in_err-write_settled-clause-run : goal.returns-in_err-write_settled-clause-run
returns-in_err-write_settled-clause-run g c =
    let cut = c.in_ok-cut_settled.ensures in
    let w = c.write_settled.ensures in
    shut_run c.args.gate _ _ c.requires.ends c.requires.settled _ cut.shortened cut.settled cut.run w.run

pub returns-clause-run : goal.returns-clause-run
returns-clause-run g c =
    let cut = c.in_ok-cut_settled.ensures in
    let w = c.write_settled.ensures in
    shut_run c.args.gate _ _ c.requires.ends c.requires.settled _ cut.shortened cut.settled cut.run w.run

pub returns-clause-same : goal.returns-clause-same
returns-clause-same g c =
    let cut = c.in_ok-cut_settled.ensures in
    file_same c.args.gate (g.D.Disk.view c.args.disk.now) (g.D.Disk.view c.cut_settled.new.disk) c.requires.ends c.requires.settled (g.D.Disk.view c.write_settled.new.disk) cut.shortened cut.settled c.in_ok-write_settled.ensures.written

pub returns-clause-opened : goal.returns-clause-opened
returns-clause-opened g c =
    let cut = c.in_ok-cut_settled.ensures in
    let w = c.in_ok-write_settled.ensures in
    opened c.args.gate (g.D.Disk.view c.args.disk.now) (g.D.Disk.view c.cut_settled.new.disk) c.requires.ends c.requires.settled (g.D.Disk.view c.write_settled.new.disk) cut.shortened cut.settled w.written w.settled
