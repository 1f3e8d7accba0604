use Rattle.std.proofs.Common.{◌≡◌, ℕ, List, Some}
use Rattle.pb_frame.specs.Framing.{unfinished}
use Rattle.pb_frame.specs.Hearing.{StandsFor}
use Rattle.pb_io.proofs.SinkLemmas.{OnErr-anyway}
use Rattle.pb_tool.proofs.TakesLemmas.{Finishes-open, FinishesNot-open, some_by}
use Rattle.pb_tool.proofs.show.Show.finish.Goals as goal

pub returns-in_err-flush-clause-err : goal.returns-in_err-flush-clause-err
returns-in_err-flush-clause-err g c =
    let open_piece : (taken : List ℕ) → StandsFor c.args.self.now.unframer taken → unfinished taken ≡ Some c.piece.result = λ taken stands. c.piece.ensures.open taken stands (some_by _ _ (c.pending.ensures taken stands) c.if-not-pending.false) in
    OnErr-anyway _ _ (FinishesNot-open c.args.self.now c.piece.result _ c.flush.new.self _ _ _ c.requires open_piece c.put.ensures c.flush.ensures.adds c.in_err-flush.ensures.whole)

pub returns-clause-ok : goal.returns-clause-ok
returns-clause-ok g c =
    let open_piece : (taken : List ℕ) → StandsFor c.args.self.now.unframer taken → unfinished taken ≡ Some c.piece.result = λ taken stands. c.piece.ensures.open taken stands (some_by _ _ (c.pending.ensures taken stands) c.if-not-pending.false) in
    Finishes-open c.args.self.now c.piece.result _ c.flush.new.self _ _ _ c.requires open_piece c.put.ensures c.flush.ensures.adds c.in_ok-flush.ensures.whole
