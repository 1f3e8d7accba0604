use Rattle.std.proofs.Common.{sym, ap, ◌∙◌, Some}
use Rattle.pb_frame.specs.Hearing.{Hearing}
use Rattle.pb_frame.proofs.TurnLemmas.{unfinished-piece}
use Rattle.pb_frame.proofs.unframer.Unframer.piece.Goals as goal

pub returns-clause-open : goal.returns-clause-open
returns-clause-open c = λ pushed st some. unfinished-piece _ pushed st some ∙ ap (λ (h : Hearing). Some h.piece) (sym c.self.view_is)
