use Rattle.std.proofs.Common.{arith}
use Rattle.pb_truth.proofs.LearningLemmas.{learned_adds}
use Rattle.pb_truth.proofs.TableLemmas.{sound_front}
use Rattle.pb_truth.proofs.learning.fewer_rows_are_true.Goals as goal

pub returns-clause-adds : goal.returns-clause-adds
returns-clause-adds c layout k fs = learned_adds layout fs k

pub returns-clause-fewer : goal.returns-clause-fewer
returns-clause-fewer c = sound_front

pub returns-clause-closes : goal.returns-clause-closes
returns-clause-closes c k h sound = record { table = sound.table; partial = λ some. absurd (omega (arith, some)) }
