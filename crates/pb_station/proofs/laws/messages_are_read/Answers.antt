use Rattle.pb_layout.proofs.LayoutLaws.{reading-found, reading-only}
use Rattle.pb_ctrl.specs.Message as ctrl
use Rattle.pb_ctrl.proofs.MessageLaws as ctrl_laws
use Rattle.pb_bmp5.specs.Message as bmp5
use Rattle.pb_bmp5.proofs.MessageLaws as bmp5_laws
use Rattle.pb_station.proofs.laws.messages_are_read.Goals as goal

pub returns-clause-ctrl : goal.returns-clause-ctrl
returns-clause-ctrl c = λ m bytes fits. (reading-found ctrl.layout ctrl.keys ctrl_laws.keys-made bytes m fits, reading-only ctrl.layout ctrl.keys bytes m)

pub returns-clause-bmp5 : goal.returns-clause-bmp5
returns-clause-bmp5 c = λ m bytes fits. (reading-found bmp5.layout bmp5.keys bmp5_laws.keys-made bytes m fits, reading-only bmp5.layout bmp5.keys bytes m)
