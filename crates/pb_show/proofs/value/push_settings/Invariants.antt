use Rattle.std.proofs.Common.{length}
use Rattle.pb_show.specs.MessageText.{setting_text}
use Rattle.pb_io.specs.Page.{printing}
use Rattle.pb_layout.specs.Lists.{settings_of}
use Rattle.pb_show.proofs.SpelledLemmas.{Listed}
use Rattle.pb_show.proofs.value.push_settings.Given as goal

abbrev pub invariant-loop-setting : goal.invariant-loop-setting
invariant-loop-setting g l = Listed setting_text (settings_of l.bytes) l.settings (printing g.O.Sink l.fn.page l.fn.out) (printing g.O.Sink l.page l.out)

abbrev pub decreases-loop-setting : goal.decreases-loop-setting
decreases-loop-setting g l = length l.settings
