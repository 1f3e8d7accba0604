use Rattle.std.proofs.Common.{sym, ◌∙◌}
use Rattle.pb_show.specs.MessageText.{setting_text}
use Rattle.pb_layout.specs.Inside.{setting_view}
use Rattle.pb_show.proofs.SpelledLemmas.{Listed-first, Listed-more, Listed-none, Listed-all}
use Rattle.pb_show.proofs.value.push_settings.Goals as goal

pub returns-in_default : goal.returns-in_default
returns-in_default g c = Listed-none setting_text _ _ _ (sym c.new-settings.ensures ∙ c.in_default.ensures.steps.0) c.push.ensures

pub loop-setting-init : goal.loop-setting-init
loop-setting-init g c = Listed-first setting_text _ _ (setting_view c.in-Some.first) _ _ (sym c.new-settings.ensures ∙ c.in-Some.ensures.steps) c.push_setting.ensures

pub loop-setting-preserved : goal.loop-setting-preserved
loop-setting-preserved g c = Listed-more setting_text _ c.loop-setting.settings _ (setting_view c.in-Some-next.setting) _ _ _ c.loop-setting.invariant c.in-Some-next.ensures.steps c.push_next_setting.ensures

pub returns : goal.returns
returns g c = Listed-all setting_text _ c.loop-setting.settings _ _ c.in_default-next.ensures.steps.0 c.loop-setting.invariant
