use Rattle.pb_station.proofs.SettingLemmas.{valid-given, front-written}
use Rattle.pb_station.proofs.device.Device.answer_get.Goals as goal

pub reply_ctrl-requires-2-clause-valid : goal.reply_ctrl-requires-2-clause-valid
reply_ctrl-requires-2-clause-valid c =
    let w = c.settings_into-len.ensures in
    valid-given c.args.tran c.args.first c.args.self.now _ w.short (front-written _ _ _ _ w.written)
