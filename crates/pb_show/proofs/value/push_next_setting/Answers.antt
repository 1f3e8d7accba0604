use Rattle.std.proofs.Common.{refl}
use Rattle.std.proofs.lemmas.List.{append-nil}
use Rattle.pb_io.proofs.PageLemmas.{Adds-two}
use Rattle.pb_show.proofs.value.push_next_setting.Goals as goal

pub returns : goal.returns
returns g c = Adds-two _ _ _ _ _ _ (simp append-nil refl) c.push.ensures c.push_setting.ensures
