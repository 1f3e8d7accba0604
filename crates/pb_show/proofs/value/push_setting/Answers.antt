use Rattle.std.proofs.Common.{append_assoc, refl}
use Rattle.std.proofs.lemmas.List.{append-nil}
use Rattle.pb_io.proofs.PageLemmas.{Adds-two}
use Rattle.pb_show.specs.MessageText.{setting_text}
use Rattle.pb_show.proofs.value.push_setting.Goals as goal

pub returns : goal.returns
unfolding setting_text
returns g c = Adds-two _ _ _ _ _ _ (simp (c.from.ensures, append_assoc, append-nil) refl) c.put.ensures c.push_bytes.ensures
