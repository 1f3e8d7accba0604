use Rattle.std.proofs.Common.{append_assoc, refl}
use Rattle.std.proofs.lemmas.List.{append-nil}
use Rattle.pb_io.proofs.PageLemmas.{Adds-three}
use Rattle.pb_show.specs.PacketText.{hops_text}
use Rattle.pb_show.proofs.packet.push_hops.Goals as goal

pub returns : goal.returns
unfolding hops_text
returns g c = Adds-three _ _ _ _ _ _ _ _ (simp (c.from.ensures, append_assoc, append-nil) refl) c.push.ensures c.push_decimal.ensures c.push-2.ensures
