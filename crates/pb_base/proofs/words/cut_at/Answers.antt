use Rattle.pb_base.proofs.WordLemmas.{no_cut}
use Rattle.pb_base.proofs.words.cut_at.Goals as goal

pub returns-then-place-bytes : goal.returns-then-place-bytes
returns-then-place-bytes c before after is = no_cut c.args.stop c.place_of-place.result c.args.bytes.now before after c.place_of-place.ensures.before c.if-place-bytes.true is
