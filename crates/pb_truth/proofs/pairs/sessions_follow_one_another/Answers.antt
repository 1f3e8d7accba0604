use Rattle.std.proofs.Common.{List, ℕ, ◌++◌, sym, ◌∙◌, subst}
use Rattle.std.proofs.lemmas.Option.{same_Some}
use Rattle.pb_base.specs.World.{World}
use Rattle.pb_truth.specs.Image.{Good}
use Rattle.pb_truth.proofs.GrowthLemmas.{good_quietly}
use Rattle.pb_truth.proofs.pairs.sessions_follow_one_another.Goals as goal

pub returns : goal.returns
returns g c = λ entry last next w more image good left nothing world one v file is image_is.
    let later = good_quietly w more image (good.leaves.each w image left) nothing in
    subst (λ (x : World). Good x file) (same_Some (w ++ more) v (sym world ∙ is)) (subst (λ (l : List ℕ). Good (w ++ more) l) (sym (one file image_is)) later)
