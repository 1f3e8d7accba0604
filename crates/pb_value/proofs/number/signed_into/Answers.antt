use Rattle.std.proofs.Common.{◌≡◌, ◌≤◌, ℕ, List, length, w32, to_z, of_z, subst, ap, ◌∙◌, rules}
use Rattle.std.specs.Fmt.{signed_decimal}
use Rattle.std.proofs.lemmas.Int.{to_z-of_z}
use Rattle.pb_value.proofs.number.signed_into.Goals as goal

pub returns-clause-short : goal.returns-clause-short
returns-clause-short c =
    let small : to_z w32 (of_z w32 c.args.n) ≡ c.args.n = to_z-of_z w32 _ (search rules) in
    subst (λ (l : List ℕ). length l ≤ 11) (c.format.ensures.text ∙ ap signed_decimal small) c.format.ensures.fits
