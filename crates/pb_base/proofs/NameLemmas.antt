-- Names and the zeros after them.
use Rattle.std.proofs.Common.{◌≡◌, ℕ, List, ◌++◌, length, take, drop, refl, ap, ◌∙◌}
use Rattle.std.proofs.Math.ListN.{replicate}
use Rattle.std.proofs.Math.Seq.{take-append_seam}
use Rattle.std.proofs.lemmas.List.{drop-replicate}
use Rattle.pb_base.specs.Name.{name_max, IsName, IsPadded}

-- what is written over the front of an array of zeros
pub padded-new : (bytes front : List ℕ) → IsName bytes → front ≡ bytes
    → IsPadded (front ++ drop (length bytes) (replicate name_max 0)) (length bytes)
padded-new bytes front name is =
    let rest = drop (length bytes) (replicate name_max 0) in
    let front_is : take (length bytes) (front ++ rest) ≡ bytes = ap (λ l. take (length bytes) (l ++ rest)) is ∙ take-append_seam bytes rest in
    record {
      name = rw front_is name;
      long = ap length front_is;
      zeros = rw (front_is, is, drop-replicate) refl;
    }
