-- What a receive of a site in memory adds to its world.
use Rattle.std.proofs.Common.{◌≡◌, ℕ, ◌<◌, ◌≤◌, List, [], ◌∷◌, ◌++◌, length, take, Some, refl, sym, ◌∙◌, ap, arith}
use Rattle.std.proofs.lemmas.List.{take_at, length-take-le}
use Rattle.pb_base.specs.World.{World, Quiet, all_heard}
use Rattle.pb_io.specs.ChangeLog.{arrival}
use Rattle.pb_io.specs.Site.{GrowsBy}
use Rattle.pb_io.proofs.WorldLemmas.{GrowsBy-known, stream-heard}

arrival-some : (bytes : List ℕ) → 0 < length bytes → arrival bytes ≡ all_heard bytes
arrival-some [] some = absurd (omega arith)
arrival-some (byte ∷ bytes) some = refl

pub arrival_grows : (w v : World) (chunk copied rest : List ℕ) (n : ℕ) → v ≡ w ++ arrival (take n chunk) → copied ≡ take n chunk → n ≤ length chunk
    → (0 < n → GrowsBy (Some w) (Some v) (all_heard (take n (copied ++ rest)))) × (n ≡ 0 → GrowsBy (Some w) (Some v) (Quiet ∷ []))
arrival_grows w v chunk copied rest n is copies le =
    let long : length (take n chunk) ≡ n = length-take-le n chunk le in
    let given : take n (copied ++ rest) ≡ take n chunk = take_at copied rest n (ap length copies ∙ long) ∙ copies in (
      λ some.
          let heard : arrival (take n chunk) ≡ all_heard (take n (copied ++ rest)) = arrival-some (take n chunk) (omega (arith, long)) ∙ ap all_heard (sym given) in
          GrowsBy-known w v (all_heard (take n (copied ++ rest))) (is ∙ ap (λ l. w ++ l) heard) (stream-heard (take n (copied ++ rest))),
      λ none. GrowsBy-known w v (Quiet ∷ []) (is ∙ ap (λ k. w ++ arrival (take k chunk)) none) refl,
    )
