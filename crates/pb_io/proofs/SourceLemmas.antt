-- How a read takes a prefix of what is left.
use Rattle.std.proofs.Common.{◌≡◌, ℕ, ◌+◌, ◌<◌, ◌≤◌, min, List, [], ◌++◌, length, take, drop, sym, ◌∙◌, ap, arith, length-append, length-drop}
use Rattle.std.proofs.lemmas.List.{take_at, take-append-drop, drop-drop, drop_all, length-take}

pub read_consumes : (all copied rest : List ℕ) (at n : ℕ) → n ≤ length (drop at all) → copied ≡ take n (drop at all) → drop at all ≡ take n (copied ++ rest) ++ drop (at + n) all
read_consumes all copied rest at n within is =
    let long : length copied ≡ n = omega (arith, ap length is, length-take n (drop at all)) in
    sym (take-append-drop n (drop at all))
    ∙ ap (λ (l : List ℕ). l ++ drop n (drop at all)) (sym (take_at copied rest n long ∙ is))
    ∙ ap (λ (l : List ℕ). take n (copied ++ rest) ++ l) (drop-drop n at all)

pub read_at_end : (all copied to : List ℕ) (at n chunk : ℕ) → 1 ≤ chunk → n ≡ min (min chunk (length to)) (length (drop at all)) → copied ≡ take n (drop at all)
    → n ≡ 0 → 0 < length (copied ++ drop n to) → drop (at + n) all ≡ []
read_at_end all copied to at n chunk some is copies none room =
    let long : length copied ≡ n = omega (arith, ap length copies, length-take n (drop at all)) in
    drop_all (at + n) all (omega (arith, long, length-append copied (drop n to), length-drop n to, length-drop at all))
