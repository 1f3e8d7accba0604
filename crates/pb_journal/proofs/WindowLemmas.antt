-- What is read through a window.
use Rattle.std.proofs.Common.{◌≡◌, ℕ, ◌+◌, ◌-◌, List, length, take, drop, ◌∙◌, ap, arith}
use Rattle.std.proofs.lemmas.List.{drop-drop, drop-take, take-take}
use Rattle.pb_journal.specs.Window.{Chunk, Shows, Covers}

-- bytes in the window are bytes of the file
pub shown_bytes : (chunk : Chunk) (at count : ℕ) (f : List ℕ) → Covers chunk at count → Shows chunk f → take count (drop (at - chunk.at) chunk.bytes) ≡ take count (drop at f)
shown_bytes chunk at count f covers shows =
    let n = length chunk.bytes in
    let k = at - chunk.at in
    let split : n ≡ k + (n - k) = omega arith in
    let here : chunk.at + k ≡ at = omega arith in
    let after : drop k chunk.bytes ≡ take (n - k) (drop at f) =
    ap (λ (l : List ℕ). drop k l) (shows ∙ ap (λ (m : ℕ). take m (drop chunk.at f)) split)
    ∙ drop-take k (n - k) (drop chunk.at f) ∙ ap (λ (l : List ℕ). take (n - k) l) (drop-drop k chunk.at f ∙ ap (λ (m : ℕ). drop m f) here) in
    ap (λ (l : List ℕ). take count l) after ∙ take-take count (n - k) (drop at f) (omega arith)
