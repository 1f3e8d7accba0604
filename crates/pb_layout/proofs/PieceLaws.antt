-- The pieces up to one are no longer than all of them.
use Rattle.std.proofs.Common.{◌≡◌, ℕ, zero, suc, ◌+◌, ◌<◌, ◌≤◌, List, [], ◌∷◌, length, take, drop, get_or, ap, arith}
use Rattle.std.proofs.lemmas.List.{length-append, length-drop}
use Rattle.pb_layout.specs.declared.pieces.Piece.{Piece}
use Rattle.pb_base.specs.Put.{Writing, with_piece}
use Rattle.pb_layout.specs.Pieces.{piece_bytes, pieces_bytes}

pub length-piece_among : (pieces : List Piece) (i : ℕ) (d : Piece) → i < length pieces
    → length (pieces_bytes (take i pieces)) + length (piece_bytes (get_or pieces i d)) ≤ length (pieces_bytes pieces)
length-piece_among [] i d lt = absurd (omega arith)
length-piece_among (p ∷ pieces) zero d lt = omega (arith, length-append (piece_bytes p) (pieces_bytes pieces))
length-piece_among (p ∷ pieces) (suc i) d lt =
    omega (arith, length-append (piece_bytes p) (pieces_bytes (take i pieces)), length-append (piece_bytes p) (pieces_bytes pieces), length-piece_among pieces i d (omega arith))

-- Where all of the pieces fit, each on the way has room.
pub has_room : (first before : Writing) (out : List ℕ) (pieces : List Piece) (i : ℕ) (d : Piece) → before ≡ with_piece (pieces_bytes (take i pieces)) first
    → first.room ≡ out → length (pieces_bytes pieces) ≤ length out → i < length pieces → length (piece_bytes (get_or pieces i d)) ≤ length before.room
has_room first before out pieces i d so_far room fits lt =
    let left : length before.room ≡ length (drop (length (pieces_bytes (take i pieces))) first.room) = ap (λ (w : Writing). length w.room) so_far in
    omega (arith, left, ap length room, fits, length-drop (length (pieces_bytes (take i pieces))) first.room, length-piece_among pieces i d lt)
