use Rattle.std.proofs.Common.{◌≡◌, ◌≤◌, length, take}
use Rattle.pb_layout.specs.Pieces.{pieces_bytes}
use Rattle.pb_layout.proofs.pieces.len_within.Given as goal

abbrev pub invariant-loop-piece : goal.invariant-loop-piece
invariant-loop-piece l = record {
  so_far : l.len ≡ length (pieces_bytes (take l.piece-index l.pieces));
  within : l.len ≤ l.room;
}
