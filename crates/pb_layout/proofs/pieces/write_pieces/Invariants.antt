use Rattle.std.proofs.Common.{◌≡◌, take}
use Rattle.pb_base.specs.Put.{writing, with_piece}
use Rattle.pb_layout.specs.Pieces.{pieces_bytes}
use Rattle.pb_layout.proofs.pieces.write_pieces.Given as goal

abbrev pub invariant-loop-piece : goal.invariant-loop-piece
invariant-loop-piece l = writing l.put ≡ with_piece (pieces_bytes (take l.piece-index l.pieces)) (writing l.initial.put)
