use Rattle.std.proofs.Common.{arith}
use Rattle.pb_layout.specs.declared.pieces.Piece.TheVariants.{Byte}
use Rattle.pb_layout.proofs.PieceLaws.{length-piece_among}
use Rattle.pb_layout.proofs.pieces.len_within.Goals as goal

pub returns-then-room-len-clause-full : goal.returns-then-room-len-clause-full
returns-then-room-len-clause-full c = omega (arith, c.piece_len-more.ensures, c.loop-piece.invariant.so_far, length-piece_among c.args.pieces.now c.loop-piece.piece-index (Byte 0) c.loop-piece-test.true)
