use Rattle.std.proofs.Common.{arith, ◌≤◌, length, ap}
use Rattle.pb_base.specs.Put.{Writing}
use Rattle.pb_layout.specs.declared.pieces.Piece.TheVariants.{Byte}
use Rattle.pb_layout.specs.Pieces.{pieces_bytes}
use Rattle.pb_layout.proofs.PieceLaws.{has_room}
use Rattle.pb_layout.proofs.pieces.write_pieces.Goals as goal

pub put_piece-requires : goal.put_piece-requires
put_piece-requires c =
    let fits : length (pieces_bytes c.args.pieces.now) ≤ length c.args.out.now = omega (arith, c.in_ok-len.ensures.fits) in
    has_room _ _ c.args.out.now c.args.pieces.now c.loop-piece.piece-index (Byte 0) c.loop-piece.invariant (ap (λ (w : Writing). w.room) c.new-put.ensures) fits c.loop-piece-test.true
