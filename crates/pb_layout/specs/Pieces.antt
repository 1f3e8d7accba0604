-- The bytes of pieces.
use Rattle.std.specs.Prelude.{ℕ, List, [], ◌∷◌, ◌++◌}
use Rattle.std.specs.List.{flat_map}
use Rattle.std.specs.Int.{w16, w32, to_be_bytes}
use Rattle.pb_base.specs.Time.{time_bytes}
use Rattle.pb_layout.specs.declared.pieces.Piece as piece

abbrev pub piece_bytes : piece.Piece → List ℕ
piece_bytes (piece.TheVariants.Byte n) = n ∷ []
piece_bytes (piece.TheVariants.Half n) = to_be_bytes w16 n
piece_bytes (piece.TheVariants.Word n) = to_be_bytes w32 n
piece_bytes (piece.TheVariants.Time t) = time_bytes t
piece_bytes (piece.TheVariants.Bytes bytes) = bytes.now
piece_bytes (piece.TheVariants.Text text) = text.now ++ 0 ∷ []
piece_bytes (piece.TheVariants.Numbers numbers) = numbers.now ++ 0 ∷ 0 ∷ []

abbrev pub pieces_bytes : List piece.Piece → List ℕ
pieces_bytes pieces = flat_map piece_bytes pieces
