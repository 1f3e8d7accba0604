-- The faults of a piece, each with its place, as PakBus has them.
use Rattle.std.specs.Prelude.{◌≡◌, ◌≢◌, ℕ, ◌+◌, ◌<◌, ◌≤◌, Bool, true, List, [], ◌∷◌, ◌++◌, length, Some}
use Rattle.pb_frame.specs.declared.why.Why.{Why}
use Rattle.pb_frame.specs.declared.why.Why.TheVariants.{Quote, Long, Short, Signature}
use Rattle.pb_frame.specs.Signature.{start, sig}
use Rattle.pb_frame.specs.Framing.{quote, Quoted, Piece, Faulty, outcome}
use Rattle.pb_frame.specs.Hearing.{HasNoFlag}

-- what every piece of a stream is: it has bytes, and none is a flag byte
abbrev pub IsPiece : Piece → Type 0
IsPiece piece = (0 < length piece.text) × HasNoFlag piece.text

-- what stands behind the quote byte is wrong: another byte than these, or the end of the piece
abbrev pub IsWrong : List ℕ → Bool → Type 0
IsWrong [] ended = ended ≡ true
IsWrong (byte ∷ more) ended = (byte ≢ 0xDC) × (byte ≢ 0xDD)

-- behind the text of a body stands a quote byte with a wrong byte, whose place it is
pub record HasWrongQuote (piece : Piece) (at : ℕ) : Type 0 where
  pub body : List ℕ
  pub front : List ℕ
  pub more : List ℕ
  pub stands : Quoted body front
  pub is : piece.text ≡ front ++ quote ∷ more
  pub wrong : IsWrong more piece.ended
  pub place : at ≡ piece.at + length front + 1

-- the text of 1,011 body bytes, of which the last byte is the place
pub record IsTooLong (piece : Piece) (at : ℕ) : Type 0 where
  pub body : List ℕ
  pub front : List ℕ
  pub more : List ℕ
  pub stands : Quoted body front
  pub is : piece.text ≡ front ++ more
  pub size : length body ≡ 1011
  pub place : at + 1 ≡ piece.at + length front

-- the ended text of 1 to 5 or 7 to 9 body bytes
pub record IsTooShort (piece : Piece) (at : ℕ) : Type 0 where
  pub ended : piece.ended ≡ true
  pub body : List ℕ
  pub stands : Quoted body piece.text
  pub small : length body < 10
  pub not_six : length body ≢ 6
  pub place : at ≡ piece.at + length piece.text

-- the ended text of a body whose signature isn't 0
pub record IsBadlySigned (piece : Piece) (at : ℕ) : Type 0 where
  pub ended : piece.ended ≡ true
  pub body : List ℕ
  pub stands : Quoted body piece.text
  pub bad : sig body start ≢ 0
  pub place : at ≡ piece.at + length piece.text

abbrev pub HasFault : Piece → ℕ → Why → Type 0
HasFault piece at Quote = HasWrongQuote piece at
HasFault piece at Long = IsTooLong piece at
HasFault piece at Short = IsTooShort piece at
HasFault piece at Signature = IsBadlySigned piece at

-- the order of the test
abbrev pub rank : Why → ℕ
rank Quote = 0
rank Long = 1
rank Short = 2
rank Signature = 3

-- a fault that is heard of a piece in the place of another: an earlier one, or at the same place one that is tested first
pub record IsHeardBefore (piece : Piece) (at : ℕ) (why : Why) : Type 0 where
  pub first_at : ℕ
  pub first_why : Why
  pub heard : outcome piece ≡ Some (Faulty first_at first_why)
  pub earlier : first_at ≤ at
  pub ranked : first_at ≡ at → rank first_why ≤ rank why
