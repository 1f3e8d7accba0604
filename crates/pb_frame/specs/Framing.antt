-- Frames on a byte stream, as PakBus has them: a flag byte, a quoted body, a flag byte.
use Rattle.std.specs.Prelude.{◌≡◌, ◌≢◌, ℕ, ◌+◌, ◌-◌, ◌≤◌, ◌⊎◌, Bool, true, false, not, ◌&&◌, if◌then◌else◌, nat_eq, nat_lt, List, [], ◌∷◌, ◌++◌, length, take, Option, Some, None, is_none, option_to_list, option_map, find, flat_map}
use Rattle.pb_frame.specs.declared.why.Why.{Why}
use Rattle.pb_frame.specs.declared.why.Why.TheVariants.{Quote, Long, Short, Signature}
use Rattle.pb_frame.specs.Signature.{start, sig, null}

-- the byte that begins and ends a frame
abbrev pub flag : ℕ
flag = 0xBD

-- the byte that begins a quoted byte
abbrev pub quote : ℕ
quote = 0xBC

-- A body and the text that stands for it on the wire.
pub data Quoted : List ℕ → List ℕ → Type 0 where
  nothing : Quoted [] []
  plain : {byte : ℕ} {body text : List ℕ} → byte ≢ quote → byte ≢ flag → Quoted body text → Quoted (byte ∷ body) (byte ∷ text)
  quote_quoted : {body text : List ℕ} → Quoted body text → Quoted (quote ∷ body) (quote ∷ 0xDC ∷ text)
  flag_quoted : {body text : List ℕ} → Quoted body text → Quoted (flag ∷ body) (quote ∷ 0xDD ∷ text)

-- a byte that stands for itself
abbrev pub IsPlain : ℕ → Type 0
IsPlain byte = (byte ≢ quote) × (byte ≢ flag)

-- the text of one byte
abbrev pub quoted_byte : ℕ → List ℕ
quoted_byte byte = if nat_eq byte quote then quote ∷ 0xDC ∷ [] else (if nat_eq byte flag then quote ∷ 0xDD ∷ [] else byte ∷ [])

-- the one text of a body
unfoldable pub quoted : List ℕ → List ℕ
quoted body = flat_map quoted_byte body

-- the most bytes of a body, and of a frame: each body byte quoted, and two flag bytes
abbrev pub body_max : ℕ
body_max = 1010

abbrev pub frame_max : ℕ
frame_max = 2022

-- the frame of a content: the content and its nullifier, quoted, between two flag bytes
abbrev pub frame : List ℕ → List ℕ
frame content = flag ∷ quoted (content ++ null (sig content start)) ++ flag ∷ []

-- what stands before the first flag byte of a stream, and the texts that stand behind each
pub record Cut : Type 0 where
  pub head : List ℕ
  pub texts : List (List ℕ)

unfoldable pub cut : List ℕ → Cut
cut [] = record { head = []; texts = [] }
cut (byte ∷ stream) =
    let rest = cut stream in
    if nat_eq byte flag then record { head = []; texts = rest.head ∷ rest.texts }
    else record { head = byte ∷ rest.head; texts = rest.texts }

-- a text between two flag bytes, or the open one behind the last flag byte, with the place of its first byte
pub record Piece : Type 0 where
  pub at : ℕ
  pub text : List ℕ
  pub ended : Bool

-- a text as a piece, where it has bytes
abbrev pub piece_of : ℕ → List ℕ → Bool → List Piece
piece_of at [] ended = []
piece_of at (byte ∷ text) ended = record { at = at; text = byte ∷ text; ended = ended } ∷ []

abbrev pub has_next : List (List ℕ) → Bool
has_next [] = false
has_next (text ∷ texts) = true

-- texts that stand one behind another from a place on, with a flag byte between two
unfoldable pub placed : ℕ → List (List ℕ) → List Piece
placed at [] = []
placed at (text ∷ texts) = piece_of at text (has_next texts) ++ placed (at + length text + 1) texts

-- the pieces of a stream that have bytes; what stands before the first flag byte is none
unfoldable pub pieces : List ℕ → List Piece
pieces stream = let whole = cut stream in placed (length whole.head + 1) whole.texts

-- the sizes of a body: 6 bytes (two header words and the nullifier), or 10 to 1,010
abbrev pub IsBodySize : ℕ → Type 0
IsBodySize n = (n ≡ 6) ⊎ ((10 ≤ n) × (n ≤ 1010))

-- the sizes of a content: 4 bytes, or 8 to 1,008
abbrev pub IsContentSize : ℕ → Type 0
IsContentSize n = (n ≡ 4) ⊎ ((8 ≤ n) × (n ≤ 1008))

-- a good text and its body
pub record IsGoodBody (text body : List ℕ) : Type 0 where
  pub stands : Quoted body text
  pub size : IsBodySize (length body)
  pub signed : sig body start ≡ 0

-- a text that a good body stands for
abbrev pub IsGood : List ℕ → Type 0
IsGood text = (body : List ℕ) × IsGoodBody text body

-- a body without its nullifier
abbrev pub content_of : List ℕ → List ℕ
content_of body = take (length body - 2) body

-- the longest front of a text that stands for a body, as that body, and what comes behind it
pub record Unquoted : Type 0 where
  pub body : List ℕ
  pub rest : List ℕ

abbrev pub with_byte : ℕ → Unquoted → Unquoted
with_byte byte u = record { body = byte ∷ u.body; rest = u.rest }

unfoldable pub unquoted : List ℕ → Unquoted
unquoted [] = record { body = []; rest = [] }
unquoted (x ∷ []) = if nat_eq x quote then record { body = []; rest = x ∷ [] } else record { body = x ∷ []; rest = [] }
unquoted (x ∷ y ∷ text) =
    if nat_eq x quote
    then (if nat_eq y 0xDC then with_byte quote (unquoted text)
    else (if nat_eq y 0xDD then with_byte flag (unquoted text)
    else record { body = []; rest = x ∷ y ∷ text }))
    else with_byte x (unquoted (y ∷ text))

-- what is heard of a piece: its content, or its first fault with the place of the byte that shows it
pub data Finding : Type 0 where
  Whole : (content : List ℕ) → Finding
  Faulty : (at : ℕ) (why : Why) → Finding

-- An ended text that stands for a body, of at most 1,010 bytes, with the place of its end.
abbrev pub ended_outcome : ℕ → List ℕ → Finding
ended_outcome at body =
    if nat_lt (length body) 10 && not (nat_eq (length body) 6) then Faulty at Short
    else (if nat_eq (sig body start) 0 then Whole (content_of body) else Faulty at Signature)

-- whether the rest of a text is a quote byte with a wrong byte behind it, which may be the flag byte that ends the piece
abbrev pub is_broken : List ℕ → Bool → Bool
is_broken [] ended = false
is_broken (x ∷ []) ended = ended
is_broken (x ∷ y ∷ rest) ended = true

-- The outcome of a piece, judged over its whole text. An open piece has one only where it has a fault already.
unfoldable pub outcome : Piece → Option Finding
outcome piece =
    let u = unquoted piece.text in
    if nat_lt 1010 (length u.body) then Some (Faulty (piece.at + length (quoted (take 1011 u.body)) - 1) Long)
    else (if is_broken u.rest piece.ended then Some (Faulty (piece.at + length (quoted u.body) + 1) Quote)
    else (if piece.ended then Some (ended_outcome (piece.at + length piece.text) u.body) else None))

-- a verdict on a piece, with the place of its first byte
pub record Verdict : Type 0 where
  pub piece : ℕ
  pub outcome : Finding

-- the one verdict on a good piece that begins here
abbrev pub whole_at : ℕ → List ℕ → List Verdict
whole_at piece content = record { piece = piece; outcome = Whole content } ∷ []

abbrev pub verdict_of : Piece → List Verdict
verdict_of piece = option_to_list (option_map (λ o. record { piece = piece.at; outcome = o }) (outcome piece))

-- the verdicts of a stream, in the order of their pieces
unfoldable pub verdicts : List ℕ → List Verdict
verdicts stream = flat_map verdict_of (pieces stream)

-- whether a piece has no verdict yet
abbrev pub is_open : Piece → Bool
is_open piece = is_none (outcome piece)

-- the place of the open piece, where it has bytes and no verdict
unfoldable pub unfinished : List ℕ → Option ℕ
unfinished stream = option_map (λ p. p.at) (find is_open (pieces stream))
