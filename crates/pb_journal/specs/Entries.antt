-- What the bytes of a journal stand for: a header, entries with open gates, and a closed gate that ends them.
use Rattle.std.specs.Prelude.{◌≡◌, ◌≢◌, ◌⊎◌, ⊤, ℕ, ◌+◌, ◌/◌, ◌%◌, ◌<◌, ◌≤◌, List, [], ◌∷◌, ◌++◌, length}

-- the first byte of a journal
abbrev pub first_byte : ℕ
first_byte = 0xA5

-- and then PBKARC1
abbrev pub header : List ℕ
header = first_byte ∷ 80 ∷ 66 ∷ 75 ∷ 65 ∷ 82 ∷ 67 ∷ 49 ∷ []

-- how many bytes these are, and with the first gate
abbrev pub header_len : ℕ
header_len = 8

abbrev pub empty_len : ℕ
empty_len = 9

-- a gate with an entry after it
abbrev pub open_gate : ℕ
open_gate = 0x5A

-- how many bytes come before a body: its gate, and its length in four bytes
abbrev pub lead_len : ℕ
lead_len = 5

-- the most bytes of a body, which has at least one
abbrev pub max_body_len : ℕ
max_body_len = 65535

abbrev pub IsBody : List ℕ → Type 0
IsBody body = (0 < length body) × (length body ≤ max_body_len)

abbrev pub AreBodies : List (List ℕ) → Type 0
AreBodies [] = ⊤
AreBodies (body ∷ bodies) = IsBody body × AreBodies bodies

-- a body after its length, which has four bytes, the greatest first
abbrev pub block : List ℕ → List ℕ
block body = 0 ∷ 0 ∷ (length body / 256) ∷ (length body % 256) ∷ body

-- entries with their gates open
abbrev pub blocks : List (List ℕ) → List ℕ
blocks [] = []
blocks (body ∷ bodies) = open_gate ∷ block body ++ blocks bodies

-- a gate that isn't open or is the last byte; whatever follows it isn't read
pub record IsClosed (tail : List ℕ) : Type 0 where
  pub gate : ℕ
  pub more : List ℕ
  pub bytes : tail ≡ gate ∷ more
  pub closed : (gate ≢ open_gate) ⊎ (more ≡ [])

-- the file stands for these entries
pub record Entries (file : List ℕ) (bodies : List (List ℕ)) : Type 0 where
  pub tail : List ℕ
  pub bytes : file ≡ header ++ (blocks bodies ++ tail)
  pub fit : AreBodies bodies
  pub closed : IsClosed tail

-- the place of the gate after these entries
abbrev pub gate_place : List (List ℕ) → ℕ
gate_place bodies = header_len + length (blocks bodies)

-- the shortest file with these entries: its last byte is a gate of 00
abbrev pub at_rest : List (List ℕ) → List ℕ
at_rest bodies = header ++ (blocks bodies ++ 0 ∷ [])
