-- The bytes of a file that are kept in memory.
use Rattle.std.specs.Prelude.{◌≡◌, ℕ, ◌+◌, ◌≤◌, List, length, take, drop}

-- how many bytes of a file are kept in memory at most
abbrev pub window_len : ℕ
window_len = 65536

-- the bytes that are at hand, the place of the first in the file, and how many bytes there is room for
pub record Chunk : Type 0 where
  pub at : ℕ
  pub bytes : List ℕ
  pub held : ℕ

-- the bytes are those of this file
abbrev pub Shows : Chunk → List ℕ → Type 0
Shows chunk file = chunk.bytes ≡ take (length chunk.bytes) (drop chunk.at file)

-- these bytes of the file are at hand
abbrev pub Covers : Chunk → ℕ → ℕ → Type 0
Covers chunk at count = (chunk.at ≤ at) × (at + count ≤ chunk.at + length chunk.bytes)
