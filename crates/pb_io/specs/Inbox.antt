-- The chunks that a site in memory is to hear, in their order.
use Rattle.std.specs.Prelude.{ℕ, ◌==◌, if◌then◌else◌, List, [], ◌∷◌, length, drop, map, Vec}
use Rattle.std.specs.declared.alloc.Global.{Global}

-- the chunks that are left of these, where `at` bytes of the first are gone
abbrev pub waiting : ℕ → List (Vec ℕ Global) → List (List ℕ)
waiting at [] = []
waiting at (chunk ∷ chunks) = drop at chunk.items ∷ map (λ v. v.items) chunks

-- the next chunk, which is empty where there is none
abbrev pub next_chunk : List (List ℕ) → List ℕ
next_chunk [] = []
next_chunk (chunk ∷ chunks) = chunk

-- without the first n bytes of the next chunk, and without the chunk where these are all of it
abbrev pub without : ℕ → List (List ℕ) → List (List ℕ)
without n [] = []
without n (chunk ∷ chunks) = if n == length chunk then chunks else drop n chunk ∷ chunks
