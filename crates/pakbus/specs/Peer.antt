-- The word that names a peer.
use Rattle.std.specs.Prelude.{◌≡◌, ◌≢◌, ◌⊎◌, ℕ, ◌<◌, ◌≤◌, List, [], ◌∷◌, ◌++◌, length, codes, decimal}

-- the digits write this port, which isn't 0
pub record IsPort (digits : List ℕ) (port : ℕ) : Type 0 where
  pub text : digits ≡ decimal port
  pub some : 1 ≤ port

-- the text of a host: in brackets, as an address with colons is written, or as it is
abbrev pub IsHost : List ℕ → List ℕ → Type 0
IsHost text host = (text ≡ 91 ∷ (host ++ 93 ∷ [])) ⊎ (((rest : List ℕ) → text ≢ 91 ∷ rest) × (text ≡ host))

-- the word is `HOST:PORT`, and the host isn't empty and isn't `listen`
pub record IsPeer (word host : List ℕ) (port : ℕ) : Type 0 where
  pub text : List ℕ
  pub digits : List ℕ
  pub form : word ≡ text ++ (58 ∷ digits)
  pub port_is : IsPort digits port
  pub host_is : IsHost text host
  pub some_host : 0 < length host
  pub not_listen : text ≢ codes "listen"

-- the word is `listen:PORT`
pub record IsListening (word : List ℕ) (port : ℕ) : Type 0 where
  pub digits : List ℕ
  pub form : word ≡ codes "listen:" ++ digits
  pub port_is : IsPort digits port
