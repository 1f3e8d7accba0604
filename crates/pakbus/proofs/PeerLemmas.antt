-- The last colon of a word cuts a peer's host from its port.
use Rattle.std.proofs.Common.{Option, None, Some, MatchOption, Bor, inl, ⊎_elim, ◌≡◌, ◌≢◌, ℕ, ◌<◌, List, [], ◌∷◌, ◌++◌, length, get_or, take, drop, ◌==◌, ◌^◌, refl, sym, subst, ap, ◌∙◌, arith}
use Rattle.std.proofs.lemmas.List.{take-append-drop, get_or_at, length-append}
use Rattle.std.proofs.lemmas.Fmt.{digits_decimal}
use Rattle.std.proofs.lemmas.Str.Parse.{digit_at, numerals_by_value, tells_digits}
use Rattle.std.proofs.lemmas.Str.Pattern.{NoCharPasses-char, drop_at_char}
use Rattle.std.specs.Str.{NoCharPasses}
use Rattle.std.specs.Str.Parse.{AllDigits}
use Rattle.std.specs.Str.Pattern.{RFindsChar, SplitsAroundMatch}
use Rattle.pakbus.specs.Peer.{IsPeer, IsPort, IsHost}

-- no c stands in the list
abbrev Lacks : ℕ → List ℕ → Type 0
Lacks c xs = (i : ℕ) → i < length xs → get_or xs i 0 ≢ c

digits_lack_colon : (ds : List ℕ) → AllDigits 10 ds → Lacks 58 ds
digits_lack_colon ds all i below is = let range = digit_at ds i all below in omega (arith, range, is)

port_digits : (digits : List ℕ) (port : ℕ) → port < 2 ^ 16 → IsPort digits port → AllDigits 10 digits
port_digits digits port small is = subst (AllDigits 10) (sym is.text) (digits_decimal (numerals_by_value (AllDigits 10) tells_digits) port (omega arith))

-- a c that stands behind the cut would be there
behind : (c : ℕ) (back front rest : List ℕ) → back ≡ front ++ (c ∷ rest) → Lacks c back → ⊥
behind c back front rest is lacks =
    lacks (length front) (omega (arith, ap length is, length-append front (c ∷ rest))) (ap (λ xs. get_or xs (length front) 0) is ∙ get_or_at front c rest 0 (length front) refl)

-- a list is cut in one way at a c behind which there's none
pub one_cut : (c : ℕ) (front back other rest : List ℕ) → front ++ (c ∷ back) ≡ other ++ (c ∷ rest) → Lacks c back → Lacks c rest → (front ≡ other) × (back ≡ rest)
one_cut c [] back [] rest is lacks lacks' = (refl, ap (drop 1) is)
one_cut c [] back (x ∷ other) rest is lacks lacks' = absurd (behind c back other rest (ap (drop 1) is) lacks)
one_cut c (x ∷ front) back [] rest is lacks lacks' = absurd (behind c rest front back (sym (ap (drop 1) is)) lacks')
one_cut c (x ∷ front) back (y ∷ other) rest is lacks lacks' =
    let inner = one_cut c front back other rest (ap (drop 1) is) lacks lacks' in
    (ap (λ v. v ∷ front) (ap (λ xs. get_or xs 0 0) is) ∙ ap (λ xs. y ∷ xs) inner.0, inner.1)

-- what a cut at the last c gives
pub last_cut : (c : ℕ) (s front back : List ℕ) → c < 128 → SplitsAroundMatch (RFindsChar c) s front back → (s ≡ front ++ (c ∷ back)) × Lacks c back
last_cut c s front back small cut = (
  sym (take-append-drop cut.0 s) ∙ ap (λ t. take cut.0 s ++ t) (drop_at_char c s cut.0 cut.1 cut.2.1 small)
      ∙ ap (λ f. f ++ (c ∷ drop cut.1 s)) (sym cut.3) ∙ ap (λ b. front ++ (c ∷ b)) (sym cut.4),
  λ i below is. NoCharPasses-char c (drop cut.1 s) i cut.2.0 small (omega (arith, ap length cut.4, below)) (ap (λ b. get_or b i 0) (sym cut.4) ∙ is),
)

-- a port is cut off by the last colon
pub cut_peer : (word host back other : List ℕ) (port : ℕ) → port < 2 ^ 16 → (word ≡ other ++ (58 ∷ back)) × Lacks 58 back → (p : IsPeer word host port) → (other ≡ p.text) × (back ≡ p.digits)
cut_peer word host back other port small cut p = one_cut 58 other back p.text p.digits (sym cut.0 ∙ p.form) cut.1 (digits_lack_colon p.digits (port_digits p.digits port small p.port_is))

-- a word without a colon names no peer
pub no_colon : (word host : List ℕ) (port : ℕ) → NoCharPasses (λ d. d == 58) word → IsPeer word host port → ⊥
no_colon word host port none p = behind 58 word p.text p.digits p.form (λ i below. NoCharPasses-char 58 word i none (omega arith) below)

-- a port that no digits write isn't that of a peer
pub no_port : (word host back other : List ℕ) (port : ℕ) → (word ≡ other ++ (58 ∷ back)) × Lacks 58 back → ((n : ℕ) → n < 2 ^ 16 → ¬ IsPort back n) → port < 2 ^ 16 → IsPeer word host port → ⊥
no_port word host back other port cut none small p =
    let P : List ℕ → Type 0 = λ digits. IsPort digits port in none port small (subst P (sym (cut_peer word host back other port small cut p).1) p.port_is)

-- nor is a text that names no host
pub no_host : (word host back other : List ℕ) (port : ℕ) → (word ≡ other ++ (58 ∷ back)) × Lacks 58 back → ((h : List ℕ) → 0 < length h → ¬ IsHost other h) → port < 2 ^ 16 → IsPeer word host port → ⊥
no_host word host back other port cut none small p =
    let P : List ℕ → Type 0 = λ text. IsHost text host in none host p.some_host (subst P (sym (cut_peer word host back other port small cut p).0) p.host_is)

-- what stands in brackets is the host, unless it is empty
pub bracketed : (text rest host : List ℕ) (r : Option (Bor (List ℕ))) → text ≡ 91 ∷ rest → rest ≡ host ++ (93 ∷ [])
    → MatchOption r (length host ≡ 0) (λ same. (same.now ≡ host) × (0 < length host))
    → MatchOption r ((h : List ℕ) → 0 < length h → ¬ IsHost text h) (λ h. IsHost text h.now × (0 < length h.now))
bracketed text rest host None opens closes none = λ h some is. ⊎_elim
    (λ (whole : text ≡ 91 ∷ (h ++ (93 ∷ []))). let same : host ++ (93 ∷ []) ≡ h ++ (93 ∷ []) = sym closes ∙ ap (drop 1) (sym opens ∙ whole) in
    omega (arith, ap length same, length-append host (93 ∷ []), length-append h (93 ∷ []), none, some))
    (λ plain. plain.0 rest opens) is
bracketed text rest host (Some same) opens closes (is, some) =
    (inl (opens ∙ ap (λ l. 91 ∷ l) (closes ∙ ap (λ l. l ++ (93 ∷ [])) (sym is))), omega (arith, ap length is, some))
