-- The numbers and the settings of bytes: what is made of a list's bytes is that list again.
use Rattle.std.proofs.Common.{◌≡◌, ℕ, zero, suc, ◌+◌, ◌-◌, ◌^◌, ◌<◌, ◌≤◌, List, [], ◌∷◌, ◌++◌, length, take, drop, refl, sym, ap, subst, ◌∙◌, arith, length-append, append_assoc, inl, inr}
use Rattle.std.specs.Prelude.{nat_lt, if◌then◌else◌}
use Rattle.std.specs.List.{flat_map, AllByRecursion}
use Rattle.std.specs.Int.{w16, to_be_bytes, from_be_bytes}
use Rattle.std.proofs.lemmas.Bool.{cond-true, cond-false, lt-ltb, le-ltb, cases_lt}
use Rattle.std.proofs.lemmas.List.{length-drop, take_at, drop_at}
use Rattle.std.proofs.lemmas.Nat.{from_be_bytes-to_be_bytes_2}
use Rattle.pb_layout.specs.Kind.{Setting, setting_bytes, IsSetting}
use Rattle.pb_layout.specs.Lists.{numbers_of, settings_of, settings_within, setting_len, first_setting}

-- ---- settings

within-none : (n : ℕ) (bytes : List ℕ) → length bytes < 4 → settings_within n bytes ≡ []
within-none zero bytes h = refl
within-none (suc n) bytes h = cond-true (nat_lt (length bytes) 4) _ _ (lt-ltb (length bytes) 4 h)

within-step : (n : ℕ) (bytes : List ℕ) → 4 ≤ length bytes → settings_within (suc n) bytes ≡ first_setting bytes ∷ settings_within n (drop (setting_len bytes) bytes)
within-step n bytes h = cond-false (nat_lt (length bytes) 4) _ _ (le-ltb (length bytes) 4 h)

-- as many as the bytes have are enough
within-enough : (m n : ℕ) (bytes : List ℕ) → length bytes ≤ m → length bytes ≤ n → settings_within m bytes ≡ settings_within n bytes
within-enough zero n bytes h k = sym (within-none n bytes (omega arith))
within-enough (suc m) zero bytes h k = within-none (suc m) bytes (omega arith)
within-enough (suc m) (suc n) bytes h k =
    elim (cases_lt (length bytes) 4) [
      | inl short ↦ within-none (suc m) bytes short ∙ sym (within-none (suc n) bytes short)
      | inr long ↦
          let rest : List ℕ = drop (setting_len bytes) bytes in
          let less : length rest + 4 ≤ length bytes = omega (arith, length-drop (setting_len bytes) bytes) in
          within-step m bytes long
          ∙ ap (λ (l : List Setting). first_setting bytes ∷ l) (within-enough m n rest (omega arith) (omega arith))
          ∙ sym (within-step n bytes long)
    ]

pub settings_of-none : (bytes : List ℕ) → length bytes < 4 → settings_of bytes ≡ []
settings_of-none bytes h = within-none (length bytes) bytes h

-- the first setting, and those after it
pub settings_of-step : (bytes : List ℕ) → 4 ≤ length bytes → settings_of bytes ≡ first_setting bytes ∷ settings_of (drop (setting_len bytes) bytes)
settings_of-step bytes h =
    let rest : List ℕ = drop (setting_len bytes) bytes in
    within-enough (length bytes) (suc (length bytes)) bytes (omega arith) (omega arith)
    ∙ within-step (length bytes) bytes h
    ∙ ap (λ (l : List Setting). first_setting bytes ∷ l) (within-enough (length bytes) (length rest) rest (omega (arith, length-drop (setting_len bytes) bytes)) (omega arith))

-- the setting that was handed out, and those after it
pub settings_of-given : (bytes rest : List ℕ) (s : Setting) → 4 ≤ length bytes → s ≡ first_setting bytes → rest ≡ drop (setting_len bytes) bytes
    → settings_of bytes ≡ s ∷ settings_of rest
settings_of-given bytes rest s h first after = settings_of-step bytes h ∙ rw (first, after) refl

-- a setting's bytes, and bytes after them, begin with that setting
first_setting-written : (s : Setting) (rest : List ℕ) → IsSetting s → first_setting (setting_bytes s ++ rest) ≡ s
first_setting-written s rest is =
    let len = from_be_bytes-to_be_bytes_2 (length s.content) is.content in
    let number = from_be_bytes-to_be_bytes_2 s.number is.number in
    made _ s.number _ s.content number (ap (λ n. take n (s.content ++ rest)) len ∙ take_at s.content rest (length s.content) refl)
  where
    made : (m n : ℕ) (x y : List ℕ) → m ≡ n → x ≡ y → (let a : Setting = record { number = m; content = x } in let b : Setting = record { number = n; content = y } in a ≡ b)
    made m n x y p q = rw (p, q) refl

setting_len-written : (s : Setting) (rest : List ℕ) → IsSetting s → drop (setting_len (setting_bytes s ++ rest)) (setting_bytes s ++ rest) ≡ rest
setting_len-written s rest is =
    let len = from_be_bytes-to_be_bytes_2 (length s.content) is.content in
    ap (λ n. drop (4 + n) (setting_bytes s ++ rest)) len ∙ drop_at (setting_bytes s) rest (4 + length s.content) (omega arith)

pub settings_of-written : (ss : List Setting) → AllByRecursion IsSetting ss → settings_of (flat_map setting_bytes ss) ≡ ss
settings_of-written [] all = refl
settings_of-written (s ∷ ss) all =
    settings_of-given (flat_map setting_bytes (s ∷ ss)) (flat_map setting_bytes ss) s (omega arith) (sym (first_setting-written s (flat_map setting_bytes ss) all.0))
    (sym (setting_len-written s (flat_map setting_bytes ss) all.0))
    ∙ ap (λ (l : List Setting). s ∷ l) (settings_of-written ss all.1)

-- ---- numbers

pub numbers_of-written : (ns : List ℕ) → AllByRecursion (λ n. n < 2 ^ 16) ns → numbers_of (flat_map (to_be_bytes w16) ns) ≡ ns
numbers_of-written [] all = refl
numbers_of-written (n ∷ ns) all =
    ap (λ m. m ∷ numbers_of (flat_map (to_be_bytes w16) ns)) (from_be_bytes-to_be_bytes_2 n all.0) ∙ ap (λ (l : List ℕ). n ∷ l) (numbers_of-written ns all.1)
