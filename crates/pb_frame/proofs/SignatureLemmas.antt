-- The signature over a list's end, over joined lists, and under its nullifier.
use Rattle.std.proofs.Common.{◌≡◌, ℕ, ◌+◌, ◌-◌, ◌*◌, ◌/◌, ◌%◌, ◌<◌, ◌≤◌, List, [], ◌∷◌, ◌++◌, reverse, length, take, set, get_or, refl, sym, ◌∙◌, ap, arith, cond, leb}
use Rattle.std.proofs.lemmas.List.{reverse-append, take_more, take_more_set}
use Rattle.std.proofs.lemmas.Bool.{cond_both}
use Rattle.pb_frame.specs.Signature.{shifted, step, sig_back, sig, null}

pub sig-nil : (s : ℕ) → sig [] s ≡ s
unfolding sig
sig-nil s = refl

pub sig-push : (bytes : List ℕ) (byte s : ℕ) → sig (bytes ++ byte ∷ []) s ≡ step (sig bytes s) byte
unfolding sig
sig-push bytes byte s = rw (reverse-append bytes (byte ∷ [])) refl

sig_back-append : (later before : List ℕ) (s : ℕ) → sig_back (later ++ before) s ≡ sig_back later (sig_back before s)
sig_back-append [] before s = refl
sig_back-append (x ∷ later) before s = ap (λ n. step n x) (sig_back-append later before s)

pub sig-append : (a b : List ℕ) (s : ℕ) → sig (a ++ b) s ≡ sig b (sig a s)
unfolding sig
sig-append a b s = rw (reverse-append a b) (sig_back-append (reverse b) (reverse a) s)

-- a signature fits two bytes
pub step-bound : (s byte : ℕ) → step s byte < 65536
step-bound s byte = omega arith

sig_back-bound : (bytes : List ℕ) (s : ℕ) → s < 65536 → sig_back bytes s < 65536
sig_back-bound [] s h = h
sig_back-bound (x ∷ bytes) s h = step-bound (sig_back bytes s) x

pub sig-bound : (bytes : List ℕ) (s : ℕ) → s < 65536 → sig bytes s < 65536
unfolding sig
sig-bound bytes s h = sig_back-bound (reverse bytes) s h

-- the shift reads the low byte alone
shifted-bound : (s : ℕ) → shifted s < 512
shifted-bound s = cond_both (leb 256 ((s * 2) % 512)) _ _ (λ n. n < 512) (λ _. omega arith) (λ _. omega arith)

shifted-low : (s t : ℕ) → s % 256 ≡ t % 256 → shifted s ≡ shifted t
shifted-low s t e = let f : (s * 2) % 512 ≡ (t * 2) % 512 = omega arith in ap (λ d. cond (leb 256 d) (d + 1) d) f

shifted-zero : (s : ℕ) → s % 256 ≡ 0 → shifted s ≡ 0
shifted-zero s e = shifted-low s 0 e

-- the sum of a difference in one byte
sum-diff : (n : ℕ) → n ≤ 1024 → (n + (1024 - n) % 256) % 256 ≡ 0
sum-diff n h = omega arith

step-first : (s : ℕ) → s < 65536 → step s ((1024 - (shifted s + s / 256)) % 256) ≡ 256 * (s % 256)
step-first s h =
    let low = shifted-bound s in
    let e = sum-diff (shifted s + s / 256) (omega arith) in
    omega arith

step-second : (s : ℕ) → step (256 * (s % 256)) ((256 - s % 256) % 256) ≡ 0
step-second s =
    let e : shifted (256 * (s % 256)) ≡ 0 = shifted-zero (256 * (s % 256)) (omega arith) in
    omega arith

-- the nullifier brings a signature to 0
pub sig-null : (s : ℕ) → s < 65536 → sig (null s) s ≡ 0
unfolding sig
sig-null s h = ap (λ t. step t ((256 - s % 256) % 256)) (step-first s h) ∙ step-second s

-- a walk over a list: one more byte
pub sig-more : (bytes : List ℕ) (i s sum next : ℕ) → i < length bytes → sum ≡ sig (take i bytes) s → next ≡ step sum (get_or bytes i 0) → next ≡ sig (take (i + 1) bytes) s
sig-more bytes i s sum next h was is =
    is ∙ ap (λ n. step n (get_or bytes i 0)) was ∙ sym (ap (λ t. sig t s) (take_more bytes i 0 h) ∙ sig-push (take i bytes) (get_or bytes i 0) s)

-- and one more byte put behind the first i of a list
pub sig-more_set : (bytes : List ℕ) (i byte s sum next : ℕ) → i < length bytes → sum ≡ sig (take i bytes) s → next ≡ step sum byte → next ≡ sig (take (i + 1) (set bytes i byte)) s
sig-more_set bytes i byte s sum next h was is =
    is ∙ ap (λ n. step n byte) was ∙ sym (ap (λ t. sig t s) (take_more_set bytes i byte h) ∙ sig-push (take i bytes) byte s)
