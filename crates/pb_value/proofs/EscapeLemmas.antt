-- Texts of characters, one after another.
use Rattle.std.proofs.Common.{◌≡◌, ◌≢◌, ℕ, suc, ◌+◌, ◌*◌, ◌<◌, ◌≤◌, Bool, true, false, cond, not, leb, List, [], ◌∷◌, ◌++◌, Some, None, take, length, refl, sym, ap, ◌∙◌, arith}
use Rattle.std.specs.Prelude.{◌==◌, if◌then◌else◌}
use Rattle.std.specs.List.{All, flat_map, prefix_len}
use Rattle.std.proofs.lemmas.Bool.{ne_eqb, leb-false}
use Rattle.std.proofs.lemmas.List.{append-nil, take_all, length-append, length-take}
use Rattle.std.proofs.lemmas.List.Concat.{flat_map-cons}
use Rattle.std.proofs.lemmas.List.Elements.{All-tail}
use Rattle.std.proofs.lemmas.Grind.{flat_map-append}
use Rattle.pb_value.specs.Escape.{is_printable, escaped, char_text, name_char_text, before, before_zero, ascii_text, name_text}

pub name_text-append : (a b : List ℕ) → name_text (a ++ b) ≡ name_text a ++ name_text b
unfolding name_text
name_text-append a b = flat_map-append name_char_text a b

kept : List ℕ → List ℕ
kept bytes = take (prefix_len (λ byte. not (byte == 0)) bytes) bytes

chosen : (bytes : List ℕ) (n : ℕ) (b : Bool) → leb (suc n) (length bytes) ≡ b → before bytes (cond b (Some n) None) ≡ take n bytes
chosen bytes n true e = refl
chosen bytes n false e =
    let past : length bytes ≤ n = let no = leb-false _ _ e in omega arith in
    sym (take_all n bytes past)

before_zero-is : (bytes : List ℕ) → before_zero bytes ≡ kept bytes
unfolding kept
before_zero-is bytes = chosen bytes (prefix_len (λ byte. not (byte == 0)) bytes) _ refl

kept-cons : (x : ℕ) (bytes : List ℕ) → 0 < x → kept (x ∷ bytes) ≡ x ∷ kept bytes
unfolding kept
kept-cons x bytes some =
    let no : x ≢ 0 = omega arith in
    let more : 1 + prefix_len (λ byte. not (byte == 0)) bytes ≡ suc (prefix_len (λ byte. not (byte == 0)) bytes) = omega arith in
    rw (ne_eqb x 0 no, more) refl

kept-append : (a b : List ℕ) → All (λ byte. 0 < byte) a → kept (a ++ b) ≡ a ++ kept b
kept-append [] b some = refl
kept-append (x ∷ a) b some =
    kept-cons x (a ++ b) (some 0 0 (omega arith)) ∙ ap (λ l. x ∷ l) (kept-append a b (All-tail (λ byte. 0 < byte) x a some))

before_zero-append : (a b : List ℕ) → All (λ byte. 0 < byte) a → before_zero (a ++ b) ≡ a ++ before_zero b
before_zero-append a b some = before_zero-is (a ++ b) ∙ kept-append a b some ∙ ap (λ l. a ++ l) (sym (before_zero-is b))

before_zero-all : (a : List ℕ) → All (λ byte. 0 < byte) a → before_zero a ≡ a
before_zero-all a some = ap before_zero (sym (append-nil a)) ∙ before_zero-append a [] some ∙ append-nil a

pub ascii_text-append : (a b : List ℕ) → All (λ byte. 0 < byte) a → ascii_text (a ++ b) ≡ ascii_text a ++ ascii_text b
unfolding ascii_text
ascii_text-append a b some =
    ap (flat_map char_text) (before_zero-append a b some) ∙ flat_map-append char_text a (before_zero b)
    ∙ ap (λ l. flat_map char_text l ++ flat_map char_text (before_zero b)) (sym (before_zero-all a some))

ascii_text-zero : (b : List ℕ) → ascii_text (0 ∷ b) ≡ []
unfolding ascii_text kept
ascii_text-zero b = ap (flat_map char_text) (before_zero-is (0 ∷ b))

pub ascii_text-ended : (a b : List ℕ) → All (λ byte. 0 < byte) a → ascii_text (a ++ 0 ∷ b) ≡ ascii_text a
ascii_text-ended a b some = ascii_text-append a (0 ∷ b) some ∙ ap (λ l. ascii_text a ++ l) (ascii_text-zero b) ∙ append-nil (ascii_text a)

-- ---- lengths

length-char_text : (byte : ℕ) → length (char_text byte) ≤ 4
length-char_text byte = go (byte == 92) (is_printable byte)
  where
    go : (b p : Bool) → length (if b then 92 ∷ 92 ∷ [] else (if p then byte ∷ [] else escaped byte)) ≤ 4
    go true p = omega arith
    go false true = omega arith
    go false false = omega arith

length-name_char_text : (byte : ℕ) → length (name_char_text byte) ≤ 4
length-name_char_text byte = go (byte == 32)
  where
    go : (b : Bool) → length (if b then escaped byte else char_text byte) ≤ 4
    go true = omega arith
    go false = length-char_text byte

length-all : (f : ℕ → List ℕ) → ((byte : ℕ) → length (f byte) ≤ 4) → (bytes : List ℕ) → length (flat_map f bytes) ≤ 4 * length bytes
length-all f short [] = omega arith
length-all f short (x ∷ bytes) =
    omega (arith, ap length (flat_map-cons f x bytes), length-append (f x) (flat_map f bytes), short x, length-all f short bytes)

pub length-name_text : (bytes : List ℕ) → length (name_text bytes) ≤ 4 * length bytes
unfolding name_text
length-name_text bytes = length-all name_char_text length-name_char_text bytes

pub length-ascii_text : (bytes : List ℕ) → length (ascii_text bytes) ≤ 4 * length bytes
unfolding ascii_text kept
length-ascii_text bytes =
    let n = prefix_len (λ byte. not (byte == 0)) bytes in
    let part : length (before_zero bytes) ≤ length bytes = omega (arith, ap length (before_zero-is bytes), length-take n bytes) in
    omega (arith, part, length-all char_text length-char_text (before_zero bytes))
