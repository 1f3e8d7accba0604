-- A file stands for one list at most, and a refused one for none.
use Rattle.std.proofs.Common.{◌≡◌, inl, inr, ⊎_elim, ℕ, ◌+◌, ◌/◌, ◌%◌, ◌<◌, List, [], ◌∷◌, ◌++◌, length, take, drop, get_or, refl, sym, ◌∙◌, ap, subst, arith, length-append, append_assoc}
use Rattle.std.proofs.lemmas.List.{take_at, drop_at, get_or_append_left}
use Rattle.pb_journal.specs.Changes.{SameEntries, Keeps}
use Rattle.pb_journal.specs.Entries.{open_gate, header, IsBody, AreBodies, block, blocks, IsClosed, Entries}
use Rattle.pb_journal.specs.Refusals.{IsBroken, RefusedAt, size_after}

pub record SameFront (a s b t : List ℕ) : Type 0 where
  pub bodies : a ≡ b
  pub tails : s ≡ t

pub same_prefix : (a s b t : List ℕ) → open_gate ∷ block a ++ s ≡ open_gate ∷ block b ++ t → SameFront a s b t
same_prefix a s b t same =
    let high : length a / 256 ≡ length b / 256 = cc in
    let low : length a % 256 ≡ length b % 256 = cc in
    let size : length a ≡ length b = omega arith in
    let both : a ++ s ≡ b ++ t = cc in
    record {
      bodies = sym (take_at a s (length a) refl) ∙ ap (λ (l : List ℕ). take (length a) l) both ∙ take_at b t (length a) (sym size);
      tails = sym (drop_at a s (length a) refl) ∙ ap (λ (l : List ℕ). drop (length a) l) both ∙ drop_at b t (length a) (sym size);
    }

pub closed_open : (tail : List ℕ) (next : ℕ) (more : List ℕ) → tail ≡ open_gate ∷ next ∷ more → IsClosed tail → ⊥
closed_open tail next more is closed =
    let gate : closed.gate ≡ open_gate = cc (closed.bytes, is) in
    let rest : closed.more ≡ next ∷ more = cc (closed.bytes, is) in
    ⊎_elim (λ other. other gate) (λ none. cc) closed.closed

closed_some : (tail : List ℕ) → IsClosed tail → 0 < length tail
closed_some tail closed = omega (arith, ap length closed.bytes)

same_bodies : (ones others : List (List ℕ)) (s t : List ℕ) → IsClosed s → IsClosed t → blocks ones ++ s ≡ blocks others ++ t → ones ≡ others
same_bodies [] [] s t here there same = refl
same_bodies [] (b ∷ others) s t here there same = absurd (closed_open s _ _ same here)
same_bodies (a ∷ ones) [] s t here there same = absurd (closed_open t _ _ (sym same) there)
same_bodies (a ∷ ones) (b ∷ others) s t here there same =
    let prefix = same_prefix a (blocks ones ++ s) b (blocks others ++ t) (sym (append_assoc (open_gate ∷ block a) (blocks ones) s) ∙ same ∙ append_assoc (open_gate ∷ block b) (blocks others) t) in
    let rest = same_bodies ones others s t here there prefix.tails in
    (λ i. prefix.bodies i ∷ rest i)

pub one_list : (file : List ℕ) (ones others : List (List ℕ)) → Entries file ones → Entries file others → ones ≡ others
one_list file ones others one other =
    same_bodies ones others one.tail other.tail one.closed other.closed (ap (λ (l : List ℕ). drop 8 l) (sym one.bytes ∙ other.bytes))

pub SameEntries-trans : (x y z : List ℕ) → SameEntries x y → SameEntries y z → SameEntries x z
SameEntries-trans x y z one two = (one.0, one.1, subst (Entries z) (one_list y two.0 one.0 two.1 one.2) two.2)

pub Keeps-trans : (x y z : List ℕ) → Keeps x y → Keeps y z → Keeps x z
Keeps-trans x y z (inl one) two = subst (λ l. Keeps l z) one two
Keeps-trans x y z (inr one) (inl two) = inr (subst (SameEntries x) (sym two) one)
Keeps-trans x y z (inr one) (inr two) = inr (SameEntries-trans x y z one two)

-- a whole entry can be read
pub broken_entry : (a after tail : List ℕ) → IsBody a → 0 < length after → tail ≡ open_gate ∷ block a ++ after → IsBroken tail → ⊥
broken_entry a after tail fit more is broken =
    let rest_is : broken.rest ≡ block a ++ after = ap (λ (l : List ℕ). drop 1 l) (sym broken.opened_gate ∙ is) in
    let whole : size_after (block a ++ after) ≡ length a = omega arith in
    let size : size_after broken.rest ≡ length a = ap size_after rest_is ∙ whole in
    let long : length broken.rest ≡ 4 + length a + length after = omega (arith, ap length rest_is, length-append a after) in
    ⊎_elim (λ short. omega (arith, short, long))
    (⊎_elim (⊎_elim (λ none. omega (arith, none, size, fit.0)) (λ large. omega (arith, large, size, fit.1))) (λ past. omega (arith, past, size, long, more))) broken.broken

-- a gate that can't be read ends no list, and begins no entry
broken_none : (ones : List (List ℕ)) (s tail : List ℕ) → AreBodies ones → IsClosed s → blocks ones ++ s ≡ tail → IsBroken tail → ⊥
broken_none [] s tail fit closed is broken = some broken.rest (is ∙ broken.opened_gate) broken.more
  where
    some : (rest : List ℕ) → s ≡ open_gate ∷ rest → 0 < length rest → ⊥
    some [] opened_gate more = omega arith
    some (x ∷ rest) opened_gate more = closed_open s x rest opened_gate closed
broken_none (a ∷ ones) s tail fit closed is broken =
    broken_entry a (blocks ones ++ s) tail fit.0 (omega (arith, length-append (blocks ones) s, closed_some s closed)) (sym is ∙ append_assoc (open_gate ∷ block a) (blocks ones) s) broken

-- what comes after whole entries
strip : (others ones : List (List ℕ)) (s tail : List ℕ) → AreBodies ones → IsClosed s → blocks ones ++ s ≡ blocks others ++ tail → IsBroken tail → ⊥
strip [] ones s tail fit closed same broken = broken_none ones s tail fit closed same broken
strip (b ∷ others) [] s tail fit closed same broken = closed_open s _ _ same closed
strip (b ∷ others) (a ∷ ones) s tail fit closed same broken =
    let prefix = same_prefix a (blocks ones ++ s) b (blocks others ++ tail) (sym (append_assoc (open_gate ∷ block a) (blocks ones) s) ∙ same ∙ append_assoc (open_gate ∷ block b) (blocks others) tail) in
    strip others ones s tail fit.1 closed prefix.tails broken

pub refused_none : (file : List ℕ) (at : ℕ) (bodies : List (List ℕ)) → RefusedAt file at → Entries file bodies → ⊥
refused_none file at bodies (inl differs) entries =
    differs.other (ap (λ (l : List ℕ). get_or l at 0) entries.bytes ∙ get_or_append_left header (blocks bodies ++ entries.tail) 0 at (omega (arith, differs.within)))
refused_none file at bodies (inr breaks) entries =
    strip breaks.bodies bodies entries.tail breaks.tail entries.fit entries.closed (ap (λ (l : List ℕ). drop 8 l) (sym entries.bytes ∙ breaks.bytes)) breaks.broken
