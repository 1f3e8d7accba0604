-- How the bytes of several writes make up a text.
use Rattle.std.proofs.Common.{ℕ, ◌+◌, List, take, drop, Option, Result, Ok, Err, OnErr, subst, sym}
use Rattle.std.proofs.lemmas.List.{take-append-drop}
use Rattle.std.proofs.Math.Seq.{take-add}
use Rattle.std.proofs.KnownBytes.{Appends-trans, Appends-kept}
use Rattle.std.specs.Io.KnownBytes.{Appends, Keeps}
use Rattle.pb_io.specs.Sink.{AppendsPrefix}

-- a write that fails leaves the prefix that the writes before it took
pub AppendsPrefix-kept : (a b c : Option (List ℕ)) (done : ℕ) (text : List ℕ) → Appends a b (take done text) → Keeps b c → AppendsPrefix a c text
AppendsPrefix-kept a b c done text taken kept =
    (take done text, drop done text, sym (take-append-drop done text), Appends-kept a b c (take done text) taken kept)

-- a write that takes n bytes of the rest
pub Appends-more : (a b c : Option (List ℕ)) (done n : ℕ) (text : List ℕ) → Appends a b (take done text) → Appends b c (take n (drop done text))
    → Appends a c (take (done + n) text)
Appends-more a b c done n text taken more =
    subst (Appends a c) (sym (take-add done n text)) (Appends-trans a b c _ _ taken more)

-- what holds anyway holds at an error
pub OnErr-anyway : {T E : Type 0} (r : Result T E) (P : Type 0) → P → OnErr r P
OnErr-anyway (Ok x) P p = tt
OnErr-anyway (Err e) P p = p
