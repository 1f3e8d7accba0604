-- How texts that are added to a page, one after another, make up one text.
use Rattle.std.proofs.Common.{◌≡◌, ℕ, ◌+◌, ◌<◌, ◌≤◌, take, get_or, List, [], ◌∷◌, ◌++◌, Bool, true, false, Option, length, refl, sym, ap, subst, ◌∙◌, append_assoc, arith, Result, Ok, Err}
use Rattle.std.proofs.lemmas.Bool.{false≢true}
use Rattle.std.proofs.lemmas.List.{append-nil, take_more}
use Rattle.std.proofs.lemmas.Grind.{flat_map-append}
use Rattle.std.proofs.KnownBytes.{Appends-nil, Appends-trans}
use Rattle.std.specs.Prelude.{MatchResult}
use Rattle.std.specs.Io.KnownBytes.{Appends}
use Rattle.pb_io.specs.Faults.{Rose, HasCause}
use Rattle.pb_io.specs.Outside.{Output}
use Rattle.pb_io.specs.Sink.{AppendsPrefix}
use Rattle.pb_io.specs.declared.page.Part.{Part}
use Rattle.pb_io.specs.Page.{Waiting, Printing, blank, Grows, BreaksOff, StandsStill, AddsBy, Adds, part_text, parts_text}

Grows-trans : (s t : List ℕ) (a b c : Printing) → Grows s a b → Grows t b c → Grows (s ++ t) a c
Grows-trans s t a b c f g = record {
  flushed = f.flushed ++ g.flushed;
  appends = Appends-trans a.out.written b.out.written c.out.written f.flushed g.flushed f.appends g.appends;
  same = append_assoc f.flushed g.flushed c.page.text ∙ ap (λ l. f.flushed ++ l) g.same ∙ sym (append_assoc f.flushed b.page.text t)
      ∙ ap (λ l. l ++ t) f.same ∙ append_assoc a.page.text s t;
  faults = g.faults ∙ f.faults;
}

Grows-breaks : (s t : List ℕ) (a b c : Printing) → Grows s a b → BreaksOff t b c → BreaksOff (s ++ t) a c
Grows-breaks s t a b c f g = record {
  prefix = (
    f.flushed ++ g.prefix.0,
    g.prefix.1,
    sym (append_assoc a.page.text s t) ∙ ap (λ l. l ++ t) (sym f.same) ∙ append_assoc f.flushed b.page.text t ∙ ap (λ l. f.flushed ++ l) g.prefix.2
        ∙ sym (append_assoc f.flushed g.prefix.0 g.prefix.1),
    Appends-trans a.out.written b.out.written c.out.written f.flushed g.prefix.0 f.appends g.prefix.3,
  );
  rose = subst (λ n. Rose n c.out.faults) f.faults g.rose;
  later = subst (λ n. n ≤ c.out.faults) f.faults g.later;
}

Breaks-still : (s t : List ℕ) (a b c : Printing) → BreaksOff s a b → StandsStill b c → BreaksOff (s ++ t) a c
Breaks-still s t a b c f g = record {
  prefix = (
    f.prefix.0,
    f.prefix.1 ++ t,
    sym (append_assoc a.page.text s t) ∙ ap (λ l. l ++ t) f.prefix.2 ∙ append_assoc f.prefix.0 f.prefix.1 t,
    subst (λ (o : Output). Appends a.out.written o.written f.prefix.0) (sym g.out) f.prefix.3,
  );
  rose = subst (λ (o : Output). Rose a.out.faults o.faults) (sym g.out) f.rose;
  later = subst (λ (o : Output). a.out.faults ≤ o.faults) (sym g.out) f.later;
}

AddsBy-trans : (f g h : Bool) (s t : List ℕ) (a b c : Printing) → AddsBy f g s a b → AddsBy g h t b c → AddsBy f h (s ++ t) a c
AddsBy-trans false false false s t a b c p q = Grows-trans s t a b c p q
AddsBy-trans false false true s t a b c p q = Grows-breaks s t a b c p q
AddsBy-trans false true false s t a b c p q = absurd q
AddsBy-trans false true true s t a b c p q = Breaks-still s t a b c p q
AddsBy-trans true false h s t a b c p q = absurd p
AddsBy-trans true true false s t a b c p q = absurd q
AddsBy-trans true true true s t a b c p q = record { out = q.out ∙ p.out }

-- a text, and then another
pub Adds-trans : (s t : List ℕ) (a b c : Printing) → Adds s a b → Adds t b c → Adds (s ++ t) a c
Adds-trans s t a b c f g =
    record { by = AddsBy-trans a.page.failed b.page.failed c.page.failed s t a b c f.by g.by }

-- the same, the last text first: so the search finds the page between them
pub Adds-after : {s t : List ℕ} {a b c : Printing} → Adds t b c → Adds s a b → Adds (s ++ t) a c
Adds-after {s} {t} {a} {b} {c} g f = Adds-trans s t a b c f g

-- the text may be spelled in another way
pub Adds-as : (s t : List ℕ) (a b : Printing) → s ≡ t → Adds s a b → Adds t a b
Adds-as s t a b is f = subst (λ l. Adds l a b) is f

-- two and three texts, and what they make up
pub Adds-two : (s t text : List ℕ) (a b c : Printing) → s ++ t ≡ text → Adds s a b → Adds t b c → Adds text a c
Adds-two s t text a b c is f g = Adds-as (s ++ t) text a c is (Adds-trans s t a b c f g)

pub Adds-three : (s t u text : List ℕ) (a b c d : Printing) → s ++ (t ++ u) ≡ text → Adds s a b → Adds t b c → Adds u c d → Adds text a d
Adds-three s t u text a b c d is f g h = Adds-two s (t ++ u) text a b d is f (Adds-trans t u b c d g h)

pub Adds-four : (s t u v text : List ℕ) (a b c d e : Printing) → s ++ (t ++ (u ++ v)) ≡ text → Adds s a b → Adds t b c → Adds u c d → Adds v d e → Adds text a e
Adds-four s t u v text a b c d e is f g h i = Adds-two s (t ++ (u ++ v)) text a b e is f (Adds-three t u v (t ++ (u ++ v)) b c d e refl g h i)

AddsBy-nothing : (f : Bool) (a : Printing) → AddsBy f f [] a a
AddsBy-nothing false a = record { flushed = []; appends = Appends-nil a.out.written; same = sym (append-nil a.page.text); faults = refl }
AddsBy-nothing true a = record { out = refl }

pub Adds-nothing : (a : Printing) → Adds [] a a
Adds-nothing a = record { by = AddsBy-nothing a.page.failed a }

-- ---- one step

-- text that waits, or that a page which has failed forgets
AddsBy-gathered : (f : Bool) (text was : List ℕ) (o : Output)
    → AddsBy f f text (record { page = record { text = was; failed = f }; out = o }) (record { page = record { text = was ++ text; failed = f }; out = o })
AddsBy-gathered false text was o = record { flushed = []; appends = Appends-nil o.written; same = refl; faults = refl }
AddsBy-gathered true text was o = record { out = refl }

pub Adds-gathered : (text : List ℕ) (p : Waiting) (o : Output)
    → Adds text (record { page = p; out = o }) (record { page = record p { text = p.text ++ text }; out = o })
Adds-gathered text p o = record { by = AddsBy-gathered p.failed text p.text o }

-- a new page with this text was begun
pub Adds-gathers : (text : List ℕ) (a : Printing) (p q : Waiting) (o : Output) → Adds [] a (record { page = p; out = o }) → q ≡ record p { text = p.text ++ text }
    → Adds text a (record { page = q; out = o })
Adds-gathers text a p q o turned is =
    subst (λ (w : Waiting). Adds text a (record { page = w; out = o })) (sym is) (Adds-trans [] text a _ _ turned (Adds-gathered text p o))

parts-next : (parts : List Part) (i : ℕ) (d : Part) → i < length parts → parts_text (take (i + 1) parts) ≡ parts_text (take i parts) ++ part_text (get_or parts i d)
parts-next parts i d lt =
    ap parts_text (take_more parts i d lt) ∙ flat_map-append part_text (take i parts) (get_or parts i d ∷ [])
    ∙ ap (λ l. parts_text (take i parts) ++ l) (append-nil (part_text (get_or parts i d)))

-- the next of several parts
pub Adds-next : (parts : List Part) (i : ℕ) (d : Part) (a b c : Printing) → i < length parts → Adds (parts_text (take i parts)) a b → Adds (part_text (get_or parts i d)) b c
    → Adds (parts_text (take (i + 1) parts)) a c
Adds-next parts i d a b c lt f g =
    Adds-as _ _ a c (sym (parts-next parts i d lt)) (Adds-trans _ _ a b c f g)

-- ---- a page that is flushed

-- a text that was added to a blank page, which was flushed then
pub Adds-flushed : (text : List ℕ) (p q r : Waiting) (o n m : Output) → p ≡ blank → Adds text (record { page = p; out = o }) (record { page = q; out = n })
    → Adds [] (record { page = q; out = n }) (record { page = r; out = m }) → Adds text (record { page = blank; out = o }) (record { page = r; out = m })
Adds-flushed text p q r o n m empty adds flush =
    subst (λ (w : Waiting). Adds text (record { page = w; out = o }) (record { page = r; out = m })) empty
    (Adds-as (text ++ []) text _ _ (append-nil text) (Adds-trans text [] _ _ _ adds flush))

whole : (text : List ℕ) (r : Waiting) (o m : Output) → r ≡ blank → Adds text (record { page = blank; out = o }) (record { page = r; out = m })
    → Grows text (record { page = blank; out = o }) (record { page = blank; out = m })
whole text r o m empty adds =
    let e : Adds text (record { page = blank; out = o }) (record { page = blank; out = m }) =
    subst (λ (w : Waiting). Adds text (record { page = blank; out = o }) (record { page = w; out = m })) empty adds in
    e.by

-- Where the page is blank again, all of the text was written.
pub Appends-flushed : (text : List ℕ) (r : Waiting) (o m : Output) → r ≡ blank → Adds text (record { page = blank; out = o }) (record { page = r; out = m })
    → Appends o.written m.written text
Appends-flushed text r o m empty adds =
    let g = whole text r o m empty adds in
    subst (Appends o.written m.written) (sym (append-nil g.flushed) ∙ g.same) g.appends

broken-by : (f : Bool) (text : List ℕ) (a b : Printing) → f ≡ true → AddsBy false f text a b → BreaksOff text a b
broken-by false text a b is adds = absurd (false≢true is)
broken-by true text a b is adds = adds

-- Where a write failed, a prefix of the text was written.
pub BreaksOff-flushed : (text : List ℕ) (r : Waiting) (o m : Output) → r.failed ≡ true → Adds text (record { page = blank; out = o }) (record { page = r; out = m })
    → BreaksOff text (record { page = blank; out = o }) (record { page = r; out = m })
BreaksOff-flushed text r o m is adds = broken-by r.failed text _ _ is adds.by

-- The count of faults says so.
pub HasCause-flushed : {E : Type 0} (result : Result Unit E) (text : List ℕ) (r : Waiting) (o m : Output) → MatchResult result (λ u. r ≡ blank) (λ e. r.failed ≡ true)
    → Adds text (record { page = blank; out = o }) (record { page = r; out = m }) → HasCause o.faults m.faults result
HasCause-flushed (Ok u) text r o m empty adds =
    let same = (whole text r o m empty adds).faults in
    record { later = omega (arith, same); failed = tt; kept = same }
HasCause-flushed (Err e) text r o m is adds =
    let b = BreaksOff-flushed text r o m is adds in
    record { later = b.later; failed = b.rose; kept = tt }
