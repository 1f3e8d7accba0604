-- What an item that was read says, and steps from item to item.
use Rattle.std.proofs.Common.{◌≡◌, ℕ, ◌<◌, Bool, true, false, cond, ltb, Result, Ok, Err, refl, sym, ap, subst, ◌∙◌}
use Rattle.std.specs.Prelude.{◌&&◌}
use Rattle.std.proofs.lemmas.Bool.{ltb-true}
use Rattle.pb_base.specs.declared.fields.FieldFault.{FieldFault}
use Rattle.pb_base.specs.Fields.{Unread}
use Rattle.pb_tdf.specs.declared.fault.TdfFault.{TdfFault}
use Rattle.pb_tdf.specs.declared.fault.TdfFault.TheVariants.{BadType, TooMany}
use Rattle.pb_tdf.specs.Definition.{Definition}
use Rattle.pb_tdf.specs.Order.{item, judged, Point, Step, On, Done, leads, step, Reaches, Here, Later, ComesTo}

abbrev read_as : {A : Type 0} → A → Result A TdfFault
read_as x = Ok x

pub ok_is : {A : Type 0} (x y : A) → read_as x ≡ read_as y → x ≡ y
ok_is x y e = cc

pub on_is : (s t : Point) → On s ≡ On t → s ≡ t
on_is s t e = cc

pub done_is : (x y : Result (Definition × Unread) TdfFault) → Done x ≡ Done y → x ≡ y
done_is x y e = cc

-- an item that was read
pub record WasRead {A : Type 0} (limit : ℕ) (u : Unread) (read : Result (A × Unread) FieldFault) (is_typed is_within : A → Bool) (x : A × Unread) : Type 0 where
  pub is : read ≡ Ok x
  pub typed : is_typed x.0 ≡ true
  pub before : u.at < limit
  pub within : is_within x.0 ≡ true

pub both : (a b : Bool) → (a && b) ≡ true → (a ≡ true) × (b ≡ true)
both true true e = (refl, refl)
both true false e = absurd cc
both false b e = absurd cc

judged-ok : {A : Type 0} (limit : ℕ) (u : Unread) (read : Result (A × Unread) FieldFault) (is_typed is_within : A → Bool) (x : A × Unread)
    → judged limit u.at read is_typed is_within ≡ Ok x → WasRead limit u read is_typed is_within x
judged-ok limit u (Err fault) is_typed is_within x e = absurd cc
judged-ok limit u (Ok y) is_typed is_within x e = go (is_typed y.0) (ltb u.at limit && is_within y.0) refl refl e
  where
    go : (a b : Bool) → is_typed y.0 ≡ a → (ltb u.at limit && is_within y.0) ≡ b → cond a (cond b (Ok y) (Err (TooMany u.at))) (Err (BadType u.at)) ≡ Ok x
        → WasRead limit u (Ok y) is_typed is_within x
    go true true ea eb e =
        let same = ok_is y x e in
        let two = both (ltb u.at limit) (is_within y.0) eb in
        record { is = ap (λ z. Ok z) same; typed = ap (λ z. is_typed z.0) (sym same) ∙ ea; before = ltb-true _ _ two.0; within = ap (λ z. is_within z.0) (sym same) ∙ two.1 }
    go true false ea eb e = absurd cc
    go false b ea eb e = absurd cc

pub item-ok : {A : Type 0} (limit : ℕ) (u : Unread) (read : Result (A × Unread) FieldFault) (is_typed is_within : A → Bool) (x : A × Unread)
    → item limit u read is_typed is_within ≡ Ok x → WasRead limit u read is_typed is_within x
item-ok limit u read is_typed is_within x e = go (ltb limit u.at) e
  where
    go : (b : Bool) → cond b (Err (TooMany limit)) (judged limit u.at read is_typed is_within) ≡ Ok x → WasRead limit u read is_typed is_within x
    go true e = absurd cc
    go false e = judged-ok limit u read is_typed is_within x e

-- ---- steps

pub leads-on : {A : Type 0} (r : Result (A × Unread) TdfFault) (on : A → Unread → Step) (t : Point) → leads r on ≡ On t → (x : A × Unread) × (r ≡ Ok x) × (on x.0 x.1 ≡ On t)
leads-on (Ok x) on t e = (x, refl, e)
leads-on (Err fault) on t e = absurd cc

pub Reaches-snoc : (limit : ℕ) (a b c : Point) → Reaches limit a b → step limit b ≡ On c → Reaches limit a c
Reaches-snoc limit a b c (Here s t e) on = Later a c c (ap (step limit) e ∙ on) (Here c c refl)
Reaches-snoc limit a b c (Later s t u e r) on = Later a t c e (Reaches-snoc limit t b c r on)

pub Reaches-then : (limit : ℕ) (a b c : Point) → Reaches limit a b → Reaches limit b c → Reaches limit a c
Reaches-then limit a b c (Here s t e) q = subst (λ x. Reaches limit x c) (sym e) q
Reaches-then limit a b c (Later s t u e r) q = Later a t c e (Reaches-then limit t b c r q)

pub ComesTo-then : (limit : ℕ) (a b : Point) (o : Result (Definition × Unread) TdfFault) → Reaches limit a b → ComesTo limit b o → ComesTo limit a o
ComesTo-then limit a b o r c = record { last = c.last; items = Reaches-then limit a b c.last r c.items; ends = c.ends }

-- Items are read in one way alone.
pub one_outcome : (limit : ℕ) (s p q : Point) (x y : Result (Definition × Unread) TdfFault) → Reaches limit s p → step limit p ≡ Done x → Reaches limit s q → step limit q ≡ Done y → x ≡ y
one_outcome limit s p q x y (Here a b e) dp (Here c d e2) dq = done_is x y (sym dp ∙ ap (step limit) (sym e ∙ e2) ∙ dq)
one_outcome limit s p q x y (Here a b e) dp (Later c t d on r) dq = let h : Done x ≡ On t = sym dp ∙ ap (step limit) (sym e) ∙ on in absurd cc
one_outcome limit s p q x y (Later a t b on r) dp (Here c d e2) dq = let h : Done y ≡ On t = sym dq ∙ ap (step limit) (sym e2) ∙ on in absurd cc
one_outcome limit s p q x y (Later a t b on r) dp (Later c u d on2 r2) dq =
    let same : t ≡ u = on_is t u (sym on ∙ on2) in
    one_outcome limit t p q x y r dp (subst (λ z. Reaches limit z q) (sym same) r2) dq
