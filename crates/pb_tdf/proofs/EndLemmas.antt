-- Where the items of a table end, the table's bytes were read.
use Rattle.std.proofs.Common.{◌≡◌, ℕ, ◌+◌, ◌≤◌, Bool, true, false, cond, eqb, List, [], ◌∷◌, ◌++◌, length, Result, Ok, Err, refl, sym, ap, subst, ◌∙◌, append_assoc, arith}
use Rattle.std.specs.Int.{w8}
use Rattle.std.proofs.lemmas.Bool.{eqb-true}
use Rattle.std.proofs.lemmas.List.{length-append}
use Rattle.pb_base.specs.Fields.{Unread, IsBytes, Takes, number_at}
use Rattle.pb_base.proofs.FieldLaws.{byte-takes}
use Rattle.pb_tdf.specs.declared.fault.TdfFault.{TdfFault}
use Rattle.pb_tdf.specs.Definition.{FieldDefinition, Definition, table_bytes}
use Rattle.pb_tdf.specs.Order.{byte_item, word_item, text_item, time_item, interval_item, type_item, dimension_item, is_type, has_room, Next, Name, Size, TimeType, Into, Interval, Kind, FieldName, Alias, Processing, Units, Description, Begin, Dimension, SubDimension, Point, Step, On, Done, leads, begun_field, with_field, at_item, step_at, table_begins, ComesTo}
use Rattle.pb_tdf.proofs.ItemLemmas.{item-ok, ok_is, done_is}
use Rattle.pb_tdf.specs.Inside.Progress.{HasRead, IsTableSoFar, to_fields}
use Rattle.pb_tdf.proofs.PrefixLemmas.{HasRead-reaches}

abbrev pub TableRead : Type 0
TableRead = Result (Definition × Unread) TdfFault

-- the table was read to its end
pub record HasEnded (bytes : List ℕ) (start limit : ℕ) (x : Definition × Unread) : Type 0 where
  pub table : IsTableSoFar x.0
  pub parts : bytes ≡ table_bytes x.0 ++ x.1.rest
  pub at : x.1.at ≡ start + length (table_bytes x.0)
  pub below : x.1.at ≤ limit
  pub left : IsBytes x.1.rest

leads-done : {A : Type 0} (r : Result (A × Unread) TdfFault) (on : A → Unread → Step) (x : Definition × Unread) → leads r on ≡ Done (Ok x) → (y : A × Unread) × (r ≡ Ok y) × (on y.0 y.1 ≡ Done (Ok x))
leads-done (Ok y) on x e = (y, refl, e)
leads-done (Err fault) on x e = absurd cc

leads-on-alone : {A B : Type 0} (r : Result (A × Unread) TdfFault) (on : A → Unread → Point) (x : Definition × Unread) → leads r (λ a u. On (on a u)) ≡ Done (Ok x) → B
leads-on-alone (Ok y) on x e = absurd cc
leads-on-alone (Err fault) on x e = absurd cc

on-either : {B : Type 0} (b : Bool) (s t : Point) (x : TableRead) → cond b (On s) (On t) ≡ Done x → B
on-either true s t x e = absurd cc
on-either false s t x e = absurd cc

cond-done : (b : Bool) (x y : TableRead) (t : Point) → cond b (Done x) (On t) ≡ Done y → (b ≡ true) × (x ≡ y)
cond-done true x y t e = (refl, done_is x y e)
cond-done false x y t e = absurd cc

-- the bytes of a table as they are read
pub whole_table : (d : Definition) (rest : List ℕ) → (to_fields d ++ 0 ∷ []) ++ rest ≡ table_bytes d ++ rest
whole_table d rest = ap (λ b. b ++ rest) (simp append_assoc refl)

kind-ends : (bytes : List ℕ) (start limit : ℕ) (d : Definition) (f : FieldDefinition) (u : Unread) (x : Definition × Unread) → HasRead bytes start (at_item Kind d f u)
    → step_at Kind limit d f u ≡ Done (Ok x) → HasEnded bytes start limit x
kind-ends bytes start limit d f u x st e =
    let a = leads-done (type_item (length d.fields) limit u) _ x e in
    let r = item-ok limit u (number_at w8 u) is_type (has_room (length d.fields)) a.0 a.1 in
    let c = cond-done (eqb a.0.0 0) (Ok (d, a.0.1)) (Ok x) (at_item FieldName d (begun_field a.0.0) a.0.1) a.2 in
    let k = byte-takes u a.0.0 a.0.1 st.left r.is in
    let zero-there : Takes u (0 ∷ []) a.0.1 = subst (λ n. Takes u (n ∷ []) a.0.1) (eqb-true _ _ c.0) k.0 in
    let made : Definition × Unread = (d, a.0.1) in
    let before : List ℕ = to_fields d in
    let len : length (table_bytes d) ≡ length before + 1 = ap length (sym (simp append_assoc refl)) ∙ length-append before (0 ∷ []) in
    subst (HasEnded bytes start limit) (ok_is made x c.1)
    (record {
      table = st.known;
      parts = st.parts ∙ ap (λ r. before ++ r) zero-there.bytes ∙ sym (append_assoc before (0 ∷ []) a.0.1.rest) ∙ whole_table d a.0.1.rest;
      at = omega (arith, zero-there.at, st.at, len);
      below = omega (arith, zero-there.at, r.before);
      left = zero-there.rest;
    })

ends-at : (bytes : List ℕ) (start limit : ℕ) (next : Next) (d : Definition) (f : FieldDefinition) (u : Unread) (x : Definition × Unread) → HasRead bytes start (at_item next d f u)
    → step_at next limit d f u ≡ Done (Ok x) → HasEnded bytes start limit x
ends-at bytes start limit Name d f u x st e = leads-on-alone (text_item limit u) _ x e
ends-at bytes start limit Size d f u x st e = leads-on-alone (word_item limit u) _ x e
ends-at bytes start limit TimeType d f u x st e = leads-on-alone (byte_item limit u) _ x e
ends-at bytes start limit Into d f u x st e = leads-on-alone (time_item limit u) _ x e
ends-at bytes start limit Interval d f u x st e = leads-on-alone (interval_item limit u) _ x e
ends-at bytes start limit Kind d f u x st e = kind-ends bytes start limit d f u x st e
ends-at bytes start limit FieldName d f u x st e = leads-on-alone (text_item limit u) _ x e
ends-at bytes start limit Alias d f u x st e =
    let a = leads-done (text_item limit u) _ x e in
    on-either (eqb (length a.0.0) 0) (at_item Processing d f a.0.1) (at_item Alias d (record f { aliases = f.aliases ++ a.0.0 ∷ [] }) a.0.1) (Ok x) a.2
ends-at bytes start limit Processing d f u x st e = leads-on-alone (text_item limit u) _ x e
ends-at bytes start limit Units d f u x st e = leads-on-alone (text_item limit u) _ x e
ends-at bytes start limit Description d f u x st e = leads-on-alone (text_item limit u) _ x e
ends-at bytes start limit Begin d f u x st e = leads-on-alone (word_item limit u) _ x e
ends-at bytes start limit Dimension d f u x st e = leads-on-alone (dimension_item d.fields f limit u) _ x e
ends-at bytes start limit SubDimension d f u x st e =
    let a = leads-done (word_item limit u) _ x e in
    on-either (eqb a.0.0 0) (at_item Kind (with_field d f) f a.0.1) (at_item SubDimension d (record f { sub_dimensions = f.sub_dimensions ++ a.0.0 ∷ [] }) a.0.1) (Ok x) a.2

-- before anything was read
pub HasRead-begin : (u : Unread) → IsBytes u.rest → HasRead u.rest u.at (table_begins u)
HasRead-begin u fits = record { parts = refl; at = omega arith; left = fits; known = tt }

-- what was read to its end was a table's bytes
pub has_ended : (limit : ℕ) (u : Unread) (x : Definition × Unread) → IsBytes u.rest → ComesTo limit (table_begins u) (Ok x) → HasEnded u.rest u.at limit x
has_ended limit u x fits c =
    let last : Point = c.last in
    ends-at u.rest u.at limit last.next last.table last.field last.left x (HasRead-reaches u.rest u.at limit (table_begins u) last (HasRead-begin u fits) c.items) c.ends
