-- A field, from its type on, and the sums with it.
use Rattle.std.proofs.Common.{◌≡◌, ℕ, ◌+◌, ◌-◌, ◌%◌, ◌<◌, ltb, Bool, true, false, eqb, leb, List, [], ◌∷◌, ◌++◌, length, Result, Ok, Err, refl, sym, ap, subst, ◌∙◌, arith}
use Rattle.std.specs.Prelude.{◌&&◌, ◌||◌}
use Rattle.std.specs.Int.{w8, w32}
use Rattle.std.proofs.lemmas.List.{length-append}
use Rattle.std.proofs.lemmas.Bool.{ltb-true}
use Rattle.pb_tdf.proofs.ItemLemmas.{item-ok}
use Rattle.pb_base.specs.declared.fields.FieldFault.{FieldFault}
use Rattle.pb_base.specs.Fields.{Unread, number_at}
use Rattle.pb_tdf.specs.declared.fault.TdfFault.{TdfFault}
use Rattle.pb_tdf.specs.declared.place.FieldPlace.{FieldPlace}
use Rattle.pb_tdf.specs.declared.totals.Totals.{Totals}
use Rattle.pb_tdf.specs.Kinds.{asciiz}
use Rattle.pb_tdf.specs.Definition.{Definition, FieldDefinition, all_values, all_record_bytes, has_asciiz, fields_max, values_of, record_bytes_of, values_max, record_bytes_max}
use Rattle.pb_tdf.specs.Order.{item, any, Kind, FieldName, Dimension, SubDimension, at_item, begun_field, is_type, has_room, type_item, dimension_item, has_dimension, ComesTo}
use Rattle.pb_tdf.specs.Inside.Items.{Limited, ReadsItem}
use Rattle.pb_tdf.specs.Inside.Passing.{Passes, IsStopped, PassesDescription, PassesWords, PassesField, ReadsDimension, IsTotals, totals_with, are_within, counted_dimension}
use Rattle.pb_tdf.proofs.PrefixLemmas.{or-false, all_values-last, all_record_bytes-last}
use Rattle.pb_tdf.proofs.PassLemmas.{passes-then, passes-one, comes-then, stops-one, ends-one}

-- an item is judged by what its limit says
item-same : {A : Type 0} (limit : ℕ) (u : Unread) (read : Result (A × Unread) FieldFault) (is_typed v w : A → Bool) → ((x : A) → v x ≡ w x) → item limit u read is_typed v ≡ item limit u read is_typed w
item-same limit u (Err fault) is_typed v w same = refl
item-same limit u (Ok x) is_typed v w same = rw (same x.0) refl

or-last : (fields : List FieldDefinition) (f : FieldDefinition) → has_asciiz (fields ++ f ∷ []) ≡ (has_asciiz fields || eqb f.kind asciiz)
or-last [] f = or-end (eqb f.kind asciiz)
  where
    or-end : (b : Bool) → (b || false) ≡ b
    or-end true = refl
    or-end false = refl
or-last (g ∷ fields) f = rw (or-last fields f) (or-assoc (eqb g.kind asciiz) (has_asciiz fields) (eqb f.kind asciiz))
  where
    or-assoc : (a b c : Bool) → (a || (b || c)) ≡ ((a || b) || c)
    or-assoc true b c = refl
    or-assoc false b c = refl

-- the sums with one more field
pub IsTotals-last : (fields : List FieldDefinition) (t : Totals) (f : FieldDefinition) → IsTotals fields t → IsTotals (fields ++ f ∷ []) (totals_with t f.kind f.dimension)
IsTotals-last fields t f is =
    record {
      fields = omega (arith, is.fields, length-append fields (f ∷ []));
      values = omega (arith, is.values, all_values-last fields f);
      record_bytes = omega (arith, is.record_bytes, all_record_bytes-last fields f);
      uncollectable = or-last fields f ∙ ap (λ b. b || eqb f.kind asciiz) is.uncollectable;
    }

module _ (o0 o1 o2 o3 o4 : Limited) (start : ℕ) (d : Definition) (f0 : FieldDefinition) (t : Totals) (is : IsTotals d.fields t) (n : ℕ) where
  -- the field of which the type byte was read
  abbrev Begun : Type 0
  Begun = Passes o0 o1 (at_item Kind d f0 o0.left) (at_item FieldName d (begun_field n) o1.left)

  typed : ReadsItem (type_item t.fields) o0 o1 n → ReadsItem (type_item (length d.fields)) o0 o1 n
  typed r = subst (λ (k : ℕ). ReadsItem (type_item k) o0 o1 n) (sym is.fields) r

  pub type-stops : (fault : TdfFault) → type_item t.fields o0.limit o0.left ≡ Err fault → IsStopped o0 (at_item Kind d f0 o0.left) fault
  type-stops fault e = stops-one (type_item (length d.fields)) o0 (at_item Kind d f0 o0.left) fault _ (subst (λ (k : ℕ). type_item k o0.limit o0.left ≡ Err fault) (sym is.fields) e) refl

  pub type-ends : ReadsItem (type_item t.fields) o0 o1 n → eqb n 0 ≡ true → ComesTo o0.limit (at_item Kind d f0 o0.left) (Ok (d, o1.left))
  type-ends r none = ends-one (type_item (length d.fields)) o0 o1 (at_item Kind d f0 o0.left) n _ (Ok (d, o1.left)) (typed r) refl (rw none refl)

  pub type-read : ReadsItem (type_item t.fields) o0 o1 n → eqb n 0 ≡ false → Begun
  type-read r some = passes-one (type_item (length d.fields)) o0 o1 (at_item Kind d f0 o0.left) (at_item FieldName d (begun_field n) o1.left) n _ (typed r) refl (rw some refl)

  pub description-stops : (fault : TdfFault) → Begun → PassesDescription o1 o2 (Err fault) → IsStopped o0 (at_item Kind d f0 o0.left) fault
  description-stops fault k stopped = comes-then _ _ _ _ _ k (stopped d (begun_field n))

  module _ (name_len : ℕ) (begun : Begun) (described : PassesDescription o1 o2 (Ok name_len)) where
    abbrev g : FieldDefinition
    g = (described d (begun_field n)).0

    abbrev passed : Passes o0 o2 (at_item Kind d f0 o0.left) (at_item Dimension d g o2.left)
    passed = passes-then _ _ _ _ _ _ begun (described d (begun_field n)).1

    -- the dimension is judged by the sums
    same-limits : (k : ℕ) → are_within (totals_with t (n % 128) k) ≡ has_dimension d.fields g k
    same-limits k =
        let f : FieldDefinition = record g { dimension = k } in
        let same = (described d (begun_field n)).2 in
        let values-same : t.values + values_of (n % 128) k ≡ all_values (d.fields ++ f ∷ []) = ap (λ x. t.values + values_of x k) (sym same) ∙ ap (λ x. x + values_of g.kind k) (sym is.values) ∙ sym (all_values-last d.fields f) in
        let bytes-same : t.record_bytes + record_bytes_of (n % 128) k ≡ all_record_bytes (d.fields ++ f ∷ []) =
        ap (λ x. t.record_bytes + record_bytes_of x k) (sym same) ∙ ap (λ x. x + record_bytes_of g.kind k) (sym is.record_bytes) ∙ sym (all_record_bytes-last d.fields f) in
        ap (λ x. leb x values_max && leb (t.record_bytes + record_bytes_of (n % 128) k) record_bytes_max) values-same ∙ ap (λ x. leb (all_values (d.fields ++ f ∷ [])) values_max && leb x record_bytes_max) bytes-same

    same-item : counted_dimension t (n % 128) o2.limit o2.left ≡ dimension_item d.fields g o2.limit o2.left
    same-item = item-same o2.limit o2.left (number_at w32 o2.left) any (λ k. are_within (totals_with t (n % 128) k)) (has_dimension d.fields g) same-limits

    pub dimension-stops : (fault : TdfFault) → ReadsDimension t (n % 128) o2 o3 (Err fault) → IsStopped o0 (at_item Kind d f0 o0.left) fault
    dimension-stops fault e = comes-then _ _ _ _ _ passed (stops-one (dimension_item d.fields g) o2 (at_item Dimension d g o2.left) fault _ (sym same-item ∙ e) refl)

    module _ (k : ℕ) (u : Totals) (dimension : ReadsDimension t (n % 128) o2 o3 (Ok (k, u))) where
      abbrev f : FieldDefinition
      f = record g { dimension = k; sub_dimensions = [] }

      abbrev to_subs : Passes o0 o3 (at_item Kind d f0 o0.left) (at_item SubDimension d f o3.left)
      to_subs =
          passes-then _ _ _ _ _ _ passed
          (passes-one (dimension_item d.fields g) o2 o3 (at_item Dimension d g o2.left) (at_item SubDimension d f o3.left) k _
          (record { read = sym same-item ∙ dimension.0.read; same_limit = dimension.0.same_limit }) refl refl)

      pub subs-stop : (fault : TdfFault) → PassesWords o3 o4 (Err fault) → IsStopped o0 (at_item Kind d f0 o0.left) fault
      subs-stop fault stopped = comes-then _ _ _ _ _ to_subs (stopped d f)

      pub field-read : (place : FieldPlace) → PassesWords o3 o4 (Ok tt) → place.at ≡ o0.left.at - start → place.name_len ≡ name_len → place.dimension ≡ k → PassesField o0 o4 start d f0 place u
      field-read place subs at len dim =
          let s = subs d f in
          let h : FieldDefinition = record f { sub_dimensions = s.0 } in
          record {
            field = h;
            passes = passes-then _ _ _ _ _ _ to_subs s.1;
            sums = subst (λ x. IsTotals (d.fields ++ h ∷ []) x) (ap (λ x. totals_with t x k) (described d (begun_field n)).2 ∙ sym dimension.1) (IsTotals-last d.fields t h is);
            located = record { begins = at; name_len = len ∙ sym (described d (begun_field n)).3; dimension = dim };
          }

-- a type that isn't 0 comes after fewer fields than there may be
pub room-left : (o0 o1 : Limited) (fields n : ℕ) → ReadsItem (type_item fields) o0 o1 n → eqb n 0 ≡ false → fields < fields_max
room-left o0 o1 fields n r some =
    let w = item-ok o0.limit o0.left (number_at w8 o0.left) is_type (has_room fields) (n, o1.left) r.read in
    ltb-true _ _ (or-false (eqb n 0) (ltb fields fields_max) some w.within)
