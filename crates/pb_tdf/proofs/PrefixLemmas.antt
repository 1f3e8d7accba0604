-- How far a reading has come, the bytes of what was read are before it, and what was read is formed.
use Rattle.std.proofs.Common.{◌≡◌, ℕ, ◌+◌, ◌%◌, ◌^◌, ◌≤◌, ◌<◌, Bool, true, false, cond, ltb, leb, eqb, List, [], ◌∷◌, ◌++◌, length, Result, Ok, refl, sym, ap, subst, ◌∙◌, append_assoc, arith}
use Rattle.std.specs.Prelude.{◌||◌, is_some}
use Rattle.std.specs.Int.{w8, w32}
use Rattle.std.specs.List.{AllByRecursion, flat_map}
use Rattle.std.proofs.lemmas.Bool.{ltb-true, leb-true, leb-false, eqb-true, eqb-false}
use Rattle.std.proofs.lemmas.List.{append-nil, length-append}
use Rattle.std.proofs.lemmas.List.Concat.{flat_map-cons}
use Rattle.pb_base.specs.declared.fields.FieldFault.{FieldFault}
use Rattle.pb_base.specs.declared.nsec.Nsec.{Nsec}
use Rattle.pb_base.specs.Fields.{Unread, IsBytes, Takes, number_at, text_at}
use Rattle.pb_base.specs.Time.{time_at, time_bytes}
use Rattle.pb_base.proofs.FieldLaws.{wide32, number-takes, byte-takes}
use Rattle.pb_base.proofs.TextLaws.{text-takes, time-takes}
use Rattle.pb_tdf.specs.declared.fault.TdfFault.{TdfFault}
use Rattle.pb_tdf.specs.Kinds.{value_bytes}
use Rattle.pb_tdf.specs.Definition.{FieldDefinition, Definition, text, word, type_byte, field_bytes, values, record_bytes, all_values, all_record_bytes, IsText, IsAlias, IsSubDimension, IsField, IsTime, is_interval, fields_max, values_max, record_bytes_max}
use Rattle.pb_tdf.specs.Order.{item, any, text_item, is_type, has_room, has_dimension, Next, Name, Size, TimeType, Into, Interval, Kind, FieldName, Alias, Processing, Units, Description, Begin, Dimension, SubDimension, Point, Step, On, Done, leads, begun_field, with_field, at_item, step_at, Reaches, Here, Later}
use Rattle.pb_tdf.specs.Inside.Progress.{header, to_fields, to_name, to_begin, prefix, IsTableSoFar, Known, HasRead}
use Rattle.pb_tdf.proofs.ItemLemmas.{item-ok, on_is, leads-on, both}

advance : (bytes : List ℕ) (start : ℕ) (s : Point) (x : List ℕ) (t : Point) → HasRead bytes start s → Takes s.left x t.left
    → prefix t.next t.table t.field ≡ prefix s.next s.table s.field ++ x → Known t.next t.table t.field → HasRead bytes start t
advance bytes start s x t st takes e known =
    let before : List ℕ = prefix s.next s.table s.field in
    record {
      parts = st.parts ∙ ap (λ r. before ++ r) takes.bytes ∙ sym (append_assoc before x t.left.rest) ∙ ap (λ p. p ++ t.left.rest) (sym e);
      at = omega (arith, takes.at, st.at, length-append before x, ap length e);
      left = takes.rest;
      known = known;
    }

-- ---- one item

-- an item that was read, and what comes of it
pub record Stepped {A : Type 0} (limit : ℕ) (u : Unread) (spell : A → List ℕ) (Fits : A → Type 0) (is_typed is_within : A → Bool) (on : A → Unread → Step) (t : Point) : Type 0 where
  pub value : A
  pub after : Unread
  pub takes : Takes u (spell value) after
  pub fits : Fits value
  pub before : u.at < limit
  pub typed : is_typed value ≡ true
  pub within : is_within value ≡ true
  pub is : on value after ≡ On t

stepped : {A : Type 0} (spell : A → List ℕ) (Fits : A → Type 0) (limit : ℕ) (u : Unread) (read : Result (A × Unread) FieldFault) (is_typed is_within : A → Bool) (on : A → Unread → Step) (t : Point)
    → ((x : A) (v : Unread) → read ≡ Ok (x, v) → Takes u (spell x) v × Fits x)
    → leads (item limit u read is_typed is_within) on ≡ On t → Stepped limit u spell Fits is_typed is_within on t
stepped spell Fits limit u read is_typed is_within on t taken e =
    let a = leads-on (item limit u read is_typed is_within) on t e in
    let r = item-ok limit u read is_typed is_within a.0 a.1 in
    let k = taken a.0.0 a.0.1 r.is in
    record { value = a.0.0; after = a.0.1; takes = k.0; fits = k.1; before = r.before; typed = r.typed; within = r.within; is = a.2 }

abbrev one : ℕ → List ℕ
one n = n ∷ []

pub text-step : (limit : ℕ) (u : Unread) (on : List ℕ → Unread → Step) (t : Point) → IsBytes u.rest → leads (text_item limit u) on ≡ On t → Stepped limit u text IsText any any on t
text-step limit u on t fits e = stepped text IsText limit u (text_at u) any any on t (λ x v r. text-takes u x v fits r) e

pub word-step : (limit : ℕ) (u : Unread) (is_within : ℕ → Bool) (on : ℕ → Unread → Step) (t : Point) → IsBytes u.rest → leads (item limit u (number_at w32 u) any is_within) on ≡ On t
    → Stepped limit u word (λ n. n < 2 ^ 32) any is_within on t
word-step limit u is_within on t fits e = stepped word (λ n. n < 2 ^ 32) limit u (number_at w32 u) any is_within on t (λ x v r. number-takes w32 (2 ^ 32) wide32 u x v fits r) e

pub byte-step : (limit : ℕ) (u : Unread) (is_typed is_within : ℕ → Bool) (on : ℕ → Unread → Step) (t : Point) → IsBytes u.rest → leads (item limit u (number_at w8 u) is_typed is_within) on ≡ On t
    → Stepped limit u one (λ n. n < 2 ^ 8) is_typed is_within on t
byte-step limit u is_typed is_within on t fits e = stepped one (λ n. n < 2 ^ 8) limit u (number_at w8 u) is_typed is_within on t (λ x v r. byte-takes u x v fits r) e

taken_time : (u : Unread) → IsBytes u.rest → (x : Nsec) (v : Unread) → time_at u ≡ Ok (x, v) → Takes u (time_bytes x) v × IsTime x
taken_time u fits x v r = let t = time-takes u x v fits r in (t.0, (t.1, t.2))

pub time-step : (limit : ℕ) (u : Unread) (is_typed : Nsec → Bool) (on : Nsec → Unread → Step) (t : Point) → IsBytes u.rest → leads (item limit u (time_at u) is_typed any) on ≡ On t
    → Stepped limit u time_bytes IsTime is_typed any on t
time-step limit u is_typed on t fits e = stepped time_bytes IsTime limit u (time_at u) is_typed any on t (taken_time u fits) e

-- ---- lists that grow at their end

pub flat_map-last : {A : Type 0} (f : A → List ℕ) (xs : List A) (x : A) → flat_map f (xs ++ x ∷ []) ≡ flat_map f xs ++ f x
flat_map-last f [] x = flat_map-cons f x [] ∙ append-nil (f x)
flat_map-last f (y ∷ xs) x =
    flat_map-cons f y (xs ++ x ∷ []) ∙ ap (λ r. f y ++ r) (flat_map-last f xs x) ∙ sym (append_assoc (f y) (flat_map f xs) (f x)) ∙ ap (λ r. r ++ f x) (sym (flat_map-cons f y xs))

pub All-last : {A : Type 0} (P : A → Type 0) (xs : List A) (x : A) → AllByRecursion P xs → P x → AllByRecursion P (xs ++ x ∷ [])
All-last P [] x all p = (p, tt)
All-last P (y ∷ xs) x all p = (all.0, All-last P xs x all.1 p)

pub all_values-last : (fields : List FieldDefinition) (f : FieldDefinition) → all_values (fields ++ f ∷ []) ≡ all_values fields + values f
all_values-last [] f = omega arith
all_values-last (g ∷ fields) f = omega (arith, all_values-last fields f)

pub all_record_bytes-last : (fields : List FieldDefinition) (f : FieldDefinition) → all_record_bytes (fields ++ f ∷ []) ≡ all_record_bytes fields + record_bytes f
all_record_bytes-last [] f = omega arith
all_record_bytes-last (g ∷ fields) f = omega (arith, all_record_bytes-last fields f)

-- ---- tests

pub cond-on : (b : Bool) (x : Result (Definition × Unread) TdfFault) (s t : Point) → cond b (Done x) (On s) ≡ On t → (b ≡ false) × (s ≡ t)
cond-on true x s t e = absurd cc
cond-on false x s t e = (refl, on_is s t e)

pub or-false : (a b : Bool) → a ≡ false → (a || b) ≡ true → b ≡ true
or-false true b e h = absurd cc
or-false false b e h = h

pub begun-byte : (n : ℕ) → n < 2 ^ 8 → type_byte (begun_field n) ≡ n
begun-byte n lt = go (leb 128 n) refl
  where
    go : (b : Bool) → leb 128 n ≡ b → cond b 128 0 + n % 128 ≡ n
    go true e = omega (arith, leb-true _ _ e)
    go false e = omega (arith, leb-false _ _ e)

-- ---- each item

-- what comes of a step at its end
arrives : (bytes : List ℕ) (start : ℕ) (s : Point) (x : List ℕ) (t u : Point) → HasRead bytes start s → On t ≡ On u → Takes s.left x t.left
    → prefix t.next t.table t.field ≡ prefix s.next s.table s.field ++ x → Known t.next t.table t.field → HasRead bytes start u
arrives bytes start s x t u st is takes e known = subst (HasRead bytes start) (on_is t u is) (advance bytes start s x t st takes e known)

empty_text : (t : List ℕ) → eqb (length t) 0 ≡ true → t ≡ []
empty_text [] e = refl
empty_text (b ∷ t) e = absurd (omega (arith, eqb-true _ _ e))

some_text : (t : List ℕ) → eqb (length t) 0 ≡ false → 0 < length t
some_text t e = omega (arith, eqb-false _ _ e)

choose : (b : Bool) (s t u : Point) → cond b (On s) (On t) ≡ On u → (P : Point → Type 0) → (b ≡ true → P s) → (b ≡ false → P t) → P u
choose true s t u e P first second = subst P (on_is s u e) (first refl)
choose false s t u e P first second = subst P (on_is t u e) (second refl)

alias-step : (bytes : List ℕ) (start limit : ℕ) (d : Definition) (f : FieldDefinition) (u : Unread) (t : Point) → HasRead bytes start (at_item Alias d f u) → step_at Alias limit d f u ≡ On t → HasRead bytes start t
alias-step bytes start limit d f u t st e =
    let k = text-step limit u _ t st.left e in
    let here : Point = at_item Alias d f u in
    let more : FieldDefinition = record f { aliases = f.aliases ++ k.value ∷ [] } in
    choose (eqb (length k.value) 0) (at_item Processing d f k.after) (at_item Alias d more k.after) t k.is (HasRead bytes start)
    (λ none. advance bytes start here (text []) (at_item Processing d f k.after) st (subst (λ x. Takes u (text x) k.after) (empty_text k.value none) k.takes) refl st.known)
    (λ some. advance bytes start here (text k.value) (at_item Alias d more k.after) st k.takes
    (ap (λ x. to_name d f ++ x) (flat_map-last text f.aliases k.value) ∙ sym (append_assoc (to_name d f) (flat_map text f.aliases) (text k.value)))
    (st.known.0, st.known.1, All-last IsAlias f.aliases k.value st.known.2 (some_text k.value some, k.fits)))

-- the bytes of a whole field after those before it
whole_field : (before : List ℕ) (f : FieldDefinition)
    → (((((((((((before ++ type_byte f ∷ []) ++ text f.name) ++ flat_map text f.aliases) ++ text []) ++ text f.processing) ++ text f.units) ++ text f.description) ++ word f.begin) ++ word f.dimension) ++ flat_map word f.sub_dimensions) ++ word 0)
    ≡ before ++ field_bytes f
whole_field before f = simp append_assoc refl

formed_field : (d : Definition) (f : FieldDefinition) → Known SubDimension d f → IsField f
formed_field d f k =
    record {
      kind = k.0.0.0.is_kind;
      name = k.0.0.1;
      aliases = k.0.0.2;
      processing = k.0.1;
      units = k.0.2;
      description = k.0.3;
      begin = k.1;
      dimension = k.2;
      sub_dimensions = k.3;
    }

more_fields : (d : Definition) (f : FieldDefinition) → Known SubDimension d f → IsTableSoFar (with_field d f)
more_fields d f k =
    let before = k.0.0.0.table in
    record {
      formed = record { name = before.formed.name; size = before.formed.size; time_type = before.formed.time_type; into = before.formed.into; interval = before.formed.interval; fields = All-last IsField d.fields f before.formed.fields (formed_field d f k) };
      fields = omega (arith, length-append d.fields (f ∷ []), k.0.0.0.room);
      values = omega (arith, all_values-last d.fields f, k.4);
      record_bytes = omega (arith, all_record_bytes-last d.fields f, k.5);
    }

sub-step : (bytes : List ℕ) (start limit : ℕ) (d : Definition) (f : FieldDefinition) (u : Unread) (t : Point) → HasRead bytes start (at_item SubDimension d f u) → step_at SubDimension limit d f u ≡ On t → HasRead bytes start t
sub-step bytes start limit d f u t st e =
    let k = word-step limit u any _ t st.left e in
    let here : Point = at_item SubDimension d f u in
    let more : FieldDefinition = record f { sub_dimensions = f.sub_dimensions ++ k.value ∷ [] } in
    let before : List ℕ = to_begin d f ++ word f.dimension in
    choose (eqb k.value 0) (at_item Kind (with_field d f) f k.after) (at_item SubDimension d more k.after) t k.is (HasRead bytes start)
    (λ none. advance bytes start here (word 0) (at_item Kind (with_field d f) f k.after) st (subst (λ n. Takes u (word n) k.after) (eqb-true _ _ none) k.takes)
    (ap (λ x. header d ++ x) (flat_map-last field_bytes d.fields f) ∙ sym (append_assoc (header d) (flat_map field_bytes d.fields) (field_bytes f)) ∙ sym (whole_field (to_fields d) f))
    (more_fields d f st.known))
    (λ some. advance bytes start here (word k.value) (at_item SubDimension d more k.after) st k.takes
    (ap (λ x. before ++ x) (flat_map-last word f.sub_dimensions k.value) ∙ sym (append_assoc before (flat_map word f.sub_dimensions) (word k.value)))
    (st.known.0, st.known.1, st.known.2, All-last IsSubDimension f.sub_dimensions k.value st.known.3 (omega (arith, eqb-false _ _ some), k.fits), st.known.4, st.known.5))

kind-step : (bytes : List ℕ) (start limit : ℕ) (d : Definition) (f : FieldDefinition) (u : Unread) (t : Point) → HasRead bytes start (at_item Kind d f u) → step_at Kind limit d f u ≡ On t → HasRead bytes start t
kind-step bytes start limit d f u t st e =
    let k = byte-step limit u is_type (has_room (length d.fields)) _ t st.left e in
    let g = cond-on (eqb k.value 0) (Ok (d, k.after)) (at_item FieldName d (begun_field k.value) k.after) t k.is in
    subst (HasRead bytes start) g.1
    (advance bytes start (at_item Kind d f u) (k.value ∷ []) (at_item FieldName d (begun_field k.value) k.after) st k.takes
    (ap (λ n. to_fields d ++ n ∷ []) (begun-byte k.value k.fits))
    (record {
      table = st.known;
      is_kind = or-false (eqb k.value 0) (is_some (value_bytes (k.value % 128))) g.0 k.typed;
      room = ltb-true _ _ (or-false (eqb k.value 0) (ltb (length d.fields) fields_max) g.0 k.within);
    }))

dimension-step : (bytes : List ℕ) (start limit : ℕ) (d : Definition) (f : FieldDefinition) (u : Unread) (t : Point) → HasRead bytes start (at_item Dimension d f u) → step_at Dimension limit d f u ≡ On t → HasRead bytes start t
dimension-step bytes start limit d f u t st e =
    let k = word-step limit u (has_dimension d.fields f) _ t st.left e in
    let g : FieldDefinition = record f { dimension = k.value; sub_dimensions = [] } in
    let w : FieldDefinition = record f { dimension = k.value } in
    let with : List FieldDefinition = d.fields ++ w ∷ [] in
    let h = both (leb (all_values with) values_max) (leb (all_record_bytes with) record_bytes_max) k.within in
    let values_fit : all_values d.fields + values w ≤ values_max = omega (arith, leb-true (all_values with) values_max h.0, all_values-last d.fields w) in
    let bytes_fit : all_record_bytes d.fields + record_bytes w ≤ record_bytes_max = omega (arith, leb-true (all_record_bytes with) record_bytes_max h.1, all_record_bytes-last d.fields w) in
    arrives bytes start (at_item Dimension d f u) (word k.value) (at_item SubDimension d g k.after) t st k.is k.takes (append-nil (to_begin d f ++ word k.value))
    (st.known.0, st.known.1, k.fits, tt, values_fit, bytes_fit)

pub HasRead-step : (bytes : List ℕ) (start limit : ℕ) (next : Next) (d : Definition) (f : FieldDefinition) (u : Unread) (t : Point) → HasRead bytes start (at_item next d f u) → step_at next limit d f u ≡ On t → HasRead bytes start t
HasRead-step bytes start limit Name d f u t st e =
    let k = text-step limit u _ t st.left e in
    arrives bytes start (at_item Name d f u) (text k.value) (at_item Size (record d { name = k.value }) f k.after) t st k.is k.takes refl k.fits
HasRead-step bytes start limit Size d f u t st e =
    let k = word-step limit u any _ t st.left e in
    arrives bytes start (at_item Size d f u) (word k.value) (at_item TimeType (record d { size = k.value }) f k.after) t st k.is k.takes refl (st.known, k.fits)
HasRead-step bytes start limit TimeType d f u t st e =
    let k = byte-step limit u any any _ t st.left e in
    arrives bytes start (at_item TimeType d f u) (k.value ∷ []) (at_item Into (record d { time_type = k.value }) f k.after) t st k.is k.takes refl (st.known.0, st.known.1, k.fits)
HasRead-step bytes start limit Into d f u t st e =
    let k = time-step limit u any _ t st.left e in
    arrives bytes start (at_item Into d f u) (time_bytes k.value) (at_item Interval (record d { into = k.value }) f k.after) t st k.is k.takes refl (st.known.0, st.known.1, st.known.2, k.fits)
HasRead-step bytes start limit Interval d f u t st e =
    let k = time-step limit u is_interval _ t st.left e in
    let g : Definition = record d { interval = k.value; fields = [] } in
    arrives bytes start (at_item Interval d f u) (time_bytes k.value) (at_item Kind g f k.after) t st k.is k.takes (append-nil (header g))
    (record {
      formed = record { name = st.known.0; size = st.known.1; time_type = st.known.2; into = st.known.3; interval = (k.fits, k.typed); fields = tt };
      fields = omega arith;
      values = omega arith;
      record_bytes = omega arith;
    })
HasRead-step bytes start limit Kind d f u t st e = kind-step bytes start limit d f u t st e
HasRead-step bytes start limit FieldName d f u t st e =
    let k = text-step limit u _ t st.left e in
    let g : FieldDefinition = record f { name = k.value; aliases = [] } in
    arrives bytes start (at_item FieldName d f u) (text k.value) (at_item Alias d g k.after) t st k.is k.takes (append-nil (to_name d g))
    (st.known, k.fits, tt)
HasRead-step bytes start limit Alias d f u t st e = alias-step bytes start limit d f u t st e
HasRead-step bytes start limit Processing d f u t st e =
    let k = text-step limit u _ t st.left e in
    arrives bytes start (at_item Processing d f u) (text k.value) (at_item Units d (record f { processing = k.value }) k.after) t st k.is k.takes refl (st.known, k.fits)
HasRead-step bytes start limit Units d f u t st e =
    let k = text-step limit u _ t st.left e in
    arrives bytes start (at_item Units d f u) (text k.value) (at_item Description d (record f { units = k.value }) k.after) t st k.is k.takes refl (st.known.0, st.known.1, k.fits)
HasRead-step bytes start limit Description d f u t st e =
    let k = text-step limit u _ t st.left e in
    arrives bytes start (at_item Description d f u) (text k.value) (at_item Begin d (record f { description = k.value }) k.after) t st k.is k.takes refl (st.known.0, st.known.1, st.known.2, k.fits)
HasRead-step bytes start limit Begin d f u t st e =
    let k = word-step limit u any _ t st.left e in
    arrives bytes start (at_item Begin d f u) (word k.value) (at_item Dimension d (record f { begin = k.value }) k.after) t st k.is k.takes refl (st.known, k.fits)
HasRead-step bytes start limit Dimension d f u t st e = dimension-step bytes start limit d f u t st e
HasRead-step bytes start limit SubDimension d f u t st e = sub-step bytes start limit d f u t st e

pub HasRead-reaches : (bytes : List ℕ) (start limit : ℕ) (s t : Point) → HasRead bytes start s → Reaches limit s t → HasRead bytes start t
HasRead-reaches bytes start limit s t st (Here a b e) = subst (HasRead bytes start) e st
HasRead-reaches bytes start limit s t st (Later a m b e r) = HasRead-reaches bytes start limit m t (HasRead-step bytes start limit s.next s.table s.field s.left m st e) r
