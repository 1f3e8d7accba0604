-- The items of a table's bytes are read one after another, up to its end.
use Rattle.std.proofs.Common.{◌≡◌, ℕ, zero, suc, ◌+◌, ◌-◌, ◌%◌, ◌^◌, ◌≤◌, ◌<◌, Bool, true, false, cond, ltb, leb, eqb, List, [], ◌∷◌, ◌++◌, length, None, Result, Ok, refl, sym, ap, subst, ◌∙◌, append_assoc, arith, inl, inr}
use Rattle.std.specs.Prelude.{is_some}
use Rattle.std.specs.Int.{w8, w32}
use Rattle.std.specs.List.{AllByRecursion, flat_map}
use Rattle.std.proofs.lemmas.Bool.{cases_lt, lt-leb, lt-ltb, le-ltb, le-leb, ne_eqb}
use Rattle.std.proofs.lemmas.List.{append-nil, length-append}
use Rattle.std.proofs.lemmas.List.Concat.{flat_map-cons}
use Rattle.pb_base.specs.declared.fields.FieldFault.{FieldFault}
use Rattle.pb_base.specs.declared.nsec.Nsec.{Nsec}
use Rattle.pb_base.specs.Fields.{Unread, unread, number_at, text_at}
use Rattle.pb_base.specs.Time.{time_at, time_bytes}
use Rattle.pb_base.proofs.FieldLaws.{wide32, number-again, byte-again}
use Rattle.pb_base.proofs.TextLaws.{text-again, time-again}
use Rattle.pb_tdf.specs.declared.fault.TdfFault.{TdfFault}
use Rattle.pb_tdf.specs.Kinds.{value_bytes}
use Rattle.pb_tdf.specs.Definition.{FieldDefinition, Definition, text, word, type_byte, field_bytes, table_bytes, values, record_bytes, all_values, all_record_bytes, IsText, IsAlias, IsSubDimension, IsField, IsTime, is_interval, IsFormed, IsWithin, fields_max, values_max, record_bytes_max}
use Rattle.pb_tdf.specs.Order.{item, any, word_item, text_item, is_type, has_room, has_dimension, Size, TimeType, Into, Interval, Kind, FieldName, Alias, Processing, Units, Description, Begin, Dimension, SubDimension, Point, Step, On, Done, leads, begun_field, with_field, at_item, step, Reaches, Here, Later, ComesTo, no_table, table_begins}
use Rattle.pb_tdf.proofs.ItemLemmas.{Reaches-then}
use Rattle.pb_tdf.proofs.PrefixLemmas.{all_values-last, all_record_bytes-last}

-- what is left of a slice of so many bytes
abbrev pub from : ℕ → List ℕ → Unread
from n rest = unread (n - length rest) rest

item-again : {A : Type 0} (limit : ℕ) (u : Unread) (read : Result (A × Unread) FieldFault) (is_typed is_within : A → Bool) (x : A × Unread)
    → read ≡ Ok x → is_typed x.0 ≡ true → u.at < limit → is_within x.0 ≡ true → item limit u read is_typed is_within ≡ Ok x
item-again limit u read is_typed is_within x is typed before within =
    let past : ltb limit u.at ≡ false = le-ltb _ _ (omega arith) in
    let there : ltb u.at limit ≡ true = lt-ltb _ _ before in
    rw (past, is, typed, there, within) refl

-- the codes of types lie from 1 to 28
off : (k c : ℕ) → 29 ≤ k → c < 29 → eqb k c ≡ false
off k c past lt = ne_eqb k c (λ e. omega (arith, e, past, lt))

no_kind : (k : ℕ) → 29 ≤ k → value_bytes k ≡ None
no_kind k past =
    rw (off k 16 past (omega arith), off k 1 past (omega arith), off k 4 past (omega arith), off k 10 past (omega arith), off k 11 past (omega arith), off k 17 past (omega arith), off k 2 past (omega arith), off k 5 past (omega arith), off k 7 past (omega arith), off k 19 past (omega arith), off k 21 past (omega arith), off k 27 past (omega arith), off k 15 past (omega arith), off k 3 past (omega arith), off k 6 past (omega arith), off k 8 past (omega arith), off k 9 past (omega arith), off k 12 past (omega arith), off k 20 past (omega arith), off k 22 past (omega arith), off k 24 past (omega arith), off k 28 past (omega arith), off k 13 past (omega arith), off k 14 past (omega arith), off k 18 past (omega arith), off k 23 past (omega arith), off k 25 past (omega arith))
    refl

pub known_kind : (k : ℕ) → is_some (value_bytes k) ≡ true → (0 < k) × (k < 29)
known_kind zero e = absurd cc
known_kind (suc k) e =
    elim (cases_lt (suc k) 29) [
      | inl lt ↦ (omega arith, lt)
      | inr past ↦ let none : false ≡ true = ap is_some (sym (no_kind (suc k) past)) ∙ e in absurd cc
    ]

-- the bytes `more` follow a table or a field, which ends at the limit or before it
module _ (limit n : ℕ) (more : List ℕ) (room : n - length more ≤ limit) where
  -- all of the bytes lie in the slice
  abbrev Lies : List ℕ → Type 0
  Lies bytes = length (bytes ++ more) ≤ n

  Lies-tail : (x y : List ℕ) → Lies (x ++ y) → Lies y
  Lies-tail x y fits = omega (arith, length-append (x ++ y) more, length-append x y, length-append y more)

  -- after an item is the place that its length says
  after-item : (x y : List ℕ) (k : ℕ) → length x ≡ k → Lies (x ++ y) → unread (n - length ((x ++ y) ++ more) + k) (y ++ more) ≡ from n (y ++ more)
  after-item x y k len fits = ap (λ at. unread at (y ++ more)) (omega (arith, length-append (x ++ y) more, length-append x y, length-append y more, len))

  before-limit : (x y : List ℕ) (k : ℕ) → length x ≡ k → 0 < k → Lies (x ++ y) → n - length ((x ++ y) ++ more) < limit
  before-limit x y k len some fits = omega (arith, length-append (x ++ y) more, length-append x y, length-append y more, len, room)

  -- an item at the beginning, which is read
  again : {A : Type 0} (x y : List ℕ) (k : ℕ) (value : A) (read : Unread → Result (A × Unread) FieldFault) (is_typed is_within : A → Bool) → length x ≡ k → 0 < k → Lies (x ++ y)
      → ((at : ℕ) (rest : List ℕ) → read (unread at (x ++ rest)) ≡ Ok (value, unread (at + k) rest)) → is_typed value ≡ true → is_within value ≡ true
      → item limit (from n ((x ++ y) ++ more)) (read (from n ((x ++ y) ++ more))) is_typed is_within ≡ Ok (value, from n (y ++ more))
  again {A} x y k value read is_typed is_within len some fits reads typed within =
      let at : ℕ = n - length ((x ++ y) ++ more) in
      let there : read (unread at ((x ++ y) ++ more)) ≡ Ok (value, from n (y ++ more)) =
      ap (λ b. read (unread at b)) (append_assoc x y more) ∙ reads at (y ++ more) ∙ ap (λ v. Ok (value, v)) (after-item x y k len fits) in
      item-again limit (from n ((x ++ y) ++ more)) (read (from n ((x ++ y) ++ more))) is_typed is_within (value, from n (y ++ more)) there typed (before-limit x y k len some fits) within

  text-next : (t y : List ℕ) → IsText t → Lies (text t ++ y) → text_item limit (from n ((text t ++ y) ++ more)) ≡ Ok (t, from n (y ++ more))
  text-next t y is fits = again (text t) y (length t + 1) t text_at any any (length-append t (0 ∷ [])) (omega arith) fits (λ at rest. text-again at t rest is) refl refl

  word-next : (w : ℕ) (y : List ℕ) (is_within : ℕ → Bool) → w < 2 ^ 32 → is_within w ≡ true → Lies (word w ++ y)
      → item limit (from n ((word w ++ y) ++ more)) (number_at w32 (from n ((word w ++ y) ++ more))) any is_within ≡ Ok (w, from n (y ++ more))
  word-next w y is_within lt within fits = again (word w) y 4 w (number_at w32) any is_within refl (omega arith) fits (λ at rest. number-again w32 (2 ^ 32) wide32 at w rest lt) refl within

  byte-next : (b : ℕ) (y : List ℕ) (is_typed is_within : ℕ → Bool) → b < 2 ^ 8 → is_typed b ≡ true → is_within b ≡ true → Lies (b ∷ y)
      → item limit (from n ((b ∷ y) ++ more)) (number_at w8 (from n ((b ∷ y) ++ more))) is_typed is_within ≡ Ok (b, from n (y ++ more))
  byte-next b y is_typed is_within lt typed within fits = again (b ∷ []) y 1 b (number_at w8) is_typed is_within refl (omega arith) fits (λ at rest. byte-again at b rest lt) typed within

  time-next : (t : Nsec) (y : List ℕ) (is_typed : Nsec → Bool) → IsTime t → is_typed t ≡ true → Lies (time_bytes t ++ y)
      → item limit (from n ((time_bytes t ++ y) ++ more)) (time_at (from n ((time_bytes t ++ y) ++ more))) is_typed any ≡ Ok (t, from n (y ++ more))
  time-next t y is_typed is typed fits = again (time_bytes t) y 8 t time_at is_typed any refl (omega arith) fits (λ at rest. time-again at t rest is.0 is.1) typed refl

  -- ---- steps

  goes : {A : Type 0} (r : Result (A × Unread) TdfFault) (value : A) (u : Unread) (on : A → Unread → Step) (t v : Point) → r ≡ Ok (value, u) → on value u ≡ On t
      → Reaches limit t v → (s : Point) → step limit s ≡ leads r on → Reaches limit s v
  goes r value u on t v is next rest s here = Later s t v (here ∙ ap (λ x. leads x on) is ∙ next) rest

  alias-goes : (d : Definition) (f : FieldDefinition) (a : List ℕ) (y : List ℕ) (t : Point) → IsAlias a → Lies (text a ++ y)
      → Reaches limit (at_item Alias d (record f { aliases = f.aliases ++ a ∷ [] }) (from n (y ++ more))) t → Reaches limit (at_item Alias d f (from n ((text a ++ y) ++ more))) t
  alias-goes d f a y t is fits rest =
      let next : Point = at_item Alias d (record f { aliases = f.aliases ++ a ∷ [] }) (from n (y ++ more)) in
      let some : eqb (length a) 0 ≡ false = ne_eqb _ 0 (λ z. omega (arith, z, is.0)) in
      goes (text_item limit (from n ((text a ++ y) ++ more))) a (from n (y ++ more)) _ next t (text-next a y is.1 fits) (rw some refl) rest (at_item Alias d f (from n ((text a ++ y) ++ more))) refl

  -- the aliases and the empty text that ends them
  aliases-path : (d : Definition) (f : FieldDefinition) (aliases : List (List ℕ)) (y : List ℕ) (t : Point) → AllByRecursion IsAlias aliases → Lies (flat_map text aliases ++ (text [] ++ y))
      → Reaches limit (at_item Processing d (record f { aliases = f.aliases ++ aliases }) (from n (y ++ more))) t
      → Reaches limit (at_item Alias d f (from n ((flat_map text aliases ++ (text [] ++ y)) ++ more))) t
  aliases-path d f [] y t all fits rest =
      let next : Point = at_item Processing d f (from n (y ++ more)) in
      let same : f.aliases ++ [] ≡ f.aliases = append-nil f.aliases in
      goes (text_item limit (from n ((text [] ++ y) ++ more))) [] (from n (y ++ more)) _ next t (text-next [] y (λ i j lt. absurd (omega (arith, lt))) fits) refl
      (subst (λ (x : List (List ℕ)). Reaches limit (at_item Processing d (record f { aliases = x }) (from n (y ++ more))) t) same rest)
      (at_item Alias d f (from n ((text [] ++ y) ++ more))) refl
  aliases-path d f (a ∷ aliases) y t all fits rest =
      let tail : List ℕ = flat_map text aliases ++ (text [] ++ y) in
      let g : FieldDefinition = record f { aliases = f.aliases ++ a ∷ [] } in
      let regrouped : flat_map text (a ∷ aliases) ++ (text [] ++ y) ≡ text a ++ tail = ap (λ x. x ++ (text [] ++ y)) (flat_map-cons text a aliases) ∙ append_assoc (text a) (flat_map text aliases) (text [] ++ y) in
      let fits2 : Lies (text a ++ tail) = subst Lies regrouped fits in
      subst (λ (x : List ℕ). Reaches limit (at_item Alias d f (from n (x ++ more))) t) (sym regrouped)
      (alias-goes d f a tail t all.0 fits2
      (aliases-path d g aliases y t all.1 (Lies-tail (text a) tail fits2)
      (subst (λ (x : List (List ℕ)). Reaches limit (at_item Processing d (record f { aliases = x }) (from n (y ++ more))) t) (sym (append_assoc f.aliases (a ∷ []) aliases)) rest)))

  sub-goes : (d : Definition) (f : FieldDefinition) (w : ℕ) (y : List ℕ) (t : Point) → IsSubDimension w → Lies (word w ++ y)
      → Reaches limit (at_item SubDimension d (record f { sub_dimensions = f.sub_dimensions ++ w ∷ [] }) (from n (y ++ more))) t → Reaches limit (at_item SubDimension d f (from n ((word w ++ y) ++ more))) t
  sub-goes d f w y t is fits rest =
      let next : Point = at_item SubDimension d (record f { sub_dimensions = f.sub_dimensions ++ w ∷ [] }) (from n (y ++ more)) in
      let some : eqb w 0 ≡ false = ne_eqb _ 0 (λ z. omega (arith, z, is.0)) in
      goes (word_item limit (from n ((word w ++ y) ++ more))) w (from n (y ++ more)) _ next t (word-next w y any is.1 refl fits) (rw some refl) rest (at_item SubDimension d f (from n ((word w ++ y) ++ more))) refl

  -- the sub-dimensions and the 0 that ends them
  subs-path : (d : Definition) (f : FieldDefinition) (subs : List ℕ) (y : List ℕ) (t : Point) → AllByRecursion IsSubDimension subs → Lies (flat_map word subs ++ (word 0 ++ y))
      → (let g : FieldDefinition = record f { sub_dimensions = f.sub_dimensions ++ subs } in Reaches limit (at_item Kind (with_field d g) g (from n (y ++ more))) t)
      → Reaches limit (at_item SubDimension d f (from n ((flat_map word subs ++ (word 0 ++ y)) ++ more))) t
  subs-path d f [] y t all fits rest =
      let next : Point = at_item Kind (with_field d f) f (from n (y ++ more)) in
      let same : f.sub_dimensions ++ [] ≡ f.sub_dimensions = append-nil f.sub_dimensions in
      let at : List ℕ → Point = λ x. let g : FieldDefinition = record f { sub_dimensions = x } in at_item Kind (with_field d g) g (from n (y ++ more)) in
      goes (word_item limit (from n ((word 0 ++ y) ++ more))) 0 (from n (y ++ more)) _ next t (word-next 0 y any (omega arith) refl fits) refl
      (subst (λ (x : List ℕ). Reaches limit (at x) t) same rest)
      (at_item SubDimension d f (from n ((word 0 ++ y) ++ more))) refl
  subs-path d f (w ∷ subs) y t all fits rest =
      let tail : List ℕ = flat_map word subs ++ (word 0 ++ y) in
      let g : FieldDefinition = record f { sub_dimensions = f.sub_dimensions ++ w ∷ [] } in
      let at : List ℕ → Point = λ x. let g : FieldDefinition = record f { sub_dimensions = x } in at_item Kind (with_field d g) g (from n (y ++ more)) in
      let regrouped : flat_map word (w ∷ subs) ++ (word 0 ++ y) ≡ word w ++ tail = ap (λ x. x ++ (word 0 ++ y)) (flat_map-cons word w subs) ∙ append_assoc (word w) (flat_map word subs) (word 0 ++ y) in
      let fits2 : Lies (word w ++ tail) = subst Lies regrouped fits in
      subst (λ (x : List ℕ). Reaches limit (at_item SubDimension d f (from n (x ++ more))) t) (sym regrouped)
      (sub-goes d f w tail t all.0 fits2
      (subs-path d g subs y t all.1 (Lies-tail (word w) tail fits2)
      (subst (λ (x : List ℕ). Reaches limit (at x) t) (sym (append_assoc f.sub_dimensions (w ∷ []) subs)) rest)))

  -- ---- a field

  -- a field's bytes and those after it, item by item
  abbrev field_with : FieldDefinition → List ℕ → List ℕ
  field_with f y =
      type_byte f ∷ (text f.name ++ (flat_map text f.aliases ++ (text [] ++ (text f.processing ++ (text f.units ++ (text f.description
      ++ (word f.begin ++ (word f.dimension ++ (flat_map word f.sub_dimensions ++ (word 0 ++ y))))))))))

  field-parts : (f : FieldDefinition) (y : List ℕ) → field_bytes f ++ y ≡ field_with f y
  field-parts f y = simp append_assoc refl

  -- the field while it is read, its type byte alone being read
  abbrev blank : FieldDefinition → FieldDefinition
  blank f = record { kind = f.kind; read_only = f.read_only; name = []; aliases = []; processing = []; units = []; description = []; begin = 0; dimension = 0; sub_dimensions = [] }

  begun-blank : (f : FieldDefinition) → f.kind < 128 → begun_field (type_byte f) ≡ blank f
  begun-blank f lt = go f.read_only
    where
      go : (b : Bool) → (let g : FieldDefinition = record f { read_only = b } in begun_field (type_byte g) ≡ blank g)
      go true = let k : (128 + f.kind) % 128 ≡ f.kind = omega arith in let high : leb 128 (128 + f.kind) ≡ true = le-leb _ _ (omega arith) in rw (k, high) refl
      go false = let k : (0 + f.kind) % 128 ≡ f.kind = omega arith in let low : leb 128 (0 + f.kind) ≡ false = lt-leb _ _ (omega arith) in rw (k, low) refl

  byte_below : (f : FieldDefinition) → f.kind < 128 → type_byte f < 2 ^ 8
  byte_below f lt = go f.read_only
    where
      go : (b : Bool) → cond b 128 0 + f.kind < 2 ^ 8
      go true = omega arith
      go false = omega arith

  byte_above : (f : FieldDefinition) → f.kind ≤ type_byte f
  byte_above f = omega arith

  field-path : (d : Definition) (f0 f : FieldDefinition) (y : List ℕ) → IsField f → length d.fields < fields_max → all_values d.fields + values f ≤ values_max → all_record_bytes d.fields + record_bytes f ≤ record_bytes_max
      → Lies (field_with f y) → Reaches limit (at_item Kind d f0 (from n (field_with f y ++ more))) (at_item Kind (with_field d f) f (from n (y ++ more)))
  field-path d f0 f y is count values_fit bytes_fit fits =
      let code = known_kind f.kind is.kind in
      let lt : f.kind < 128 = omega (arith, code.1) in
      let y10 : List ℕ = word 0 ++ y in
      let y9 : List ℕ = flat_map word f.sub_dimensions ++ y10 in
      let y8 : List ℕ = word f.dimension ++ y9 in
      let y7 : List ℕ = word f.begin ++ y8 in
      let y6 : List ℕ = text f.description ++ y7 in
      let y5 : List ℕ = text f.units ++ y6 in
      let y4 : List ℕ = text f.processing ++ y5 in
      let y3 : List ℕ = text [] ++ y4 in
      let y2 : List ℕ = flat_map text f.aliases ++ y3 in
      let y1 : List ℕ = text f.name ++ y2 in
      let l1 : Lies y1 = Lies-tail (type_byte f ∷ []) y1 fits in
      let l2 : Lies y2 = Lies-tail (text f.name) y2 l1 in
      let l3 : Lies y3 = Lies-tail (flat_map text f.aliases) y3 l2 in
      let l4 : Lies y4 = Lies-tail (text []) y4 l3 in
      let l5 : Lies y5 = Lies-tail (text f.processing) y5 l4 in
      let l6 : Lies y6 = Lies-tail (text f.units) y6 l5 in
      let l7 : Lies y7 = Lies-tail (text f.description) y7 l6 in
      let l8 : Lies y8 = Lies-tail (word f.begin) y8 l7 in
      let l9 : Lies y9 = Lies-tail (word f.dimension) y9 l8 in
      let at : List ℕ → Unread = λ b. from n (b ++ more) in
      let end : Point = at_item Kind (with_field d f) f (at y) in
      let g1 : FieldDefinition = record (blank f) { name = f.name } in
      let g2 : FieldDefinition = record g1 { aliases = f.aliases } in
      let g3 : FieldDefinition = record g2 { processing = f.processing } in
      let g4 : FieldDefinition = record g3 { units = f.units } in
      let g5 : FieldDefinition = record g4 { description = f.description } in
      let g6 : FieldDefinition = record g5 { begin = f.begin } in
      let g7 : FieldDefinition = record g6 { dimension = f.dimension } in
      let with : List FieldDefinition = d.fields ++ g7 ∷ [] in
      let has_values : leb (all_values with) values_max ≡ true = le-leb _ _ (omega (arith, all_values-last d.fields g7, values_fit)) in
      let has_bytes : leb (all_record_bytes with) record_bytes_max ≡ true = le-leb _ _ (omega (arith, all_record_bytes-last d.fields g7, bytes_fit)) in
      let dimension_fits : has_dimension d.fields g6 f.dimension ≡ true = rw (has_values, has_bytes) refl in
      let p9 : Reaches limit (at_item SubDimension d g7 (at y9)) end = subs-path d g7 f.sub_dimensions y end is.sub_dimensions l9 (Here end end refl) in
      let p8 : Reaches limit (at_item Dimension d g6 (at y8)) end = goes _ f.dimension (at y9) _ (at_item SubDimension d g7 (at y9)) end (word-next f.dimension y9 (has_dimension d.fields g6) is.dimension dimension_fits l8) refl p9 (at_item Dimension d g6 (at y8)) refl in
      let p7 : Reaches limit (at_item Begin d g5 (at y7)) end = goes _ f.begin (at y8) _ (at_item Dimension d g6 (at y8)) end (word-next f.begin y8 any is.begin refl l7) refl p8 (at_item Begin d g5 (at y7)) refl in
      let p6 : Reaches limit (at_item Description d g4 (at y6)) end = goes _ f.description (at y7) _ (at_item Begin d g5 (at y7)) end (text-next f.description y7 is.description l6) refl p7 (at_item Description d g4 (at y6)) refl in
      let p5 : Reaches limit (at_item Units d g3 (at y5)) end = goes _ f.units (at y6) _ (at_item Description d g4 (at y6)) end (text-next f.units y6 is.units l5) refl p6 (at_item Units d g3 (at y5)) refl in
      let p4 : Reaches limit (at_item Processing d g2 (at y4)) end = goes _ f.processing (at y5) _ (at_item Units d g3 (at y5)) end (text-next f.processing y5 is.processing l4) refl p5 (at_item Processing d g2 (at y4)) refl in
      let p2 : Reaches limit (at_item Alias d g1 (at y2)) end = aliases-path d g1 f.aliases y4 end is.aliases l2 p4 in
      let p1 : Reaches limit (at_item FieldName d (blank f) (at y1)) end = goes _ f.name (at y2) _ (at_item Alias d g1 (at y2)) end (text-next f.name y2 is.name l1) refl p2 (at_item FieldName d (blank f) (at y1)) refl in
      let byte_lt : type_byte f < 2 ^ 8 = byte_below f lt in
      let some : eqb (type_byte f) 0 ≡ false = ne_eqb _ 0 (λ z. omega (arith, z, code.0, byte_above f)) in
      let same_kind : type_byte f % 128 ≡ f.kind = ap (λ (g : FieldDefinition). g.kind) (begun-blank f lt) in
      let typed : is_type (type_byte f) ≡ true = rw (some, same_kind, is.kind) refl in
      let room_left : has_room (length d.fields) (type_byte f) ≡ true = rw (some, lt-ltb _ _ count) refl in
      let first : step limit (at_item Kind d f0 (at (type_byte f ∷ y1))) ≡ On (at_item FieldName d (blank f) (at y1)) =
      ap (λ r. leads r (λ b v. cond (eqb b 0) (Done (Ok (d, v))) (On (at_item FieldName d (begun_field b) v)))) (byte-next (type_byte f) y1 is_type (has_room (length d.fields)) byte_lt typed room_left fits)
      ∙ rw (some, begun-blank f lt) refl in
      Later _ _ _ first p1

  -- ---- a table

  -- some field is the last that was read
  abbrev AtFields : Definition → FieldDefinition → List ℕ → Definition → List ℕ → Type 0
  AtFields d f0 bytes e y = (f : FieldDefinition) × Reaches limit (at_item Kind d f0 (from n (bytes ++ more))) (at_item Kind e f (from n (y ++ more)))

  fields-path : (d : Definition) (f0 : FieldDefinition) (fields : List FieldDefinition) (y : List ℕ) → AllByRecursion IsField fields → length d.fields + length fields ≤ fields_max
      → all_values d.fields + all_values fields ≤ values_max → all_record_bytes d.fields + all_record_bytes fields ≤ record_bytes_max → Lies (flat_map field_bytes fields ++ y)
      → AtFields d f0 (flat_map field_bytes fields ++ y) (record d { fields = d.fields ++ fields }) y
  fields-path d f0 [] y all count values_fit bytes_fit fits =
      (f0, Here _ _ (ap (λ (x : List FieldDefinition). at_item Kind (record d { fields = x }) f0 (from n (y ++ more))) (sym (append-nil d.fields))))
  fields-path d f0 (f ∷ fields) y all count values_fit bytes_fit fits =
      let tail : List ℕ = flat_map field_bytes fields ++ y in
      let regrouped : flat_map field_bytes (f ∷ fields) ++ y ≡ field_with f tail =
      ap (λ x. x ++ y) (flat_map-cons field_bytes f fields) ∙ append_assoc (field_bytes f) (flat_map field_bytes fields) y ∙ field-parts f tail in
      let fits2 : Lies (field_with f tail) = subst Lies regrouped fits in
      let fits3 : Lies tail = Lies-tail (field_bytes f) tail (subst Lies (sym (field-parts f tail)) fits2) in
      let one : Reaches limit (at_item Kind d f0 (from n (field_with f tail ++ more))) (at_item Kind (with_field d f) f (from n (tail ++ more))) =
      field-path d f0 f tail all.0 (omega (arith, count)) (omega (arith, values_fit)) (omega (arith, bytes_fit)) fits2 in
      let rest = fields-path (with_field d f) f fields y all.1 (omega (arith, count, length-append d.fields (f ∷ []))) (omega (arith, values_fit, all_values-last d.fields f)) (omega (arith, bytes_fit, all_record_bytes-last d.fields f)) fits3 in
      let same : (d.fields ++ f ∷ []) ++ fields ≡ d.fields ++ f ∷ fields = append_assoc d.fields (f ∷ []) fields in
      let whole : AtFields d f0 (field_with f tail) (record d { fields = (d.fields ++ f ∷ []) ++ fields }) y = (rest.0, Reaches-then limit _ _ _ one rest.1) in
      subst (λ (b : List ℕ). AtFields d f0 b (record d { fields = d.fields ++ f ∷ fields }) y) (sym regrouped)
      (subst (λ (x : List FieldDefinition). AtFields d f0 (field_with f tail) (record d { fields = x }) y) same whole)

  table-path : (d : Definition) → IsFormed d → length d.fields ≤ fields_max → all_values d.fields ≤ values_max → all_record_bytes d.fields ≤ record_bytes_max → Lies (table_bytes d)
      → ComesTo limit (table_begins (from n (table_bytes d ++ more))) (Ok (d, from n more))
  table-path d is count values_fit bytes_fit fits =
      let y6 : List ℕ = 0 ∷ [] in
      let y5 : List ℕ = flat_map field_bytes d.fields ++ y6 in
      let y4 : List ℕ = time_bytes d.interval ++ y5 in
      let y3 : List ℕ = time_bytes d.into ++ y4 in
      let y2 : List ℕ = d.time_type ∷ y3 in
      let y1 : List ℕ = word d.size ++ y2 in
      let l1 : Lies y1 = Lies-tail (text d.name) y1 fits in
      let l2 : Lies y2 = Lies-tail (word d.size) y2 l1 in
      let l3 : Lies y3 = Lies-tail (d.time_type ∷ []) y3 l2 in
      let l4 : Lies y4 = Lies-tail (time_bytes d.into) y4 l3 in
      let l5 : Lies y5 = Lies-tail (time_bytes d.interval) y5 l4 in
      let l6 : Lies y6 = Lies-tail (flat_map field_bytes d.fields) y6 l5 in
      let at : List ℕ → Unread = λ b. from n (b ++ more) in
      let f0 : FieldDefinition = begun_field 0 in
      let d1 : Definition = record no_table { name = d.name } in
      let d2 : Definition = record d1 { size = d.size } in
      let d3 : Definition = record d2 { time_type = d.time_type } in
      let d4 : Definition = record d3 { into = d.into } in
      let d5 : Definition = record d4 { interval = d.interval } in
      let fields = fields-path d5 f0 d.fields y6 is.fields (omega (arith, count)) (omega (arith, values_fit)) (omega (arith, bytes_fit)) l5 in
      let last : Point = at_item Kind d fields.0 (at y6) in
      let p5 : Reaches limit (at_item Kind d5 f0 (at y5)) last = fields.1 in
      let p4 : Reaches limit (at_item Interval d4 f0 (at y4)) last = goes _ d.interval (at y5) _ (at_item Kind d5 f0 (at y5)) last (time-next d.interval y5 is_interval is.interval.0 is.interval.1 l4) refl p5 (at_item Interval d4 f0 (at y4)) refl in
      let p3 : Reaches limit (at_item Into d3 f0 (at y3)) last = goes _ d.into (at y4) _ (at_item Interval d4 f0 (at y4)) last (time-next d.into y4 any is.into refl l3) refl p4 (at_item Into d3 f0 (at y3)) refl in
      let p2 : Reaches limit (at_item TimeType d2 f0 (at y2)) last = goes _ d.time_type (at y3) _ (at_item Into d3 f0 (at y3)) last (byte-next d.time_type y3 any any is.time_type refl refl l2) refl p3 (at_item TimeType d2 f0 (at y2)) refl in
      let p1 : Reaches limit (at_item Size d1 f0 (at y1)) last = goes _ d.size (at y2) _ (at_item TimeType d2 f0 (at y2)) last (word-next d.size y2 any is.size refl l1) refl p2 (at_item Size d1 f0 (at y1)) refl in
      let p0 : Reaches limit (table_begins (at (table_bytes d))) last = goes _ d.name (at y1) _ (at_item Size d1 f0 (at y1)) last (text-next d.name y1 is.name fits) refl p1 (table_begins (at (table_bytes d))) refl in
      record {
        last = last;
        items = p0;
        ends = ap (λ r. leads r (λ b v. cond (eqb b 0) (Done (Ok (d, v))) (On (at_item FieldName d (begun_field b) v)))) (byte-next 0 [] is_type (has_room (length d.fields)) (omega arith) refl refl l6);
      }

-- A table's bytes that end at the limit or before it are read to their end.
pub table-comes : (limit at : ℕ) (d : Definition) (more : List ℕ) → IsFormed d → IsWithin d → at + length (table_bytes d) ≤ limit
    → ComesTo limit (table_begins (unread at (table_bytes d ++ more))) (Ok (d, unread (at + length (table_bytes d)) more))
table-comes limit at d more is within fits =
    let n : ℕ = at + length (table_bytes d ++ more) in
    let len = length-append (table_bytes d) more in
    let begin : n - length (table_bytes d ++ more) ≡ at = omega arith in
    let end : n - length more ≡ at + length (table_bytes d) = omega (arith, len) in
    let whole = table-path limit n more (omega (arith, end, fits)) d is within.fields within.values within.record_bytes (omega arith) in
    subst (λ (a : ℕ). ComesTo limit (table_begins (unread a (table_bytes d ++ more))) (Ok (d, unread (at + length (table_bytes d)) more))) begin
    (subst (λ (a : ℕ). ComesTo limit (table_begins (from n (table_bytes d ++ more))) (Ok (d, unread a more))) end whole)
