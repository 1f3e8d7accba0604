-- The shapes of the values that are left, and the values that are cut by them.
use Rattle.std.proofs.Common.{◌≡◌, ◌≢◌, ◌⊎◌, inl, inr, Option, None, IsTrue, is_some, flat_map, ◌||◌, ℕ, zero, suc, ◌+◌, ◌-◌, ◌*◌, ◌<◌, Bool, true, false, cond, List, [], ◌∷◌, ◌++◌, Some, Ok, Err, take, drop, length, map, replicate, refl, sym, ap, subst, ◌∙◌, arith}
use Rattle.std.specs.Prelude.{slice_get, ◌==◌}
use Rattle.std.specs.List.{AllByRecursion}
use Rattle.std.specs.Option.{unwrap_or}
use Rattle.std.proofs.lemmas.Bool.{eqb-true, eqb-false}
use Rattle.std.proofs.lemmas.List.Concat.{flat_map-cons}
use Rattle.std.proofs.lemmas.List.{length-drop, take-append-drop, length-take-le}
use Rattle.pb_tdf.specs.Kinds.{ascii, asciiz, value_bytes}
use Rattle.pb_tdf.specs.Definition.{FieldDefinition, Definition, IsField, record_bytes, all_record_bytes, has_asciiz}
use Rattle.pb_tdf.specs.View.{FieldView, TableView, IsDefined, field_view, layout_of, no_layout, is_event}
use Rattle.pb_value.specs.declared.record_values.Run.{Run}
use Rattle.pb_value.specs.Values.{Shape, ValueView, shape, field_shapes, shapes, bytes_of, cut, HasRecordLen, IsRecordOf}
use Rattle.pb_value.specs.ValueText.{HasText}
use Rattle.pb_value.specs.Inside.Runs.{run_shapes, shapes_left}

pub shapes-field : (fields : List FieldView) (at : ℕ) (f : FieldView) → slice_get fields at ≡ Some f
    → shapes (drop at fields) ≡ field_shapes f ++ shapes (drop (at + 1) fields)
shapes-field [] at f h = absurd (let none : ⊥ = cc in none)
shapes-field (g ∷ fields) zero f h =
    let same : g ≡ f = cc in
    flat_map-cons field_shapes g fields ∙ ap (λ x. field_shapes x ++ shapes fields) same
shapes-field (g ∷ fields) (suc at) f h = let more : suc at + 1 ≡ suc (at + 1) = omega arith in rw more (shapes-field fields at f h)

pub run_shapes-none : (run : Run) → run.count ≡ 0 → run_shapes run ≡ []
run_shapes-none run none = ap (λ n. replicate n (shape run.kind run.len)) none

-- the first of a run
pub shapes_left-first : (run : Run) (at : ℕ) (fields : List FieldView) → 0 < run.count
    → shapes_left run at fields ≡ shape run.kind run.len ∷ shapes_left (record { kind = run.kind; len = run.len; count = run.count - 1 }) at fields
shapes_left-first run at fields some =
    let more : run.count ≡ suc (run.count - 1) = omega arith in
    ap (λ n. replicate n (shape run.kind run.len) ++ shapes (drop at fields)) more

pub cut-first : (all rest : List Shape) (s : Shape) (bytes : List ℕ) → all ≡ s ∷ rest
    → cut all bytes ≡ (let v : ValueView = record { kind = s.kind; bytes = take s.len bytes } in v) ∷ cut rest (drop s.len bytes)
cut-first all rest s bytes is = ap (λ l. cut l bytes) is

bytes_of-append : (a b : List Shape) → bytes_of (a ++ b) ≡ bytes_of a + bytes_of b
bytes_of-append [] b = omega arith
bytes_of-append (s ∷ a) b = omega (arith, bytes_of-append a b)

bytes_of-replicate : (n : ℕ) (s : Shape) → bytes_of (replicate n s) ≡ s.len * n
bytes_of-replicate zero s = omega arith
bytes_of-replicate (suc n) s = grind (arith, bytes_of-replicate n s)

field_shapes-bytes : (f : FieldDefinition) → bytes_of (field_shapes (field_view f)) ≡ record_bytes f
field_shapes-bytes f = go (f.kind == ascii) refl
  where
    go : (b : Bool) → (f.kind == ascii) ≡ b
        → bytes_of (cond b (shape f.kind f.dimension ∷ []) (replicate f.dimension (shape f.kind (unwrap_or (value_bytes f.kind) 0)))) ≡ record_bytes f
    go true e = rw (eqb-true f.kind ascii e) (omega arith)
    go false e = bytes_of-replicate f.dimension (shape f.kind (unwrap_or (value_bytes f.kind) 0))

shapes-bytes : (fields : List FieldDefinition) → bytes_of (shapes (map field_view fields)) ≡ all_record_bytes fields
shapes-bytes [] = refl
shapes-bytes (f ∷ fields) =
    ap bytes_of (flat_map-cons field_shapes (field_view f) (map field_view fields))
    ∙ bytes_of-append (field_shapes (field_view f)) (shapes (map field_view fields))
    ∙ (let first = field_shapes-bytes f in let rest = shapes-bytes fields in cc)

layout-bytes : (d : Definition) (n : ℕ) → HasRecordLen (layout_of d) n → n ≡ all_record_bytes d.fields
layout-bytes d n has = go (has_asciiz d.fields) has
  where
    go : (b : Bool)
        → HasRecordLen (cond b (Err no_layout) (Ok (record { record_len = all_record_bytes d.fields; event = is_event d.interval; interval = d.interval }))) n
        → n ≡ all_record_bytes d.fields
    go true h = absurd h
    go false h = h

-- the values of a record have all of its bytes
pub record-bytes : (table : TableView) (bytes : List ℕ) → IsDefined table → IsRecordOf table bytes → bytes_of (shapes table.fields) ≡ length bytes
record-bytes table bytes is has =
    let d : Definition = is.0 in
    let fits : HasRecordLen (layout_of d) (length bytes) = subst (λ (t : TableView). IsRecordOf t bytes) is.2 has in
    ap (λ (t : TableView). bytes_of (shapes t.fields)) is.2 ∙ shapes-bytes d.fields ∙ sym (layout-bytes d (length bytes) fits)

-- ---- what the values of a record are

pub cut-whole : (all : List Shape) (bytes : List ℕ) → bytes_of all ≡ length bytes → flat_map (λ v. v.bytes) (cut all bytes) ≡ bytes
cut-whole [] [] fits = refl
cut-whole [] (x ∷ bytes) fits = absurd (omega arith)
cut-whole (s ∷ all) bytes fits =
    let rest : bytes_of all ≡ length (drop s.len bytes) = omega (arith, length-drop s.len bytes) in
    let first : ValueView = record { kind = s.kind; bytes = take s.len bytes } in
    flat_map-cons (λ (v : ValueView). v.bytes) first (cut all (drop s.len bytes)) ∙ ap (λ l. take s.len bytes ++ l) (cut-whole all (drop s.len bytes) rest) ∙ take-append-drop s.len bytes

-- values of the shape have texts
HasShape : Shape → Type 0
HasShape s = (s.kind ≡ ascii) ⊎ ((s.kind ≢ asciiz) × (value_bytes s.kind ≡ Some s.len))

cut-texts : (all : List Shape) (bytes : List ℕ) → AllByRecursion HasShape all → bytes_of all ≡ length bytes → AllByRecursion HasText (cut all bytes)
unfolding HasShape
cut-texts [] bytes each fits = tt
cut-texts (s ∷ all) bytes each fits =
    let long : length (take s.len bytes) ≡ s.len = length-take-le s.len bytes (omega arith) in
    let rest : bytes_of all ≡ length (drop s.len bytes) = omega (arith, length-drop s.len bytes) in (
      elim each.0 [ inl is ↦ inl is | inr known ↦ inr (known.0, known.1 ∙ ap Some (sym long)) ],
      cut-texts all (drop s.len bytes) each.1 rest,
    )

all-append : (a b : List Shape) → AllByRecursion HasShape a → AllByRecursion HasShape b → AllByRecursion HasShape (a ++ b)
all-append [] b p q = q
all-append (s ∷ a) b p q = (p.0, all-append a b p.1 q)

all-replicate : (n : ℕ) (s : Shape) → HasShape s → AllByRecursion HasShape (replicate n s)
all-replicate zero s h = tt
all-replicate (suc n) s h = (h, all-replicate n s h)

field-shapes : (f : FieldDefinition) → IsField f → (f.kind == asciiz) ≡ false → AllByRecursion HasShape (field_shapes (field_view f))
unfolding HasShape
field-shapes f is plain = go (f.kind == ascii) refl (value_bytes f.kind) refl is.kind
  where
    go : (b : Bool) → (f.kind == ascii) ≡ b → (w : Option ℕ) → value_bytes f.kind ≡ w → IsTrue (is_some w)
        → AllByRecursion HasShape (cond b (shape f.kind f.dimension ∷ []) (replicate f.dimension (shape f.kind (unwrap_or (value_bytes f.kind) 0))))
    go true e w we some = (inl (eqb-true f.kind ascii e), tt)
    go false e None we some = absurd (let no : ⊥ = cc in no)
    go false e (Some n) we some =
        all-replicate f.dimension (shape f.kind (unwrap_or (value_bytes f.kind) 0)) (inr (eqb-false f.kind asciiz plain, we ∙ ap (λ v. Some (unwrap_or v 0)) (sym we)))

all-shapes : (fields : List FieldDefinition) → AllByRecursion IsField fields → has_asciiz fields ≡ false → AllByRecursion HasShape (shapes (map field_view fields))
all-shapes [] is plain = tt
all-shapes (f ∷ fields) is plain =
    let both = or-false (f.kind == asciiz) (has_asciiz fields) plain in
    rw (flat_map-cons field_shapes (field_view f) (map field_view fields))
    (all-append (field_shapes (field_view f)) (shapes (map field_view fields)) (field-shapes f is.0 both.0) (all-shapes fields is.1 both.1))
  where
    or-false : (a b : Bool) → (a || b) ≡ false → (a ≡ false) × (b ≡ false)
    or-false true b e = absurd (let no : ⊥ = cc in no)
    or-false false b e = (refl, e)

plain-layout : (d : Definition) (n : ℕ) → HasRecordLen (layout_of d) n → has_asciiz d.fields ≡ false
plain-layout d n has = go (has_asciiz d.fields) has
  where
    go : (b : Bool)
        → HasRecordLen (cond b (Err no_layout) (Ok (record { record_len = all_record_bytes d.fields; event = is_event d.interval; interval = d.interval }))) n
        → b ≡ false
    go true h = absurd h
    go false h = refl

pub record-texts : (table : TableView) (bytes : List ℕ) → IsDefined table → IsRecordOf table bytes → AllByRecursion HasText (cut (shapes table.fields) bytes)
record-texts table bytes is has =
    let d : Definition = is.0 in
    let fits : HasRecordLen (layout_of d) (length bytes) = subst (λ (t : TableView). IsRecordOf t bytes) is.2 has in
    let all : AllByRecursion HasShape (shapes table.fields) =
    subst (λ (t : TableView). AllByRecursion HasShape (shapes t.fields)) (sym is.2) (all-shapes d.fields is.1.formed.fields (plain-layout d (length bytes) fits)) in
    cut-texts (shapes table.fields) bytes all (record-bytes table bytes is has)
