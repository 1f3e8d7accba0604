-- What is kept of a table is seen as its definition says.
use Rattle.std.proofs.Common.{◌≡◌, ℕ, ◌+◌, ◌-◌, ◌%◌, ◌≤◌, ◌<◌, Bool, true, false, cond, leb, List, [], ◌∷◌, ◌++◌, length, take, drop, map, Result, refl, sym, ap, subst, ◌∙◌, append_assoc, arith}
use Rattle.std.specs.Prelude.{slice_index}
use Rattle.std.specs.List.{AllByRecursion, flat_map}
use Rattle.std.proofs.lemmas.Bool.{lt-leb, le-leb}
use Rattle.std.proofs.lemmas.List.{append-nil, length-append, take_at, drop_at, get_or_at}
use Rattle.std.proofs.lemmas.List.Concat.{flat_map-cons}
use Rattle.pb_base.specs.declared.layout.Layout.{Layout}
use Rattle.pb_base.specs.Time.{time_bytes}
use Rattle.pb_base.specs.Fields.{IsBytes}
use Rattle.pb_frame.specs.Signature.{start, sig}
use Rattle.pb_tdf.specs.declared.fault.Uncollectable.{Uncollectable}
use Rattle.pb_tdf.specs.declared.place.FieldPlace.{FieldPlace}
use Rattle.pb_tdf.specs.declared.reading.Parts.{Parts}
use Rattle.pb_tdf.specs.Definition.{Definition, FieldDefinition, text, word, type_byte, field_bytes, table_bytes, IsField, IsTable, table_bytes_max}
use Rattle.pb_tdf.specs.Inside.Items.{Limited}
use Rattle.pb_tdf.specs.Inside.Progress.{header, to_fields}
use Rattle.pb_tdf.specs.View.{TableView, FieldView, view_of, field_view, signature_of, layout_of}
use Rattle.pb_tdf.specs.Inside.Kept.{IsPlace, ArePlaces, field_at, Lies, IsKept}
use Rattle.pb_tdf.specs.Inside.Passing.{PassesTable, summed_layout}
use Rattle.pb_tdf.proofs.PathLemmas.{known_kind}
use Rattle.pb_tdf.proofs.EndLemmas.{HasEnded, has_ended, whole_table}

-- ---- one field

-- what follows a field's name
abbrev after_name : FieldDefinition → List ℕ
after_name f =
    0 ∷ (flat_map text f.aliases ++ (text [] ++ (text f.processing ++ (text f.units ++ (text f.description ++ (word f.begin ++ (word f.dimension ++ (flat_map word f.sub_dimensions ++ word 0))))))))

named : (f : FieldDefinition) (rest : List ℕ) → field_bytes f ++ rest ≡ type_byte f ∷ (f.name ++ (after_name f ++ rest))
named f rest = simp append_assoc refl

type-kind : (f : FieldDefinition) → f.kind < 128 → type_byte f % 128 ≡ f.kind
type-kind f lt = go f.read_only
  where
    go : (b : Bool) → (cond b 128 0 + f.kind) % 128 ≡ f.kind
    go true = omega arith
    go false = omega arith

type-read_only : (f : FieldDefinition) → f.kind < 128 → leb 128 (type_byte f) ≡ f.read_only
type-read_only f lt = go f.read_only
  where
    go : (b : Bool) → leb 128 (cond b 128 0 + f.kind) ≡ b
    go true = le-leb _ _ (omega arith)
    go false = lt-leb _ _ (omega arith)

same-field : (k k2 : ℕ) (r r2 : Bool) (n n2 : List ℕ) (d d2 : ℕ) → k ≡ k2 → r ≡ r2 → n ≡ n2 → d ≡ d2
    → (let a : FieldView = record { kind = k; read_only = r; name = n; dimension = d } in let b : FieldView = record { kind = k2; read_only = r2; name = n2; dimension = d2 } in a ≡ b)
same-field k k2 r r2 n n2 d d2 ek er en ed = rw (ek, er, en, ed) refl

-- what a table's bytes have at a field's place is the field
view-at : (before : List ℕ) (f : FieldDefinition) (rest : List ℕ) (place : FieldPlace) → IsField f → IsPlace (length before) f place → field_at (before ++ (field_bytes f ++ rest)) place ≡ field_view f
view-at before f rest place is at =
    let lt : f.kind < 128 = let k = known_kind f.kind is.kind in omega (arith, k.1) in
    let tail : List ℕ = f.name ++ (after_name f ++ rest) in
    let bytes : List ℕ = before ++ type_byte f ∷ tail in
    let same : before ++ (field_bytes f ++ rest) ≡ bytes = ap (λ x. before ++ x) (named f rest) in
    let first : slice_index bytes place.at ≡ type_byte f = get_or_at before (type_byte f) tail 0 place.at (sym at.begins) in
    let regrouped : bytes ≡ (before ++ type_byte f ∷ []) ++ tail = sym (append_assoc before (type_byte f ∷ []) tail) in
    let behind : drop (place.at + 1) bytes ≡ tail = ap (drop (place.at + 1)) regrouped ∙ drop_at (before ++ type_byte f ∷ []) tail (place.at + 1) (omega (arith, at.begins, length-append before (type_byte f ∷ []))) in
    let name : take place.name_len (drop (place.at + 1) bytes) ≡ f.name = ap (take place.name_len) behind ∙ take_at f.name (after_name f ++ rest) place.name_len (sym at.name_len) in
    ap (λ (b : List ℕ). field_at b place) same
    ∙ same-field _ f.kind _ f.read_only _ f.name _ f.dimension (ap (λ (x : ℕ). x % 128) first ∙ type-kind f lt) (ap (λ (x : ℕ). leb 128 x) first ∙ type-read_only f lt) name at.dimension

-- ---- all fields

more-before : (before : List ℕ) (f : FieldDefinition) (fields : List FieldDefinition) (rest : List ℕ)
    → before ++ (flat_map field_bytes (f ∷ fields) ++ rest) ≡ (before ++ field_bytes f) ++ (flat_map field_bytes fields ++ rest)
more-before before f fields rest =
    ap (λ x. before ++ (x ++ rest)) (flat_map-cons field_bytes f fields) ∙ ap (λ x. before ++ x) (append_assoc (field_bytes f) (flat_map field_bytes fields) rest)
    ∙ sym (append_assoc before (field_bytes f) (flat_map field_bytes fields ++ rest))

one-before : (before : List ℕ) (f : FieldDefinition) (fields : List FieldDefinition) (rest : List ℕ)
    → before ++ (flat_map field_bytes (f ∷ fields) ++ rest) ≡ before ++ (field_bytes f ++ (flat_map field_bytes fields ++ rest))
one-before before f fields rest = more-before before f fields rest ∙ append_assoc before (field_bytes f) (flat_map field_bytes fields ++ rest)

all-views : (before : List ℕ) (fields : List FieldDefinition) (rest : List ℕ) (places : List FieldPlace) → AllByRecursion IsField fields → ArePlaces (length before) fields places
    → map (field_at (before ++ (flat_map field_bytes fields ++ rest))) places ≡ map field_view fields
all-views before [] rest [] all are = refl
all-views before [] rest (p ∷ places) all are = absurd are
all-views before (f ∷ fields) rest [] all are = absurd are
all-views before (f ∷ fields) rest (p ∷ places) all are =
    let bytes : List ℕ = before ++ (flat_map field_bytes (f ∷ fields) ++ rest) in
    let first : field_at bytes p ≡ field_view f = ap (λ (b : List ℕ). field_at b p) (one-before before f fields rest) ∙ view-at before f (flat_map field_bytes fields ++ rest) p all.0 are.0 in
    let later : ArePlaces (length (before ++ field_bytes f)) fields places = subst (λ (n : ℕ). ArePlaces n fields places) (sym (length-append before (field_bytes f))) are.1 in
    let others : map (field_at bytes) places ≡ map field_view fields = ap (λ (b : List ℕ). map (field_at b) places) (more-before before f fields rest) ∙ all-views (before ++ field_bytes f) fields rest places all.1 later in
    ap (λ x. x ∷ map (field_at bytes) places) first ∙ ap (λ x. field_view f ∷ x) others

all-lie : (at : ℕ) (fields : List FieldDefinition) (places : List FieldPlace) (len : ℕ) → ArePlaces at fields places → at + length (flat_map field_bytes fields) ≤ len → AllByRecursion (Lies len) places
all-lie at [] [] len are fits = tt
all-lie at [] (p ∷ places) len are fits = absurd are
all-lie at (f ∷ fields) [] len are fits = absurd are
all-lie at (f ∷ fields) (p ∷ places) len are fits =
    let whole : length (flat_map field_bytes (f ∷ fields)) ≡ length (field_bytes f) + length (flat_map field_bytes fields) = ap length (flat_map-cons field_bytes f fields) ∙ length-append (field_bytes f) (flat_map field_bytes fields) in
    let parts : length (field_bytes f) ≡ length (type_byte f ∷ (f.name ++ (after_name f ++ []))) = ap length (sym (append-nil (field_bytes f)) ∙ named f []) in
    let name = length-append f.name (after_name f ++ []) in
    (omega (arith, are.0.begins, are.0.name_len, whole, parts, name, fits), all-lie (at + length (field_bytes f)) fields places len are.1 (omega (arith, whole, fits)))

-- ---- the table

fields-part : (d : Definition) → table_bytes d ≡ header d ++ (flat_map field_bytes d.fields ++ 0 ∷ [])
fields-part d = sym (append-nil (table_bytes d)) ∙ sym (whole_table d []) ∙ append-nil (to_fields d ++ 0 ∷ []) ∙ append_assoc (header d) (flat_map field_bytes d.fields) (0 ∷ [])

name-part : (d : Definition) → take (length d.name) (table_bytes d) ≡ d.name
name-part d =
    let rest : List ℕ = 0 ∷ (word d.size ++ d.time_type ∷ (time_bytes d.into ++ (time_bytes d.interval ++ (flat_map field_bytes d.fields ++ 0 ∷ [])))) in
    ap (take (length d.name)) (append_assoc d.name (0 ∷ []) (word d.size ++ d.time_type ∷ (time_bytes d.into ++ (time_bytes d.interval ++ (flat_map field_bytes d.fields ++ 0 ∷ [])))))
    ∙ take_at d.name rest (length d.name) refl

same-view : (b b2 n n2 : List ℕ) (s s2 g g2 : ℕ) (l l2 : Result Layout Uncollectable) (f f2 : List FieldView) → b ≡ b2 → n ≡ n2 → s ≡ s2 → g ≡ g2 → l ≡ l2 → f ≡ f2
    → (let x : TableView = record { bytes = b; name = n; size = s; signature = g; layout = l; fields = f } in let y : TableView = record { bytes = b2; name = n2; size = s2; signature = g2; layout = l2; fields = f2 } in x ≡ y)
same-view b b2 n n2 s s2 g g2 l l2 f f2 eb en es eg el ef = rw (eb, en, es, eg, el, ef) refl

module _ (kept : List ℕ) (name_len size signature : ℕ) (layout : Result Layout Uncollectable) (places : List FieldPlace) (k : IsKept kept name_len size signature layout places) where
  pub kept-view : (let x : TableView = record { bytes = kept; name = take name_len kept; size = size; signature = signature; layout = layout; fields = map (field_at kept) places } in x ≡ view_of k.definition)
  kept-view =
      let d : Definition = k.definition in
      same-view kept (table_bytes d) (take name_len kept) d.name size d.size signature (signature_of d) layout (layout_of d) (map (field_at kept) places) (map field_view d.fields) k.same_bytes
      (ap (λ x. take x kept) k.same_name_len ∙ ap (take (length d.name)) k.same_bytes ∙ name-part d) k.same_size k.same_signature k.same_layout
      (ap (λ (b : List ℕ). map (field_at b) places) (k.same_bytes ∙ fields-part d) ∙ all-views (header d) d.fields (0 ∷ []) places k.is.formed.fields k.located)

  pub kept-lie : AllByRecursion (Lies (length kept)) places
  kept-lie =
      let d : Definition = k.definition in
      let len : length kept ≡ length (header d) + length (flat_map field_bytes d.fields ++ 0 ∷ []) = ap length (k.same_bytes ∙ fields-part d) ∙ length-append (header d) (flat_map field_bytes d.fields ++ 0 ∷ []) in
      all-lie (length (header d)) d.fields places (length kept) k.located (omega (arith, len, length-append (flat_map field_bytes d.fields) (0 ∷ [])))

-- ---- a table that was read

module _ (old new : Limited) (parts : Parts) (t : PassesTable old new parts) (fits : IsBytes old.left.rest) where
  pub ended : HasEnded old.left.rest old.left.at old.limit (t.table, new.left)
  ended = has_ended old.limit old.left (t.table, new.left) fits t.ends

  pub table-prefix : take (length old.left.rest - length new.left.rest) old.left.rest ≡ table_bytes t.table
  table-prefix =
      let len : length old.left.rest ≡ length (table_bytes t.table) + length new.left.rest = ap length ended.parts ∙ length-append (table_bytes t.table) new.left.rest in
      ap (take (length old.left.rest - length new.left.rest)) ended.parts ∙ take_at (table_bytes t.table) new.left.rest (length old.left.rest - length new.left.rest) (omega (arith, len))

  pub is-table : old.limit ≤ old.left.at + table_bytes_max → IsTable t.table
  is-table near =
      record {
        formed = ended.table.formed;
        within = record { fields = ended.table.fields; values = ended.table.values; record_bytes = ended.table.record_bytes; bytes = omega (arith, ended.at, ended.below, near) };
        same = refl;
      }

  pub summed_layout-is : summed_layout parts.totals parts.header.interval ≡ layout_of t.table
  summed_layout-is = rw (← t.sums.uncollectable, ← t.sums.record_bytes, t.interval) refl

  pub makes-kept : (bytes : List ℕ) (signature : ℕ) (layout : Result Layout Uncollectable) → old.limit ≤ old.left.at + table_bytes_max → bytes ≡ take (length old.left.rest - length new.left.rest) old.left.rest
      → signature ≡ sig bytes start → layout ≡ summed_layout parts.totals parts.header.interval → IsKept bytes parts.header.name_len parts.header.size signature layout parts.places.items
  makes-kept bytes signature layout near same signed cut =
      record {
        definition = t.table;
        is = is-table near;
        same_bytes = same ∙ table-prefix;
        same_name_len = t.name_len;
        same_size = t.size;
        same_signature = signed ∙ ap (λ (b : List ℕ). sig b start) (same ∙ table-prefix);
        same_layout = cut ∙ summed_layout-is;
        located = t.located;
      }

  pub made-view : (bytes : List ℕ) (signature : ℕ) (layout : Result Layout Uncollectable) (near : old.limit ≤ old.left.at + table_bytes_max) (same : bytes ≡ take (length old.left.rest - length new.left.rest) old.left.rest)
      (signed : signature ≡ sig bytes start) (cut : layout ≡ summed_layout parts.totals parts.header.interval)
      → (let x : TableView = record { bytes = bytes; name = take parts.header.name_len bytes; size = parts.header.size; signature = signature; layout = layout; fields = map (field_at bytes) parts.places.items } in x ≡ view_of t.table)
  unfolding makes-kept
  made-view bytes signature layout near same signed cut =
      kept-view bytes parts.header.name_len parts.header.size signature layout parts.places.items (makes-kept bytes signature layout near same signed cut)
