-- Columns that are added one after another.
use Rattle.std.proofs.Common.{◌≡◌, ℕ, zero, suc, ◌+◌, ◌<◌, List, [], ◌∷◌, ◌++◌, map, take, length, Some, None, refl, sym, ap, subst, ◌∙◌, append_assoc, add-one, arith}
use Rattle.std.specs.Prelude.{slice_get}
use Rattle.std.proofs.lemmas.List.{append-nil, take_more}
use Rattle.std.proofs.lemmas.Grind.{flat_map-append}
use Rattle.std.proofs.lemmas.Option.{slice_get_within, get_or_from_slice_get}
use Rattle.csv.specs.Writing.{comma, default_writer, field_text, fields_text}
use Rattle.csv.specs.declared.writer.WriterBuilder.{WriterBuilder}
use Rattle.pb_tdf.specs.View.{FieldView}
use Rattle.pb_csv.specs.CsvText.{empty_field, names_of, numbered_name, numbered_names, value_names}
use Rattle.pb_csv.specs.Inside.{HasNames}
use Rattle.pb_csv.specs.declared.columns.Columns.{Columns}

pub fields_text-push : (cfg : WriterBuilder) (xs : List (List ℕ)) (x : List ℕ) → fields_text cfg (xs ++ x ∷ []) ≡ fields_text cfg xs ++ cfg.delimiter ∷ field_text cfg x
unfolding fields_text
fields_text-push cfg [] x = ap (λ l. cfg.delimiter ∷ l) (append-nil (field_text cfg x))
fields_text-push cfg (y ∷ xs) x =
    ap (λ l. cfg.delimiter ∷ (field_text cfg y ++ l)) (fields_text-push cfg xs x)
    ∙ ap (λ l. cfg.delimiter ∷ l) (sym (append_assoc (field_text cfg y) (fields_text cfg xs) (cfg.delimiter ∷ field_text cfg x)))

pub fields_text-none : (cfg : WriterBuilder) → fields_text cfg [] ≡ []
unfolding fields_text
fields_text-none cfg = refl

map-push : {A B : Type 0} (f : A → B) (xs : List A) (x : A) → map f (xs ++ x ∷ []) ≡ map f xs ++ f x ∷ []
map-push f [] x = refl
map-push f (y ∷ xs) x = ap (λ l. f y ∷ l) (map-push f xs x)

pub HasNames-push : (old new : Columns) (names : List (List ℕ)) (name : List ℕ) → HasNames old names → new.names.items ≡ old.names.items ++ comma ∷ field_text default_writer name
    → new.empties.items ≡ old.empties.items ++ comma ∷ [] → HasNames new (names ++ name ∷ [])
HasNames-push old new names name has named emptied = record {
  names_are = named ∙ ap (λ l. l ++ comma ∷ field_text default_writer name) has.names_are ∙ sym (fields_text-push default_writer names name);
  empties_are = emptied ∙ ap (λ l. l ++ comma ∷ []) has.empties_are ∙ sym (fields_text-push default_writer (map empty_field names) [])
      ∙ ap (fields_text default_writer) (sym (map-push empty_field names name));
}

pub HasNames-none : (c : Columns) → c.names.items ≡ [] → c.empties.items ≡ [] → HasNames c []
HasNames-none c named emptied = record { names_are = named ∙ sym (fields_text-none default_writer); empties_are = emptied ∙ sym (fields_text-none default_writer) }

pub HasNames-nothing : (c : Columns) (names : List (List ℕ)) → HasNames c names → HasNames c (names ++ [])
HasNames-nothing c names has = subst (HasNames c) (sym (append-nil names)) has

-- one number more
pub HasNames-number : (c : Columns) (names : List (List ℕ)) (name : List ℕ) (n : ℕ) → HasNames c ((names ++ numbered_names name n) ++ numbered_name name (n + 1) ∷ []) → HasNames c (names ++ numbered_names name (n + 1))
HasNames-number c names name n has =
    let next : numbered_names name (n + 1) ≡ numbered_names name n ++ numbered_name name (n + 1) ∷ [] =
    ap (numbered_names name) (add-one n) ∙ ap (λ k. numbered_names name n ++ numbered_name name k ∷ []) (sym (add-one n)) in
    subst (HasNames c) (append_assoc names (numbered_names name n) (numbered_name name (n + 1) ∷ []) ∙ ap (λ l. names ++ l) (sym next)) has

-- one field more
names-next : (fields : List FieldView) (i : ℕ) (f : FieldView) → slice_get fields i ≡ Some f → value_names (take (i + 1) fields) ≡ value_names (take i fields) ++ names_of f
names-next fields i f is =
    ap value_names (take-here fields i f is) ∙ flat_map-append names_of (take i fields) (f ∷ []) ∙ ap (λ l. value_names (take i fields) ++ l) (append-nil (names_of f))
  where
    take-here : (xs : List FieldView) (k : ℕ) (x : FieldView) → slice_get xs k ≡ Some x → take (k + 1) xs ≡ take k xs ++ x ∷ []
    take-here xs k x at = take_more xs k x (slice_get_within xs k x at) ∙ ap (λ d. take k xs ++ d ∷ []) (get_or_from_slice_get xs k x x at)

pub HasNames-field : (c : Columns) (fields : List FieldView) (i : ℕ) (f : FieldView) → slice_get fields i ≡ Some f → HasNames c (value_names (take i fields) ++ names_of f) → HasNames c (value_names (take (i + 1) fields))
HasNames-field c fields i f is has = subst (HasNames c) (sym (names-next fields i f is)) has

pub never_none : {A : Type 0} (xs : List A) (i : ℕ) → i < length xs → slice_get xs i ≡ None → ⊥
never_none [] i lt none = absurd (omega arith)
never_none (x ∷ xs) zero lt none = absurd (cc none)
never_none (x ∷ xs) (suc i) lt none = never_none xs i (omega arith) none
