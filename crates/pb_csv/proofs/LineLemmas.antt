-- Rows of an export, from their fields.
use Rattle.std.proofs.Common.{◌≡◌, ℕ, pos, w32, List, [], ◌∷◌, ◌++◌, map, Result, Ok, Err, refl, sym, ap, ◌∙◌, append_assoc}
use Rattle.std.specs.Int.RustNames.{FitsSigned}
use Rattle.std.proofs.lemmas.List.{append-nil}
use Rattle.csv.specs.Writing.{comma, default_writer, field_text, fields_text, is_blank}
use Rattle.pb_base.specs.declared.nsec.Nsec.{Nsec}
use Rattle.pb_base.specs.declared.fields.FieldFault.{FieldFault}
use Rattle.pb_base.specs.Fields.{Unread}
use Rattle.pb_base.specs.Time.{time_bytes, time_of}
use Rattle.pb_base.proofs.TextLaws.{time-again}
use Rattle.pb_value.specs.Values.{ValueView}
use Rattle.pb_csv.specs.CsvText.{csv_row, value_field}
use Rattle.pb_csv.proofs.ColumnsLemmas.{fields_text-push, fields_text-none}

abbrev first_of : Result (Nsec × Unread) FieldFault → Nsec
first_of (Ok p) = p.0
first_of (Err fault) = record { sec = pos 0; nano = pos 0 }

pub time-spelled : (t : Nsec) (rest : List ℕ) → FitsSigned w32 t.sec → FitsSigned w32 t.nano → time_of (time_bytes t ++ rest) ≡ t
time-spelled t rest fs fn = ap first_of (time-again 0 t [] fs fn)

abbrev pub text_of : List ℕ → List ℕ
text_of field = field_text default_writer field

-- a row of two fields and more
two_fields : (a b : List ℕ) (rest : List (List ℕ)) → csv_row (a ∷ b ∷ rest) ≡ text_of a ++ (comma ∷ (text_of b ++ fields_text default_writer rest)) ++ 10 ∷ []
unfolding fields_text is_blank
two_fields a b rest = refl

pub row-made : (a b : List ℕ) (rest : List (List ℕ)) (one two three four : List ℕ) → one ≡ text_of a → two ≡ one ++ comma ∷ text_of b → three ≡ two ++ fields_text default_writer rest → four ≡ three ++ 10 ∷ []
    → four ≡ csv_row (a ∷ b ∷ rest)
row-made a b rest one two three four first second third fourth =
    fourth ∙ ap (λ l. l ++ 10 ∷ []) (third ∙ ap (λ l. l ++ fields_text default_writer rest) (second ∙ ap (λ l. l ++ comma ∷ text_of b) first)
    ∙ append_assoc (text_of a) (comma ∷ text_of b) (fields_text default_writer rest))
    ∙ sym (two_fields a b rest)

-- ---- values that are added one after another

map-push : {A B : Type 0} (f : A → B) (xs : List A) (x : A) → map f (xs ++ x ∷ []) ≡ map f xs ++ f x ∷ []
map-push f [] x = refl
map-push f (y ∷ xs) x = ap (λ l. f y ∷ l) (map-push f xs x)

pub values-none : (all : List ValueView) (before : List ℕ) → before ≡ before ++ fields_text default_writer []
values-none all before = sym (ap (λ l. before ++ l) (fields_text-none default_writer) ∙ append-nil before)

pub values-next : (before row new : List ℕ) (done : List ValueView) (v : ValueView) → row ≡ before ++ fields_text default_writer (map value_field done) → new ≡ row ++ comma ∷ text_of (value_field v)
    → new ≡ before ++ fields_text default_writer (map value_field (done ++ v ∷ []))
values-next before row new done v was adds =
    adds ∙ ap (λ l. l ++ comma ∷ text_of (value_field v)) was ∙ append_assoc before (fields_text default_writer (map value_field done)) (comma ∷ text_of (value_field v))
    ∙ ap (λ l. before ++ l) (sym (fields_text-push default_writer (map value_field done) (value_field v)) ∙ ap (fields_text default_writer) (sym (map-push value_field done v)))
