-- Lines by their words.
use Rattle.std.proofs.Common.{◌≡◌, ℕ, ◌*◌, ◌<◌, ◌≤◌, ◌^◌, List, ◌∷◌, ◌++◌, get_or, drop, refl, sym, ap, subst, ◌∙◌, arith, decimal}
use Rattle.std.specs.Prelude.{codes}
use Rattle.std.proofs.lemmas.List.{append_cancel_left}
use Rattle.pb_base.specs.Words.{Lacks}
use Rattle.pb_base.proofs.WordLemmas.{cut_one, number_next, name_byte}
use Rattle.pb_script.specs.declared.table.Kind.{Kind}
use Rattle.pb_script.specs.declared.table.Kind.TheVariants.{Fp2, Ascii}
use Rattle.pb_script.specs.declared.table.ScriptTable.{ScriptTable}
use Rattle.pb_script.specs.declared.table.Shape.{Shape}
use Rattle.pb_script.specs.Inside.{IsStation, begun}
use Rattle.pb_script.specs.declared.table.Station.{Station}
use Rattle.pb_script.specs.Script.{IsScriptName, IsShape, IsScriptTable, IsAddress, CanBegin, width}
use Rattle.pb_script.specs.ScriptText.{kind_text, shape_text, table_line, store_line, station_line, space, line_feed}

-- ---- one word

pub name_lacks : (name : List ℕ) → IsScriptName name → Lacks space name
name_lacks name is k lt at = omega (arith, name_byte _ (is.2 k 0 lt), at)

pub name_next : (a b r q : List ℕ) → IsScriptName a → IsScriptName b → a ++ space ∷ r ≡ b ++ space ∷ q → (a ≡ b) × (r ≡ q)
name_next a b r q is it same = cut_one space a b r q same (name_lacks a is) (name_lacks b it)

differ : (a b : ℕ) → a < b → a ≡ b → ⊥
differ a b less is = omega arith

pub kind_next : (k l : Kind) (r q : List ℕ) → kind_text k ++ space ∷ r ≡ kind_text l ++ space ∷ q → (k ≡ l) × (r ≡ q)
kind_next Fp2 Fp2 r q same = (refl, ap (drop 4) same)
kind_next Fp2 Ascii r q same = absurd (differ 97 102 (omega arith) (sym (ap (λ (l : List ℕ). get_or l 0 0) same)))
kind_next Ascii Fp2 r q same = absurd (differ 97 102 (omega arith) (ap (λ (l : List ℕ). get_or l 0 0) same))
kind_next Ascii Ascii r q same = (refl, ap (drop 6) same)

-- ---- the numbers of a table

small_count : (k : Kind) (n : ℕ) → width k * n ≤ 16384 → n < 2 ^ 32
small_count Fp2 n le = omega arith
small_count Ascii n le = omega arith

pub counts : (s : Shape) → IsShape s → s.count < 2 ^ 32
counts s is = small_count s.kind s.count is.record_bytes

pub shape_one : (s t : Shape) (r q : List ℕ) → IsShape s → IsShape t → shape_text s r ≡ shape_text t q → (s ≡ t) × (r ≡ q)
shape_one s t r q is it same =
    let size = number_next s.size t.size space _ _ is.size.1 it.size.1 (omega arith) same in
    let interval = number_next s.interval t.interval space _ _ (omega (arith, is.interval)) (omega (arith, it.interval)) (omega arith) size.1 in
    let kind = kind_next s.kind t.kind _ _ interval.1 in
    let count = number_next s.count t.count line_feed r q (counts s is) (counts t it) (omega arith) kind.1 in
    ((λ j. record { size = size.0 j; interval = interval.0 j; kind = kind.0 j; count = count.0 j }), count.1)

-- ---- whole lines

pub after_same : (word station a b : List ℕ) → word ++ (station ++ space ∷ a) ≡ word ++ (station ++ space ∷ b) → a ≡ b
after_same word station a b same = ap (drop 1) (append_cancel_left station _ _ (append_cancel_left word _ _ same))

pub table_line_one : (station : List ℕ) (s t : ScriptTable) (r q : List ℕ) → IsScriptTable s → IsScriptTable t → s.stored ≡ t.stored
    → table_line station s r ≡ table_line station t q → (s ≡ t) × (r ≡ q)
table_line_one station s t r q is it stored same =
    let name = name_next s.name t.name _ _ is.name it.name (after_same (codes "table ") station _ _ same) in
    let shape = shape_one s.shape t.shape r q is.shape it.shape name.1 in
    ((λ j. record { name = name.0 j; shape = shape.0 j; stored = stored j }), shape.1)

pub record SameStore (a b : List ℕ) (n m : ℕ) : Type 0 where
  pub name : a ≡ b
  pub number : n ≡ m

pub store_line_one : (station a b : List ℕ) (n m : ℕ) (r q : List ℕ) → IsScriptName a → IsScriptName b → n < 2 ^ 32 → m < 2 ^ 32
    → store_line station a n r ≡ store_line station b m q → SameStore a b n m
store_line_one station a b n m r q is it ln lm same =
    let name = name_next a b _ _ is it (after_same (codes "store ") station _ _ same) in
    let number = number_next n m line_feed r q ln lm (omega arith) name.1 in
    record { name = name.0; number = number.0 }

pub table_no_store : (station name : List ℕ) (t : ScriptTable) (n : ℕ) (r q : List ℕ) → table_line station t r ≡ store_line station name n q → ⊥
table_no_store station name t n r q same = differ 115 116 (omega arith) (sym (ap (λ (l : List ℕ). get_or l 0 0) same))

pub station_says : (me : ℕ) (s : Station) (text name rest two three : List ℕ) (addr code : ℕ) → IsAddress me → IsScriptName name → IsStation me addr code → s.name ≡ name → s.addr ≡ addr → s.code ≡ code
    → text ≡ codes "station " ++ two → two ≡ name ++ space ∷ three → three ≡ decimal addr ++ space ∷ (decimal code ++ line_feed ∷ rest)
    → CanBegin (begun me s) × (text ≡ station_line (begun me s) rest)
station_says me s text name rest two three addr code asks is station same_name same_addr same_code one second third = (
  record {
    me = asks;
    addr = subst IsAddress (sym same_addr) station.addr;
    not_me = λ e. station.not_me (sym same_addr ∙ e);
    code = omega (arith, station.small, same_code);
    name = subst IsScriptName (sym same_name) is;
    tables = refl;
    storing = refl;
  },
  one ∙ ap (λ (l : List ℕ). codes "station " ++ l) (second ∙ (λ j. sym same_name j ++ space ∷ (third ∙ (λ i. decimal (sym same_addr i) ++ space ∷ (decimal (sym same_code i) ++ line_feed ∷ rest))) j)),
)
