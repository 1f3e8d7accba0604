-- Scripts to which lines are added.
use Rattle.std.proofs.Common.{◌≡◌, ℕ, zero, suc, ◌+◌, ◌<◌, ◌≤◌, ◌^◌, List, [], ◌∷◌, ◌++◌, length, Some, refl, sym, ap, subst, ◌∙◌, arith, length-append, inl, inr}
use Rattle.std.specs.Prelude.{slice_get, slice_set, slice_index_or}
use Rattle.std.proofs.lemmas.List.Quantifiers.{position-Some}
use Rattle.std.specs.List.{AllByRecursion}
use Rattle.std.proofs.lemmas.Option.{same_Some, slice_get-get_or}
use Rattle.pb_script.specs.declared.table.ScriptTable.{ScriptTable}
use Rattle.pb_script.specs.Inside.{TakesNone, TakesLine}
use Rattle.pb_script.specs.ScriptText.{Says, Table, Store, table_line, store_line}
use Rattle.pb_script.proofs.LineLemmas.{table_line_one, store_line_one, table_no_store}
use Rattle.pb_script.specs.Script.{Script, IsScript, IsScriptTable, HoldsRecords, CanDeclare, CanStore, IsScriptName, all_ring_bytes, ring_bytes, ring_bytes_max, tables_max, stored_at, with_records, with_table, with_store, place_of, has_name}

-- ---- one table more

rings-push : (tables : List ScriptTable) (t : ScriptTable) → all_ring_bytes (tables ++ t ∷ []) ≡ all_ring_bytes tables + ring_bytes t.shape
rings-push [] t = omega arith
rings-push (x ∷ tables) t = omega (arith, rings-push tables t)

each-push : (tables : List ScriptTable) (t : ScriptTable) → AllByRecursion IsScriptTable tables → IsScriptTable t → AllByRecursion IsScriptTable (tables ++ t ∷ [])
each-push [] t each is = (is, tt)
each-push (x ∷ tables) t each is = (each.0, each-push tables t each.1 is)

pub declared_is : (s : Script) (t : ScriptTable) (used bytes : ℕ) → IsScript s → used ≡ all_ring_bytes s.tables → bytes ≡ ring_bytes t.shape → IsScriptTable t
    → length s.tables < tables_max → used + bytes ≤ ring_bytes_max → IsScript (with_table s t) × (used + bytes ≡ all_ring_bytes (s.tables ++ t ∷ []))
declared_is s t used bytes is same ring table few room = (
  record {
    addr = is.addr;
    code = is.code;
    name = is.name;
    few = omega (arith, few, length-append s.tables (t ∷ []));
    each = each-push s.tables t is.each table;
    room = omega (arith, rings-push s.tables t, same, ring, room);
  },
  omega (arith, rings-push s.tables t, same, ring),
)

-- ---- more records of one table

pub length-stored : (place n : ℕ) (tables : List ScriptTable) → length (stored_at place n tables) ≡ length tables
length-stored place n [] = refl
length-stored zero n (t ∷ tables) = refl
length-stored (suc place) n (t ∷ tables) = ap suc (length-stored place n tables)

rings-stored : (place n : ℕ) (tables : List ScriptTable) → all_ring_bytes (stored_at place n tables) ≡ all_ring_bytes tables
rings-stored place n [] = refl
rings-stored zero n (t ∷ tables) = refl
rings-stored (suc place) n (t ∷ tables) = ap (λ r. ring_bytes t.shape + r) (rings-stored place n tables)

each-stored : (place n : ℕ) (tables : List ScriptTable) (t : ScriptTable) → AllByRecursion IsScriptTable tables → slice_get tables place ≡ Some t → HoldsRecords (with_records n t)
    → AllByRecursion IsScriptTable (stored_at place n tables)
each-stored place n [] t each at holds = tt
each-stored zero n (x ∷ tables) t each at holds =
    let same : x ≡ t = same_Some x t at in
    (record { name = each.0.name; shape = each.0.shape; holds = subst (λ y. HoldsRecords (with_records n y)) (sym same) holds }, each.1)
each-stored (suc place) n (x ∷ tables) t each at holds = (each.0, each-stored place n tables t each.1 at holds)

pub stored_is : (s : Script) (place n used : ℕ) (t : ScriptTable) → IsScript s → used ≡ all_ring_bytes s.tables → slice_get s.tables place ≡ Some t → HoldsRecords (with_records n t)
    → IsScript (with_store s place n) × (used ≡ all_ring_bytes (stored_at place n s.tables))
stored_is s place n used t is same at holds = (
  record {
    addr = is.addr;
    code = is.code;
    name = is.name;
    few = omega (arith, is.few, length-stored place n s.tables);
    each = each-stored place n s.tables t is.each at holds;
    room = omega (arith, is.room, rings-stored place n s.tables);
  },
  same ∙ sym (rings-stored place n s.tables),
)

stored-set : (tables : List ScriptTable) (place n : ℕ) (t : ScriptTable) → slice_get tables place ≡ Some t → slice_set tables place (with_records n t) ≡ stored_at place n tables
stored-set [] place n t at = refl
stored-set (x ∷ tables) zero n t at = ap (λ y. with_records n y ∷ tables) (sym (same_Some x t at))
stored-set (x ∷ tables) (suc place) n t at = ap (λ l. x ∷ l) (stored-set tables place n t at)

-- the table that was found, with more records
pub found_at : (tables : List ScriptTable) (place : ℕ) (t : ScriptTable) (name : List ℕ) → place_of name tables ≡ Some place → t ≡ slice_index_or tables place t → slice_get tables place ≡ Some t
found_at tables place t name found is =
    slice_get-get_or tables place t (position-Some (has_name name) tables place t found).0 ∙ ap (λ x. Some x) (sym is)

pub with_stored : (tables : List ScriptTable) (place n stored : ℕ) (t : ScriptTable) → slice_get tables place ≡ Some t → stored ≡ t.stored + n
    → slice_set tables place (record t { stored = stored }) ≡ stored_at place n tables
with_stored tables place n stored t at is = ap (λ (k : ℕ). slice_set tables place (record t { stored = k })) is ∙ stored-set tables place n t at

pub can_store : (s : Script) (name : List ℕ) (place n stored : ℕ) (t : ScriptTable) → IsScriptName name → place_of name s.tables ≡ Some place → slice_get s.tables place ≡ Some t → stored ≡ t.stored + n
    → HoldsRecords (record t { stored = stored }) → CanStore s name place n
can_store s name place n stored t named found at is holds = record {
  table = t;
  named = named;
  found = found;
  at = at;
  holds = subst (λ (k : ℕ). HoldsRecords (record t { stored = k })) is holds;
}

-- ---- lines that are refused

pub table_refused : (s : Script) (text rest word : List ℕ) (t : ScriptTable) → word ≡ s.name → text ≡ table_line word t rest → IsScriptTable t → t.stored ≡ 0 → (CanDeclare s t → ⊥) → TakesNone s text
table_refused s text rest word t same line is empty refused =
    let here : text ≡ table_line s.name t rest = subst (λ w. text ≡ table_line w t rest) same line in
    record {
      no_table = λ u more can there. refused (subst (CanDeclare s) (sym (table_line_one s.name t u rest more is can.is (empty ∙ sym can.empty) (sym here ∙ there)).0) can);
      no_store = λ name place n more can there. table_no_store s.name name t n rest more (sym here ∙ there);
    }

pub store_refused : (s : Script) (text rest word name : List ℕ) (n : ℕ) → word ≡ s.name → ((t : ScriptTable) (more : List ℕ) → IsScriptTable t → text ≡ table_line word t more → ⊥)
    → text ≡ store_line word name n rest → IsScriptName name → n < 2 ^ 32 → ((place : ℕ) → CanStore s name place n → ⊥) → TakesNone s text
store_refused s text rest word name n same none line is small refused =
    let here : text ≡ store_line s.name name n rest = subst (λ w. text ≡ store_line w name n rest) same line in
    record {
      no_table = λ u more can there. none u more can.is (subst (λ w. text ≡ table_line w u more) (sym same) there);
      no_store = λ other place m more can there.
          let one = store_line_one s.name name other n m rest more is can.named small (omega (arith, can.holds.few)) (sym here ∙ there) in
          refused place (record {
            table = can.table;
            named = is;
            found = subst (λ l. place_of l s.tables ≡ Some place) (sym one.name) can.found;
            at = can.at;
            holds = subst (λ (k : ℕ). HoldsRecords (with_records k can.table)) (sym one.number) can.holds;
          });
    }

-- ---- from line to line

pub says_more : (whole : List ℕ) (lines : ℕ) (old new : Script) (text rest : List ℕ) → Says whole lines old text → TakesLine old text new rest → Says whole (lines + 1) new rest
says_more whole lines old new text rest says (inl d) =
    subst (λ s. Says whole (lines + 1) s rest) (sym d.is) (Table (subst (Says whole lines old) d.line says) d.can)
says_more whole lines old new text rest says (inr f) =
    subst (λ s. Says whole (lines + 1) s rest) (sym f.is) (Store (subst (Says whole lines old) f.line says) f.can)
