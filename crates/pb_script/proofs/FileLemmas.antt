-- The bytes of tables, one after another.
use Rattle.std.proofs.Common.{◌≡◌, ℕ, suc, ◌+◌, ◌<◌, List, [], ◌∷◌, ◌++◌, get_or, length, take, map, sym, ap, ◌∙◌, arith, append_assoc, append-nil, zero-add, pos}
use Rattle.std.specs.Int.{w32, to_be_bytes, cast_unsigned}
use Rattle.pb_script.specs.declared.table.Shape.{Shape}
use Rattle.std.proofs.Math.Seq.{take-suc}
use Rattle.pb_tdf.specs.Definition.{tables_bytes, table_bytes}
use Rattle.pb_script.specs.declared.table.ScriptTable.{ScriptTable}
use Rattle.pb_script.specs.Inside.{after_name}
use Rattle.pb_script.specs.Station.{definition_of, kind_code}

pub then : (o p q a b : List ℕ) → p ≡ o ++ a → q ≡ p ++ b → q ≡ o ++ (a ++ b)
then o p q a b first second = second ∙ ap (λ (l : List ℕ). l ++ b) first ∙ append_assoc o a b

pub name_first : (t : ScriptTable) → t.name ++ after_name t.shape ≡ table_bytes (definition_of t)
name_first t = sym (append_assoc t.name (0 ∷ []) _)

bytes-push : (tables : List ScriptTable) (t : ScriptTable) → tables_bytes (map definition_of (tables ++ t ∷ [])) ≡ tables_bytes (map definition_of tables) ++ table_bytes (definition_of t)
bytes-push [] t = append-nil (table_bytes (definition_of t))
bytes-push (x ∷ tables) t =
    ap (λ l. table_bytes (definition_of x) ++ l) (bytes-push tables t)
    ∙ sym (append_assoc (table_bytes (definition_of x)) (tables_bytes (map definition_of tables)) (table_bytes (definition_of t)))

pub bytes_more : (tables : List ScriptTable) (k : ℕ) (t : ScriptTable) → k < length tables → t ≡ get_or tables k t
    → tables_bytes (map definition_of (take (k + 1) tables)) ≡ tables_bytes (map definition_of (take k tables)) ++ table_bytes (definition_of t)
bytes_more tables k t lt is =
    ap (λ l. tables_bytes (map definition_of l)) (ap (λ (n : ℕ). take n tables) (one_more k) ∙ take-suc tables k t lt ∙ ap (λ x. take k tables ++ x ∷ []) (sym is))
    ∙ bytes-push (take k tables) t
  where
    one_more : (n : ℕ) → n + 1 ≡ suc n
    one_more n = omega arith

-- the bytes as they are put together
pub spelled : (shape : Shape) (a b c : List ℕ) (k : ℕ) → a ≡ to_be_bytes w32 shape.size → b ≡ to_be_bytes w32 (cast_unsigned w32 (pos shape.interval)) → c ≡ to_be_bytes w32 shape.count → k ≡ kind_code shape.kind
    → 0 ∷ get_or a 0 0 ∷ get_or a 1 0 ∷ get_or a 2 0 ∷ get_or a 3 0 ∷ 14 ∷ 0 ∷ 0 ∷ 0 ∷ 0 ∷ 0 ∷ 0 ∷ 0 ∷ 0 ∷ get_or b 0 0 ∷ get_or b 1 0 ∷ get_or b 2 0 ∷ get_or b 3 0 ∷ 0 ∷ 0 ∷ 0 ∷ 0 ∷ k ∷ 86 ∷ 0 ∷ 0 ∷ 0 ∷ 0 ∷ 0 ∷ 0 ∷ 0 ∷ 0 ∷ 1 ∷ get_or c 0 0 ∷ get_or c 1 0 ∷ get_or c 2 0 ∷ get_or c 3 0 ∷ 0 ∷ 0 ∷ 0 ∷ 0 ∷ 0 ∷ [] ≡ after_name shape
spelled shape a b c k size interval count code = λ j. 0 ∷ get_or (size j) 0 0 ∷ get_or (size j) 1 0 ∷ get_or (size j) 2 0 ∷ get_or (size j) 3 0 ∷ 14 ∷ 0 ∷ 0 ∷ 0 ∷ 0 ∷ 0 ∷ 0 ∷ 0 ∷ 0 ∷ get_or (interval j) 0 0 ∷ get_or (interval j) 1 0 ∷ get_or (interval j) 2 0 ∷ get_or (interval j) 3 0 ∷ 0 ∷ 0 ∷ 0 ∷ 0 ∷ (code ∙ sym (zero-add (kind_code shape.kind))) j ∷ 86 ∷ 0 ∷ 0 ∷ 0 ∷ 0 ∷ 0 ∷ 0 ∷ 0 ∷ 0 ∷ 1 ∷ get_or (count j) 0 0 ∷ get_or (count j) 1 0 ∷ get_or (count j) 2 0 ∷ get_or (count j) 3 0 ∷ 0 ∷ 0 ∷ 0 ∷ 0 ∷ 0 ∷ []
