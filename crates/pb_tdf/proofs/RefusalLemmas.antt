-- What is read is read in one way alone, and bytes with a fault are no table.
use Rattle.std.proofs.Common.{◌≡◌, ℕ, ◌+◌, ◌≤◌, ◌<◌, List, [], ◌++◌, length, Result, Ok, Err, refl, sym, ap, subst, ◌∙◌, arith, inl, inr}
use Rattle.std.specs.Prelude.{IfOk, IfErr}
use Rattle.std.proofs.lemmas.List.{append-nil, nil_from_length}
use Rattle.pb_base.specs.Fields.{Unread, IsBytes, unread, whole}
use Rattle.pb_tdf.specs.declared.fault.TdfFault.{TdfFault}
use Rattle.pb_tdf.specs.declared.fault.TdfFault.TheVariants.{BadVersion, Short, NoEnd, BadType, TooMany, Memory}
use Rattle.pb_tdf.specs.Definition.{Definition, TableBytes, IsTable, table_bytes, table_bytes_max}
use Rattle.pb_tdf.specs.Order.{ComesTo, table_begins}
use Rattle.pb_tdf.specs.Inside.Items.{Limited}
use Rattle.pb_tdf.specs.View.{TableView, view_of}
use Rattle.pb_tdf.specs.Refusal.{HasCause}
use Rattle.pb_tdf.specs.Inside.Passing.{MakesTable}
use Rattle.pb_tdf.specs.Refusal.{IsRefused, IsFollowed, TableFault, ReadsTable}
use Rattle.pb_tdf.proofs.ItemLemmas.{one_outcome}
use Rattle.pb_tdf.proofs.PathLemmas.{table-comes}
use Rattle.pb_tdf.proofs.EndLemmas.{TableRead, has_ended}

abbrev pub limited : Unread → ℕ → Limited
limited u limit = record { left = u; limit = limit }

abbrev reads : Definition × Unread → TableRead
reads x = Ok x

ok_is : (x y : Definition × Unread) → reads x ≡ reads y → x ≡ y
ok_is x y e = cc

pub never : {B : Type 0} (x : Definition × Unread) (fault : TdfFault) → reads x ≡ Err fault → B
never x fault e = absurd cc

-- a table that was read
pub record WasTable (limit : ℕ) (u : Unread) (d : Definition) (v : Unread) : Type 0 where
  pub is : IsTable d
  pub parts : u.rest ≡ table_bytes d ++ v.rest
  pub at : v.at ≡ u.at + length (table_bytes d)
  pub below : v.at ≤ limit
  pub left : IsBytes v.rest

pub was-table : (limit : ℕ) (u : Unread) (d : Definition) (v : Unread) → IsBytes u.rest → limit ≤ u.at + table_bytes_max → ComesTo limit (table_begins u) (Ok (d, v)) → WasTable limit u d v
was-table limit u d v fits near c =
    let e = has_ended limit u (d, v) fits c in
    record {
      is = record {
        formed = e.table.formed;
        within = record { fields = e.table.fields; values = e.table.values; record_bytes = e.table.record_bytes; bytes = omega (arith, e.at, e.below, near) };
        same = refl;
      };
      parts = e.parts;
      at = e.at;
      below = e.below;
      left = e.left;
    }

-- a table's bytes are read as that table, and as nothing else
pub table-outcome : (limit at : ℕ) (d : Definition) (more : List ℕ) (o : TableRead) → IsTable d → at + length (table_bytes d) ≤ limit → ComesTo limit (table_begins (unread at (table_bytes d ++ more))) o
    → Ok (d, unread (at + length (table_bytes d)) more) ≡ o
table-outcome limit at d more o is fits c =
    let k = table-comes limit at d more is.formed is.within fits in
    one_outcome limit (table_begins (unread at (table_bytes d ++ more))) k.last c.last _ o k.items k.ends c.items c.ends

pub table-once : (limit at : ℕ) (d e : Definition) (more : List ℕ) (v : Unread) → IsTable d → at + length (table_bytes d) ≤ limit → ComesTo limit (table_begins (unread at (table_bytes d ++ more))) (Ok (e, v))
    → (d ≡ e) × (unread (at + length (table_bytes d)) more ≡ v)
table-once limit at d e more v is fits c =
    let same = ok_is (d, unread (at + length (table_bytes d)) more) (e, v) (table-outcome limit at d more (Ok (e, v)) is fits c) in
    (ap (λ (x : Definition × Unread). x.0) same, ap (λ (x : Definition × Unread). x.1) same)

-- one list of bytes is at most one table
pub one-table : (bytes : List ℕ) (d e : Definition) → TableBytes d bytes → TableBytes e bytes → d ≡ e
one-table bytes d e p q =
    let is : IsTable d = record { formed = p.formed; within = p.within; same = refl } in
    let k = table-comes table_bytes_max 0 e [] q.formed q.within (omega (arith, q.within.bytes)) in
    let same : table_bytes e ++ [] ≡ table_bytes d ++ [] = ap (λ (b : List ℕ). b ++ []) (sym q.same ∙ p.same) in
    (table-once table_bytes_max 0 d e [] _ is (omega (arith, p.within.bytes)) (subst (λ (b : List ℕ). ComesTo table_bytes_max (table_begins (unread 0 b)) (Ok (e, unread (0 + length (table_bytes e)) []))) same k)).0

-- a table's bytes have no fault
pub no-table-fault : (bytes : List ℕ) (d : Definition) (fault : TdfFault) → TableBytes d bytes → TableFault bytes fault → ⊥
no-table-fault bytes d fault p (inl refused) =
    let is : IsTable d = record { formed = p.formed; within = p.within; same = refl } in
    let same : bytes ≡ table_bytes d ++ [] = p.same ∙ sym (append-nil (table_bytes d)) in
    never _ fault (table-outcome table_bytes_max 0 d [] (Err fault) is (omega (arith, p.within.bytes)) (subst (λ (b : List ℕ). ComesTo table_bytes_max (table_begins (unread 0 b)) (Err fault)) same refused))
no-table-fault bytes d fault p (inr f) =
    let is : IsTable d = record { formed = p.formed; within = p.within; same = refl } in
    let k = table-comes table_bytes_max 0 f.table f.left f.is.formed f.is.within (omega (arith, f.is.within.bytes)) in
    let same : table_bytes f.table ++ f.left ≡ table_bytes d ++ [] = sym f.parts ∙ p.same ∙ sym (append-nil (table_bytes d)) in
    let once = table-once table_bytes_max 0 d f.table [] _ is (omega (arith, p.within.bytes)) (subst (λ (b : List ℕ). ComesTo table_bytes_max (table_begins (unread 0 b)) (Ok (f.table, unread (0 + length (table_bytes f.table)) f.left))) same k) in
    absurd (omega (arith, f.some, ap (λ (u : Unread). length u.rest) once.1))

-- where the bytes are no table the fault is one
pub one-table-fault : (bytes : List ℕ) (f g : TdfFault) → TableFault bytes f → TableFault bytes g → f ≡ g
one-table-fault bytes f g (inl p) (inl q) =
    err_is f g (one_outcome table_bytes_max (table_begins (whole bytes)) p.last q.last (Err f) (Err g) p.items p.ends q.items q.ends)
  where
    err_is : (x y : TdfFault) → (let o : TableRead = Err x in let r : TableRead = Err y in o ≡ r) → x ≡ y
    err_is x y e = cc
one-table-fault bytes f g (inl p) (inr q) = mixed bytes f g p q
  where
    mixed : (bytes : List ℕ) (f g : TdfFault) → IsRefused table_bytes_max (whole bytes) f → IsFollowed bytes g → f ≡ g
    mixed bytes f g p q = never _ f (table-outcome table_bytes_max 0 q.table q.left (Err f) q.is (omega (arith, q.is.within.bytes)) (subst (λ (b : List ℕ). ComesTo table_bytes_max (table_begins (unread 0 b)) (Err f)) q.parts p))
one-table-fault bytes f g (inr p) (inl q) = mixed bytes f g p q
  where
    mixed : (bytes : List ℕ) (f g : TdfFault) → IsFollowed bytes f → IsRefused table_bytes_max (whole bytes) g → f ≡ g
    mixed bytes f g p q = never _ g (table-outcome table_bytes_max 0 p.table p.left (Err g) p.is (omega (arith, p.is.within.bytes)) (subst (λ (b : List ℕ). ComesTo table_bytes_max (table_begins (unread 0 b)) (Err g)) p.parts q))
one-table-fault bytes f g (inr p) (inr q) =
    let k = table-comes table_bytes_max 0 q.table q.left q.is.formed q.is.within (omega (arith, q.is.within.bytes)) in
    let same : table_bytes q.table ++ q.left ≡ table_bytes p.table ++ p.left = sym q.parts ∙ p.parts in
    let once = table-once table_bytes_max 0 p.table q.table p.left _ p.is (omega (arith, p.is.within.bytes)) (subst (λ (b : List ℕ). ComesTo table_bytes_max (table_begins (unread 0 b)) (Ok (q.table, unread (0 + length (table_bytes q.table)) q.left))) same k) in
    p.place ∙ ap (λ (d : Definition). TooMany (length (table_bytes d))) once.0 ∙ sym q.place

-- want of memory is the one free answer
pub memory-alone : (cause : TdfFault → Type 0) (fault : TdfFault) → HasCause cause fault → ((f : TdfFault) → cause f → ⊥) → fault ≡ Memory
memory-alone cause BadVersion h none = absurd (none BadVersion h)
memory-alone cause (Short at) h none = absurd (none (Short at) h)
memory-alone cause (NoEnd at) h none = absurd (none (NoEnd at) h)
memory-alone cause (BadType at) h none = absurd (none (BadType at) h)
memory-alone cause (TooMany at) h none = absurd (none (TooMany at) h)
memory-alone cause Memory h none = refl

pub table-only : (bytes : List ℕ) (r : Result TableView TdfFault) → IfOk r (λ t. (d : Definition) × TableBytes d bytes × (t ≡ view_of d)) → IfErr r (HasCause (TableFault bytes)) → (d : Definition) → TableBytes d bytes → ReadsTable r d
table-only bytes (Ok t) found refused d is = found.2 ∙ ap view_of (one-table bytes found.0 d found.1 is)
table-only bytes (Err fault) found refused d is = memory-alone (TableFault bytes) fault refused (λ f h. no-table-fault bytes d f is h)

-- ---- one table and its end

pub whole-found : (bytes : List ℕ) (t : TableView) (o new : Limited) → IsBytes bytes → o ≡ limited (whole bytes) table_bytes_max → MakesTable o new (Ok t) → length new.left.rest ≡ 0 → (d : Definition) × TableBytes d bytes × (t ≡ view_of d)
whole-found bytes t o new fits e makes none =
    let c = subst (λ (x : Limited). ComesTo x.limit (table_begins x.left) (Ok (makes.0, new.left))) e makes.1 in
    let w = was-table table_bytes_max (whole bytes) makes.0 new.left fits (omega arith) c in
    let same : bytes ≡ table_bytes makes.0 = w.parts ∙ ap (λ (x : List ℕ). table_bytes makes.0 ++ x) (nil_from_length new.left.rest none) ∙ append-nil (table_bytes makes.0) in
    (makes.0, record { formed = w.is.formed; within = w.is.within; same = same }, makes.2)

pub whole-followed : (bytes : List ℕ) (t : TableView) (o new : Limited) (at : ℕ) → IsBytes bytes → o ≡ limited (whole bytes) table_bytes_max → MakesTable o new (Ok t) → 0 < length new.left.rest → at ≡ new.left.at → TableFault bytes (TooMany at)
whole-followed bytes t o new at fits e makes some place =
    let c = subst (λ (x : Limited). ComesTo x.limit (table_begins x.left) (Ok (makes.0, new.left))) e makes.1 in
    let w = was-table table_bytes_max (whole bytes) makes.0 new.left fits (omega arith) c in
    inr (record { table = makes.0; left = new.left.rest; is = w.is; some = some; parts = w.parts; place = ap TooMany (omega (arith, place, w.at)) })
