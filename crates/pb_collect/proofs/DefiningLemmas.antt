-- What the tables of a file leave of an archive's register.
use Rattle.std.proofs.Common.{◌≡◌, ⊎_elim, ℕ, zero, suc, List, [], ◌∷◌, ◌++◌, length, Some, refl, sym, ◌∙◌, ap, subst, arith}
use Rattle.std.specs.Prelude.{slice_get}
use Rattle.std.specs.List.{Contains}
use Rattle.std.proofs.lemmas.List.Elements.{Contains-append_cases, Contains-push_cases}
use Rattle.std.proofs.lemmas.Option.{none-some, same_Some}
use Rattle.pb_base.specs.declared.numbers.TableNo.{TableNo}
use Rattle.pb_tdf.specs.View.{TableView, view_of}
use Rattle.pb_archive.specs.Archive.{changed_at}
use Rattle.pb_archive.specs.Entry as entry
use Rattle.pb_archive.specs.Entry.{Change}
use Rattle.pb_archive.specs.Opened.{Register, advanced, ended, new_held, register_after, with_table}
use Rattle.pb_archive.specs.declared.held.Held.{Held}
use Rattle.pb_collect.specs.Defining.{TableCame, TablesCame, Treats}
use Rattle.pb_collect.specs.declared.report.DefsLine.{DefsLine}
use Rattle.pb_collect.specs.declared.report.DefsWhat.{DefsWhat}
use Rattle.pb_collect.specs.declared.report.DefsWhat.TheVariants.{Added, Same, Redefined, NotText, NotFull, Failed, Bad}

-- ---- the plan stays

treats_plan : (n k : ℕ) (t : TableView) (what : DefsWhat) (before after : Register) → Treats n k t what before after → after.plan ≡ before.plan
treats_plan n k t NotText before after h = ap (λ (r : Register). r.plan) h.1
treats_plan n k t Same before after h = ap (λ (r : Register). r.plan) h.1.4
treats_plan n k t (Redefined old) before after h = ⊎_elim (λ stopped. ap (λ (r : Register). r.plan) stopped.1) (λ had. ap (λ (r : Register). r.plan) had.2) h.2.4
treats_plan n k t NotFull before after h = ap (λ (r : Register). r.plan) h.3
treats_plan n k t Added before after h = ap (λ (r : Register). r.plan) h.3
treats_plan n k t (Failed cause) before after h = absurd h
treats_plan n k t (Bad at) before after h = absurd h

pub came_plan : (n k : ℕ) (t : TableView) (line : DefsLine) (before after : Register) → TableCame n k t line before after → after.plan ≡ before.plan
came_plan n k t line before after came = treats_plan n k t line.what before after came.what

pub tables_plan : (n : ℕ) (tables : List TableView) (k : ℕ) (lines : List DefsLine) (before after : Register) → TablesCame n tables k lines before after → after.plan ≡ before.plan
tables_plan n tables zero lines before after came = ap (λ (r : Register). r.plan) came.1
tables_plan n tables (suc k) lines before after came = came_plan n (suc k) came.2 came.1 came.3 after came.7 ∙ tables_plan n tables k came.0 before came.3 came.5

-- ---- no table is lost

-- a table of the archive later: the same station, number and definition
pub record IsSameTable (before after : Held) : Type 0 where
  pub station : after.station ≡ before.station
  pub number : after.number ≡ before.number
  pub table : after.table ≡ before.table

-- each table is at its place
abbrev pub KeepsTables : Register → Register → Type 0
KeepsTables r s = (id : ℕ) (x : Held) → slice_get r.tables id ≡ Some x → (y : Held) × (slice_get s.tables id ≡ Some y) × IsSameTable x y

same_table : (x : Held) → IsSameTable x x
same_table x = record { station = refl; number = refl; table = refl }

tables_same : (r s : Register) → s ≡ r → KeepsTables r s
tables_same r s is id x there = (x, ap (λ (q : Register). slice_get q.tables id) is ∙ there, same_table x)

pub tables_trans : (q r s : Register) → KeepsTables q r → KeepsTables r s → KeepsTables q s
tables_trans q r s first second id x there =
    let y = first id x there in
    let z = second id y.0 y.1 in (
      z.0,
      z.1,
      record { station = z.2.station ∙ y.2.station; number = z.2.number ∙ y.2.number; table = z.2.table ∙ y.2.table },
    )

get_front : {A : Type 0} (xs ys : List A) (n : ℕ) (x : A) → slice_get xs n ≡ Some x → slice_get (xs ++ ys) n ≡ Some x
get_front [] ys n x is = absurd (none-some x is)
get_front (z ∷ xs) ys zero x is = is
get_front (z ∷ xs) ys (suc n) x is = get_front xs ys n x is

get_last : {A : Type 0} (xs : List A) (x : A) → slice_get (xs ++ x ∷ []) (length xs) ≡ Some x
get_last [] x = refl
get_last (z ∷ xs) x = get_last xs x

get_at_changed : {A : Type 0} (f : A → A) (xs : List A) (id : ℕ) (x : A) → slice_get xs id ≡ Some x → slice_get (changed_at id f xs) id ≡ Some (f x)
get_at_changed f [] id x is = absurd (none-some x is)
get_at_changed f (z ∷ xs) zero x is = ap (λ y. Some (f y)) (same_Some z x is)
get_at_changed f (z ∷ xs) (suc id) x is = get_at_changed f xs id x is

-- a change of the held tables at one place, by which none becomes another table
tables_changed : (f : Held → Held) → ((x : Held) → IsSameTable x (f x)) → (xs : List Held) (at id : ℕ) (x : Held) → slice_get xs id ≡ Some x
    → (y : Held) × (slice_get (changed_at at f xs) id ≡ Some y) × IsSameTable x y
tables_changed f same [] at id x is = absurd (none-some x is)
tables_changed f same (z ∷ xs) zero zero x is = (f x, ap (λ y. Some (f y)) (same_Some z x is), same x)
tables_changed f same (z ∷ xs) zero (suc id) x is = (x, is, same_table x)
tables_changed f same (z ∷ xs) (suc at) zero x is = (x, is, same_table x)
tables_changed f same (z ∷ xs) (suc at) (suc id) x is = tables_changed f same xs at id x is

-- a change takes no table away
pub tables_after : (r : Register) (change : Change) → KeepsTables r (register_after r change)
tables_after r (entry.Added station number definition) id x there = (x, get_front r.tables (new_held station number (view_of definition) ∷ []) id x there, same_table x)
tables_after r (entry.Advanced at a) id x there = tables_changed (advanced a) (λ y. record { station = refl; number = refl; table = refl }) r.tables at id x there
tables_after r (entry.Stopped at stop) id x there = tables_changed (ended stop) (λ y. record { station = refl; number = refl; table = refl }) r.tables at id x there

tables_equal : (r s t : Register) → t ≡ s → KeepsTables r s → KeepsTables r t
tables_equal r s t is keeps = subst (λ (q : Register). KeepsTables r q) (sym is) keeps

tables_with : (r : Register) (n k : ℕ) (t : TableView) → KeepsTables r (with_table r n k t)
tables_with r n k t id x there = (x, get_front r.tables (new_held n k t ∷ []) id x there, same_table x)

treats_tables : (n k : ℕ) (t : TableView) (what : DefsWhat) (before after : Register) → Treats n k t what before after → KeepsTables before after
treats_tables n k t NotText before after h = tables_same before after h.1
treats_tables n k t Same before after h = tables_same before after h.1.4
treats_tables n k t (Redefined old) before after h =
    ⊎_elim
    (λ stopped. tables_equal before (register_after before (entry.Stopped h.2.0 (record { told = Some t.signature }))) after stopped.1 (tables_after before (entry.Stopped h.2.0 (record { told = Some t.signature }))))
    (λ had. tables_same before after had.2) h.2.4
treats_tables n k t NotFull before after h = tables_same before after h.3
treats_tables n k t Added before after h = tables_equal before (with_table before n k t) after h.3 (tables_with before n k t)
treats_tables n k t (Failed cause) before after h = absurd h
treats_tables n k t (Bad at) before after h = absurd h

-- ---- tables that lines name

-- the table that a line names is at this place
pub record IsHeldBy (line : DefsLine) (r : Register) : Type 0 where
  pub id : ℕ
  pub held : Held
  pub there : slice_get r.tables id ≡ Some held
  pub station : held.station ≡ line.station
  pub number : held.number.0 ≡ line.number.0
  pub signature : held.table.signature ≡ line.sig
  pub name : held.table.name ≡ line.name

abbrev pub AddedIn : List DefsLine → Register → Type 0
AddedIn lines r = (line : DefsLine) → Contains lines line → line.what ≡ Added → IsHeldBy line r

pub held_later : (line : DefsLine) (r s : Register) → KeepsTables r s → IsHeldBy line r → IsHeldBy line s
held_later line r s keeps held =
    let y = keeps held.id held.held held.there in
    record {
      id = held.id;
      held = y.0;
      there = y.1;
      station = y.2.station ∙ held.station;
      number = ap (λ (m : TableNo). m.0) y.2.number ∙ held.number;
      signature = ap (λ (v : TableView). v.signature) y.2.table ∙ held.signature;
      name = ap (λ (v : TableView). v.name) y.2.table ∙ held.name;
    }

added_here : (n k : ℕ) (t : TableView) (line : DefsLine) (before after : Register) → TableCame n k t line before after → line.what ≡ Added → IsHeldBy line after
added_here n k t line before after came is =
    let h = subst (λ (w : DefsWhat). Treats n k t w before after) is came.what in
    record {
      id = length before.tables;
      held = new_held n k t;
      there = ap (λ (r : Register). slice_get r.tables (length before.tables)) h.3 ∙ get_last before.tables (new_held n k t);
      station = sym came.station;
      number = sym came.number;
      signature = sym came.sig;
      name = sym came.name;
    }

-- what lines say of the archive: none of its tables is lost, and those that were added are there
pub record Stand (lines : List DefsLine) (before after : Register) : Type 0 where
  pub tables : KeepsTables before after
  pub added : AddedIn lines after

none_added : (r : Register) → AddedIn [] r
none_added r line has is = absurd (omega (arith, has.1))

pub stand_none : (lines : List DefsLine) (before after : Register) → lines ≡ [] → after ≡ before → Stand lines before after
stand_none lines before after none same = record {
  tables = tables_same before after same;
  added = subst (λ l. AddedIn l after) (sym none) (none_added after);
}

pub stand_one : (n k : ℕ) (t : TableView) (line : DefsLine) (before after : Register) → TableCame n k t line before after → Stand (line ∷ []) before after
stand_one n k t line before after came = record {
  tables = treats_tables n k t line.what before after came.what;
  added = λ other has is. ⊎_elim (λ none. absurd (omega (arith, none.1))) (λ same. subst (λ (l : DefsLine). l.what ≡ Added → IsHeldBy l after) same (λ here. added_here n k t line before after came here) is) (Contains-push_cases [] line other has);
}

pub stand_trans : (first second lines : List DefsLine) (a b c : Register) → lines ≡ first ++ second → Stand first a b → Stand second b c → Stand lines a c
stand_trans first second lines a b c are p q = record {
  tables = tables_trans a b c p.tables q.tables;
  added = subst (λ l. AddedIn l c) (sym are) (λ line has is. ⊎_elim (λ earlier. held_later line b c q.tables (p.added line earlier is)) (λ later. q.added line later is) (Contains-append_cases first second line has));
}

-- a line that adds no table
pub stand_line : (line : DefsLine) (lines : List DefsLine) (before after : Register) → lines ≡ line ∷ [] → (line.what ≡ Added → ⊥) → after ≡ before → Stand lines before after
stand_line line lines before after are other same = record {
  tables = tables_same before after same;
  added = subst (λ l. AddedIn l after) (sym are) (λ one has is. ⊎_elim (λ none. absurd (omega (arith, none.1))) (λ here. absurd (other (ap (λ (l : DefsLine). l.what) here ∙ is))) (Contains-push_cases [] line one has));
}

pub stand_tables : (n : ℕ) (tables : List TableView) (k : ℕ) (lines : List DefsLine) (before after : Register) → TablesCame n tables k lines before after → Stand lines before after
stand_tables n tables zero lines before after came = stand_none lines before after came.0 came.1
stand_tables n tables (suc k) lines before after came =
    stand_trans came.0 (came.1 ∷ []) lines before came.3 after came.4 (stand_tables n tables k came.0 before came.3 came.5) (stand_one n (suc k) came.2 came.1 came.3 after came.7)
