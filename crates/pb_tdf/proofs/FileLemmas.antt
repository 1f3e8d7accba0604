-- Tables one after another: what is read of a file, and its first fault.
use Rattle.std.proofs.Common.{◌≡◌, ℕ, ◌+◌, ◌≤◌, ◌<◌, min, Bool, true, false, cond, ltb, eqb, List, [], ◌∷◌, ◌++◌, length, map, Result, Ok, Err, refl, sym, ap, subst, ◌∙◌, append_assoc, arith}
use Rattle.std.specs.Prelude.{IfOk, IfErr}
use Rattle.std.specs.Int.{w8}
use Rattle.std.specs.List.{AllByRecursion, flat_map}
use Rattle.std.proofs.lemmas.Bool.{ltb-true, lt-ltb}
use Rattle.std.proofs.lemmas.List.{append-nil, length-append, nil_from_length, length-map, map_push}
use Rattle.std.proofs.lemmas.List.Concat.{flat_map-cons}
use Rattle.pb_base.specs.Time.{time_bytes}
use Rattle.pb_base.specs.Fields.{Unread, IsBytes, unread, whole, number_at}
use Rattle.pb_base.proofs.FieldLaws.{byte-takes}
use Rattle.pb_tdf.specs.declared.fault.TdfFault.{TdfFault}
use Rattle.pb_tdf.specs.Definition.{Definition, FileBytes, IsTable, text, word, field_bytes, table_bytes, tables_bytes, version, table_bytes_max, file_bytes_max, tables_max}
use Rattle.pb_tdf.specs.Order.{ComesTo, table_begins}
use Rattle.pb_tdf.specs.Inside.Items.{Limited}
use Rattle.pb_tdf.specs.Places.{table_limit, after_tables}
use Rattle.pb_tdf.specs.View.{TableView, view_of}
use Rattle.pb_tdf.specs.Refusal.{HasCause}
use Rattle.pb_tdf.specs.Inside.Passing.{MakesTable, TablesSoFar, IsStopped}
use Rattle.pb_tdf.specs.Refusal.{IsRefused, IsRefusedAfter, VersionedFault, FileFault, ReadsFile}
use Rattle.pb_tdf.proofs.PrefixLemmas.{flat_map-last, All-last}
use Rattle.pb_tdf.proofs.PathLemmas.{table-comes}
use Rattle.pb_tdf.proofs.ItemLemmas.{one_outcome}
use Rattle.pb_tdf.proofs.EndLemmas.{TableRead}
use Rattle.pb_tdf.proofs.RefusalLemmas.{limited, was-table, table-once, table-outcome, never, memory-alone}

-- ---- limits

pub limit-near : (k at : ℕ) → table_limit k at ≤ at + table_bytes_max
limit-near k at = go (ltb k tables_max)
  where
    go : (b : Bool) → cond b (min file_bytes_max (at + table_bytes_max)) at ≤ at + table_bytes_max
    go true = omega arith
    go false = omega arith

pub limit-in-file : (k at : ℕ) → at ≤ file_bytes_max → table_limit k at ≤ file_bytes_max
limit-in-file k at le = go (ltb k tables_max)
  where
    go : (b : Bool) → cond b (min file_bytes_max (at + table_bytes_max)) at ≤ file_bytes_max
    go true = omega arith
    go false = omega arith

limit-leaves : (k at : ℕ) → at < table_limit k at → k < tables_max
limit-leaves k at lt = go (ltb k tables_max) refl lt
  where
    go : (b : Bool) → ltb k tables_max ≡ b → at < cond b (min file_bytes_max (at + table_bytes_max)) at → k < tables_max
    go true e lt = ltb-true _ _ e
    go false e lt = absurd (omega (arith, lt))

some-bytes : (d : Definition) → 0 < length (table_bytes d)
some-bytes d =
    let rest : List ℕ = word d.size ++ d.time_type ∷ (time_bytes d.into ++ (time_bytes d.interval ++ (flat_map field_bytes d.fields ++ 0 ∷ []))) in
    omega (arith, length-append (text d.name) rest, length-append d.name (0 ∷ []))

-- ---- tables so far

pub no-table-yet : (bytes : List ℕ) (u : Unread) → IsBytes bytes → number_at w8 (whole bytes) ≡ Ok (version, u) → TablesSoFar bytes u []
no-table-yet bytes u fits e =
    let t = byte-takes (whole bytes) version u fits e in
    record { definitions = []; each = tt; count = omega arith; within = omega arith; parts = t.0.bytes; at = omega (arith, t.0.at); fits = t.0.rest; are_views = refl }

pub more-tables : (bytes : List ℕ) (u : Unread) (tables : List TableView) (k : ℕ) (new : Limited) (t : TableView) → TablesSoFar bytes u tables → k ≡ length tables → MakesTable (limited u (table_limit k u.at)) new (Ok t)
    → TablesSoFar bytes new.left (tables ++ t ∷ []) × (length new.left.rest < length u.rest)
more-tables bytes u tables k new t so count makes =
    let d : Definition = makes.0 in
    let w = was-table (table_limit k u.at) u d new.left so.fits (limit-near k u.at) makes.1 in
    let some = some-bytes d in
    let ds : List Definition = so.definitions ++ d ∷ [] in
    let many : k ≡ length so.definitions = count ∙ ap length so.are_views ∙ length-map so.definitions view_of in
    let below : k < tables_max = limit-leaves k u.at (omega (arith, w.at, w.below, some)) in
    let joined : tables_bytes ds ≡ tables_bytes so.definitions ++ table_bytes d = flat_map-last table_bytes so.definitions d in
    let len : length (tables_bytes ds) ≡ length (tables_bytes so.definitions) + length (table_bytes d) = ap length joined ∙ length-append (tables_bytes so.definitions) (table_bytes d) in
    let in_file = limit-in-file k u.at (omega (arith, so.at, so.within)) in (
      record {
        definitions = ds;
        each = All-last IsTable so.definitions d so.each w.is;
        count = omega (arith, many, below, length-append so.definitions (d ∷ []));
        within = omega (arith, len, w.at, w.below, in_file, so.at);
        parts = so.parts ∙ ap (λ (x : List ℕ). version ∷ (tables_bytes so.definitions ++ x)) w.parts
            ∙ ap (λ (x : List ℕ). version ∷ x) (sym (append_assoc (tables_bytes so.definitions) (table_bytes d) new.left.rest) ∙ ap (λ (x : List ℕ). x ++ new.left.rest) (sym joined));
        at = omega (arith, w.at, so.at, len);
        fits = w.left;
        are_views = ap (λ x. x ++ t ∷ []) so.are_views ∙ ap (λ x. map view_of so.definitions ++ x ∷ []) makes.2 ∙ sym (map_push view_of so.definitions d);
      },
      omega (arith, ap length w.parts, length-append (table_bytes d) new.left.rest, some),
    )

pub refused-after : (bytes : List ℕ) (u : Unread) (tables : List TableView) (k : ℕ) (fault : TdfFault) → TablesSoFar bytes u tables → k ≡ length tables → 0 < length u.rest
    → IsStopped (limited u (table_limit k u.at)) (table_begins u) fault → FileFault bytes fault
refused-after bytes u tables k fault so count some stopped =
    let many : k ≡ length so.definitions = count ∙ ap length so.are_views ∙ length-map so.definitions view_of in
    let there : u ≡ unread (after_tables so.definitions) u.rest = ap (λ (at : ℕ). unread at u.rest) so.at in
    let at-limit : IsRefused (table_limit (length so.definitions) u.at) u fault = subst (λ (n : ℕ). IsRefused (table_limit n u.at) u fault) many stopped in
    let behind : IsRefusedAfter (version ∷ (tables_bytes so.definitions ++ u.rest)) fault = record {
      tables = so.definitions;
      left = u.rest;
      each = so.each;
      count = so.count;
      within = so.within;
      some = some;
      parts = refl;
      refused = subst (λ (x : Unread). IsRefused (table_limit (length so.definitions) x.at) x fault) there at-limit;
    } in
    subst (λ (b : List ℕ). FileFault b fault) (sym so.parts) behind

pub whole-file : (bytes : List ℕ) (u : Unread) (tables : List TableView) → TablesSoFar bytes u tables → length u.rest ≡ 0 → (ds : List Definition) × FileBytes ds bytes × (tables ≡ map view_of ds)
whole-file bytes u tables so none =
    let same : bytes ≡ version ∷ tables_bytes so.definitions = so.parts ∙ ap (λ (x : List ℕ). version ∷ (tables_bytes so.definitions ++ x)) (nil_from_length u.rest none) ∙ ap (λ (x : List ℕ). version ∷ x) (append-nil (tables_bytes so.definitions)) in
    (so.definitions, record { each = so.each; count = so.count; len = omega (arith, ap length same, so.within); same = same }, so.are_views)

-- ---- a file is read in one way alone

prefix-table : (d e : Definition) (x y : List ℕ) → IsTable d → IsTable e → table_bytes d ++ x ≡ table_bytes e ++ y → (d ≡ e) × (x ≡ y)
prefix-table d e x y p q same =
    let k = table-comes table_bytes_max 0 e y q.formed q.within (omega (arith, q.within.bytes)) in
    let once = table-once table_bytes_max 0 d e x _ p (omega (arith, p.within.bytes)) (subst (λ (b : List ℕ). ComesTo table_bytes_max (table_begins (unread 0 b)) (Ok (e, unread (0 + length (table_bytes e)) y))) (sym same) k) in
    (once.0, ap (λ (u : Unread). u.rest) once.1)

first-table : (d : Definition) (ds : List Definition) (x : List ℕ) → tables_bytes (d ∷ ds) ++ x ≡ table_bytes d ++ (tables_bytes ds ++ x)
first-table d ds x = ap (λ b. b ++ x) (flat_map-cons table_bytes d ds) ∙ append_assoc (table_bytes d) (tables_bytes ds) x

-- whole tables at the beginning of a file's tables are the first of them
prefix-tables : (ts ds : List Definition) (left : List ℕ) → AllByRecursion IsTable ts → AllByRecursion IsTable ds → tables_bytes ts ++ left ≡ tables_bytes ds
    → (more : List Definition) × (ds ≡ ts ++ more) × (left ≡ tables_bytes more) × AllByRecursion IsTable more
prefix-tables [] ds left all each same = (ds, refl, same, each)
prefix-tables (t ∷ ts) [] left all each same = absurd (omega (arith, ap length (sym (first-table t ts left) ∙ same), length-append (table_bytes t) (tables_bytes ts ++ left), some-bytes t))
prefix-tables (t ∷ ts) (d ∷ ds) left all each same =
    let both = prefix-table t d (tables_bytes ts ++ left) (tables_bytes ds) all.0 each.0 (sym (first-table t ts left) ∙ same ∙ flat_map-cons table_bytes d ds) in
    let rest = prefix-tables ts ds left all.1 each.1 both.1 in
    (rest.0, ap (λ x. x ∷ ds) (sym both.0) ∙ ap (λ x. t ∷ x) rest.1, rest.2, rest.3)

tail_is : (x y : List ℕ) → version ∷ x ≡ version ∷ y → x ≡ y
tail_is x y e = cc

no-table-left : (more : List Definition) → [] ≡ tables_bytes more → more ≡ []
no-table-left [] e = refl
no-table-left (d ∷ more) e = absurd (omega (arith, ap length (e ∙ flat_map-cons table_bytes d more), length-append (table_bytes d) (tables_bytes more), some-bytes d))

-- one list of bytes is at most one file
pub one-file : (bytes : List ℕ) (ds es : List Definition) → FileBytes ds bytes → FileBytes es bytes → ds ≡ es
one-file bytes ds es p q =
    let k = prefix-tables ds es [] p.each q.each (append-nil (tables_bytes ds) ∙ tail_is _ _ (sym p.same ∙ q.same)) in
    sym (k.1 ∙ ap (λ (x : List Definition). ds ++ x) (no-table-left k.0 k.2) ∙ append-nil ds)

-- a table that ends within its limits isn't refused
not-refused : (d : Definition) (rest : List ℕ) (limit at : ℕ) (fault : TdfFault) → IsTable d → at + length (table_bytes d) ≤ limit → IsRefused limit (unread at (table_bytes d ++ rest)) fault → ⊥
not-refused d rest limit at fault is fits refused = never _ fault (table-outcome limit at d rest (Err fault) is fits refused)

limit-there : (k at len : ℕ) → k < tables_max → at + len ≤ file_bytes_max → len ≤ table_bytes_max → at + len ≤ table_limit k at
limit-there k at len lt in_file short = go (ltb k tables_max) (lt-ltb _ _ lt)
  where
    go : (b : Bool) → b ≡ true → at + len ≤ cond b (min file_bytes_max (at + table_bytes_max)) at
    go true e = omega arith
    go false e = absurd cc

left-is-read : (ts more : List Definition) (left bytes : List ℕ) (fault : TdfFault) → AllByRecursion IsTable more → left ≡ tables_bytes more → 0 < length left → length ts + length more ≤ tables_max
    → after_tables ts + length left ≤ file_bytes_max → IsRefused (table_limit (length ts) (after_tables ts)) (unread (after_tables ts) left) fault → ⊥
left-is-read ts [] left bytes fault all same some count len refused = omega (arith, some, ap length same)
left-is-read ts (d ∷ more) left bytes fault all same some count len refused =
    let parts : left ≡ table_bytes d ++ tables_bytes more = same ∙ flat_map-cons table_bytes d more in
    let size = length-append (table_bytes d) (tables_bytes more) in
    let limit : ℕ = table_limit (length ts) (after_tables ts) in
    let fits : after_tables ts + length (table_bytes d) ≤ limit = limit-there (length ts) (after_tables ts) (length (table_bytes d)) (omega (arith, count)) (omega (arith, len, ap length parts, size)) all.0.within.bytes in
    not-refused d (tables_bytes more) limit (after_tables ts) fault all.0 fits (subst (λ (b : List ℕ). IsRefused limit (unread (after_tables ts) b) fault) parts refused)

-- a file's bytes have no fault
pub no-file-fault : (bytes : List ℕ) (ds : List Definition) (fault : TdfFault) → FileBytes ds bytes → FileFault bytes fault → ⊥
no-file-fault bytes ds fault p f =
    let r : IsRefusedAfter (version ∷ tables_bytes ds) fault = subst (λ (b : List ℕ). FileFault b fault) p.same f in
    let same : tables_bytes r.tables ++ r.left ≡ tables_bytes ds = tail_is _ _ (sym r.parts) in
    let k = prefix-tables r.tables ds r.left r.each p.each same in
    let count : length ds ≡ length r.tables + length k.0 = ap length k.1 ∙ length-append r.tables k.0 in
    let len : length bytes ≡ after_tables r.tables + length r.left = omega (arith, ap length p.same, ap length same, length-append (tables_bytes r.tables) r.left) in
    left-is-read r.tables k.0 r.left bytes fault k.3 k.2 r.some (omega (arith, count, p.count)) (omega (arith, len, p.len)) r.refused

pub file-only : (bytes : List ℕ) (r : Result (List TableView) TdfFault) → IfOk r (λ tables. (ds : List Definition) × FileBytes ds bytes × (tables ≡ map view_of ds)) → IfErr r (HasCause (FileFault bytes))
    → (ds : List Definition) → FileBytes ds bytes → ReadsFile r ds
file-only bytes (Ok tables) found refused ds is = found.2 ∙ ap (map view_of) (one-file bytes found.0 ds found.1 is)
file-only bytes (Err fault) found refused ds is = memory-alone (FileFault bytes) fault refused (λ f h. no-file-fault bytes ds f is h)

-- ---- a file has one fault at most

err_is : (x y : TdfFault) → (let o : TableRead = Err x in let r : TableRead = Err y in o ≡ r) → x ≡ y
err_is x y e = cc

-- a table is refused after these, of which so many came before, and the first began at a place
abbrev RefusedFrom : ℕ → ℕ → List Definition → List ℕ → TdfFault → Type 0
RefusedFrom k at ts left fault = let end = at + length (tables_bytes ts) in IsRefused (table_limit (k + length ts) end) (unread end left) fault

abbrev RoomFor : ℕ → ℕ → List Definition → Type 0
RoomFor k at ts = (k + length ts ≤ tables_max) × (at + length (tables_bytes ts) ≤ file_bytes_max)

tables-len : (d : Definition) (ds : List Definition) → length (tables_bytes (d ∷ ds)) ≡ length (table_bytes d) + length (tables_bytes ds)
tables-len d ds = ap length (flat_map-cons table_bytes d ds) ∙ length-append (table_bytes d) (tables_bytes ds)

-- a refused table isn't one that can be read
none-refused : (k at : ℕ) (u : Definition) (us : List Definition) (x y : List ℕ) (f : TdfFault) → IsTable u → RoomFor k at (u ∷ us) → x ≡ tables_bytes (u ∷ us) ++ y → IsRefused (table_limit k at) (unread at x) f → ⊥
none-refused k at u us x y f is room same refused =
    let parts : x ≡ table_bytes u ++ (tables_bytes us ++ y) = same ∙ first-table u us y in
    let fits = limit-there k at (length (table_bytes u)) (omega (arith, room.0)) (omega (arith, room.1, tables-len u us)) is.within.bytes in
    not-refused u (tables_bytes us ++ y) (table_limit k at) at f is fits (subst (λ (b : List ℕ). IsRefused (table_limit k at) (unread at b) f) parts refused)

from-none : (k at : ℕ) (x : List ℕ) (f : TdfFault) → RefusedFrom k at [] x f → IsRefused (table_limit k at) (unread at x) f
from-none k at x f r =
    let a : at + 0 ≡ at = omega arith in
    let b : k + 0 ≡ k = omega arith in
    subst (λ (n : ℕ). IsRefused (table_limit n at) (unread at x) f) b (subst (λ (e : ℕ). IsRefused (table_limit (k + 0) e) (unread e x) f) a r)

from-next : (k at : ℕ) (d : Definition) (ds : List Definition) (x : List ℕ) (f : TdfFault) → RefusedFrom k at (d ∷ ds) x f → RefusedFrom (k + 1) (at + length (table_bytes d)) ds x f
from-next k at d ds x f r =
    let a : at + length (tables_bytes (d ∷ ds)) ≡ at + length (table_bytes d) + length (tables_bytes ds) = omega (arith, tables-len d ds) in
    let b : k + length (d ∷ ds) ≡ k + 1 + length ds = omega arith in
    let end : ℕ = at + length (table_bytes d) + length (tables_bytes ds) in
    subst (λ (n : ℕ). IsRefused (table_limit n end) (unread end x) f) b (subst (λ (e : ℕ). IsRefused (table_limit (k + length (d ∷ ds)) e) (unread e x) f) a r)

next-room : (k at : ℕ) (d : Definition) (ds : List Definition) → RoomFor k at (d ∷ ds) → RoomFor (k + 1) (at + length (table_bytes d)) ds
next-room k at d ds room = (omega (arith, room.0), omega (arith, room.1, tables-len d ds))

one-refusal : (k at : ℕ) (ts us : List Definition) (x y : List ℕ) (f g : TdfFault) → AllByRecursion IsTable ts → AllByRecursion IsTable us → RoomFor k at ts → RoomFor k at us → tables_bytes ts ++ x ≡ tables_bytes us ++ y
    → RefusedFrom k at ts x f → RefusedFrom k at us y g → f ≡ g
one-refusal k at [] [] x y f g all each room space same p q =
    let a = from-none k at x f p in
    let b = subst (λ (z : List ℕ). IsRefused (table_limit k at) (unread at z) g) (sym same) (from-none k at y g q) in
    err_is f g (one_outcome (table_limit k at) (table_begins (unread at x)) a.last b.last (Err f) (Err g) a.items a.ends b.items b.ends)
one-refusal k at [] (u ∷ us) x y f g all each room space same p q = absurd (none-refused k at u us x y f each.0 space same (from-none k at x f p))
one-refusal k at (t ∷ ts) [] x y f g all each room space same p q = absurd (none-refused k at t ts y x g all.0 room (sym same) (from-none k at y g q))
one-refusal k at (t ∷ ts) (u ∷ us) x y f g all each room space same p q =
    let both = prefix-table t u (tables_bytes ts ++ x) (tables_bytes us ++ y) all.0 each.0 (sym (first-table t ts x) ∙ same ∙ first-table u us y) in
    let next : ℕ = at + length (table_bytes t) in
    let e : length (table_bytes u) ≡ length (table_bytes t) = ap (λ (d : Definition). length (table_bytes d)) (sym both.0) in
    one-refusal (k + 1) next ts us x y f g all.1 each.1 (next-room k at t ts room) (subst (λ (n : ℕ). RoomFor (k + 1) (at + n) us) e (next-room k at u us space)) both.1 (from-next k at t ts x f p)
    (subst (λ (n : ℕ). RefusedFrom (k + 1) (at + n) us y g) e (from-next k at u us y g q))

pub one-file-fault : (bytes : List ℕ) (f g : TdfFault) → FileFault bytes f → FileFault bytes g → f ≡ g
one-file-fault [] f g p q = p ∙ sym q
one-file-fault (first ∷ rest) f g p q = by-version (eqb first version) p q
  where
    by-version : (b : Bool) → VersionedFault b (first ∷ rest) f → VersionedFault b (first ∷ rest) g → f ≡ g
    by-version true r s =
        let same : tables_bytes r.tables ++ r.left ≡ tables_bytes s.tables ++ s.left = tail_is _ _ (sym r.parts ∙ s.parts) in
        one-refusal 0 1 r.tables s.tables r.left s.left f g r.each s.each (omega (arith, r.count), r.within) (omega (arith, s.count), s.within) same
        (subst (λ (n : ℕ). IsRefused (table_limit n (after_tables r.tables)) (unread (after_tables r.tables) r.left) f) (omega arith) r.refused)
        (subst (λ (n : ℕ). IsRefused (table_limit n (after_tables s.tables)) (unread (after_tables s.tables) s.left) g) (omega arith) s.refused)
    by-version false r s = r ∙ sym s
