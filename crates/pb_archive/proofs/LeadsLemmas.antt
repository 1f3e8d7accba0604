-- Lists of entries, and the archive that each is.
use Rattle.std.proofs.Common.{◌≡◌, ℕ, ◌≤◌, List, [], ◌∷◌, ◌++◌, length, get_or, drop, Some, None, refl, sym, ap, subst, ◌∙◌, arith, length-append, append_assoc}
use Rattle.std.specs.Prelude.{Option}
use Rattle.std.specs.List.{AllByRecursion, flat_map}
use Rattle.pb_tdf.specs.Definition.{TableBytes, table_bytes}
use Rattle.pb_tdf.proofs.RefusalLemmas.{one-table}
use Rattle.pb_archive.specs.declared.plan.StationPlan.{StationPlan}
use Rattle.pb_archive.specs.Plan.{Plan, stations_max, IsStation, IsPlan}
use Rattle.pb_archive.specs.Archive.{Archive}
use Rattle.pb_archive.specs.Entry.{Change, Added, Advanced, Stopped, IsTold, told_bytes, change_bytes, station_bytes, plan_bytes, IsAllowed, archive_after, created, Leads, IsArchive}
use Rattle.pb_archive.specs.Inside.{IsSpelled, IsHeld, IsRegister, AllowsHere}
use Rattle.pb_archive.specs.Opened.{Register, kept_of, new_held, register_after, ended}
use Rattle.pb_tdf.specs.View.{view_of}
use Rattle.pb_archive.proofs.PlanLemmas.{Each-append}
use Rattle.pb_archive.proofs.HeldLemmas.{Each-changed_at, length-changed_at, register_advanced}
use Rattle.pb_archive.proofs.BytesLemmas.{half_next, word_next, station_next, station_spelled}
use Rattle.pb_archive.proofs.RegisterLemmas.{kept_after, here_allowed, spelled_allowed}

-- ---- one more

pub Leads-push : (a b : Archive) (bodies : List (List ℕ)) (body : List ℕ) (change : Change) → Leads a bodies b → body ≡ change_bytes change → IsAllowed b change
    → Leads a (bodies ++ body ∷ []) (archive_after b change)
Leads-push a b [] body change leads bytes allowed =
    let here = subst (λ (x : Archive). IsAllowed x change) leads allowed in
    (change, bytes, here, ap (λ (x : Archive). archive_after x change) leads)
Leads-push a b (first ∷ bodies) body change leads bytes allowed = (leads.0, leads.1, leads.2, Leads-push (archive_after a leads.0) b bodies body change leads.3 bytes allowed)

pub IsArchive-push : (b : Archive) (bodies : List (List ℕ)) (body : List ℕ) (change : Change) → IsArchive bodies b → body ≡ change_bytes change → IsAllowed b change
    → IsArchive (bodies ++ body ∷ []) (archive_after b change)
IsArchive-push b [] body change is bytes allowed = absurd is
IsArchive-push b (first ∷ bodies) body change is bytes allowed = (is.0, is.1, is.2, Leads-push (created is.0) b bodies body change is.3 bytes allowed)

-- ---- what is kept stays within the limits

pub register_kept : (r : Register) (change : Change) → IsRegister r → AllowsHere r change → IsRegister (register_after r change)
register_kept r (Added station number d) kept allows = record {
  each = Each-append (IsHeld r.plan) r.tables _ kept.each (record { there = allows.there; layout = allows.collected; gaps = omega arith; numbers = omega arith }, tt);
  few = omega (arith, allows.room, length-append r.tables (new_held station number (view_of d) ∷ []));
}
register_kept r (Advanced id adv) kept allows = register_advanced r id adv allows.0 kept allows.1.there allows.2
register_kept r (Stopped id stop) kept allows = record {
  each = Each-changed_at (IsHeld r.plan) (ended stop) r.tables id (λ x is held. record { there = held.there; layout = held.layout; gaps = held.gaps; numbers = held.numbers }) kept.each;
  few = omega (arith, kept.few, length-changed_at (ended stop) r.tables id);
}

pub kept_allowed : (a : Archive) (change : Change) → IsRegister (kept_of a) → length a.plan.stations ≤ stations_max → IsAllowed a change → IsRegister (kept_of (archive_after a change))
kept_allowed a change kept few allowed =
    subst IsRegister (sym (kept_after a change allowed)) (register_kept (kept_of a) change kept (here_allowed a kept few change allowed))

pub same_plan : (a : Archive) (change : Change) → (archive_after a change).plan ≡ a.plan
same_plan a (Added station number d) = refl
same_plan a (Advanced id adv) = refl
same_plan a (Stopped id stop) = refl

-- ---- one reading

told_one : (s t : Option ℕ) → IsTold s → IsTold t → told_bytes s ≡ told_bytes t → s ≡ t
told_one None None ls lt is = refl
told_one None (Some n) ls lt is = absurd (cc is)
told_one (Some n) None ls lt is = absurd (cc is)
told_one (Some n) (Some m) ls lt is = ap (λ (k : ℕ). Some k) (half_next n m [] [] ls lt (ap (drop 1) is)).0

pub change_one : (c d : Change) → IsSpelled c → IsSpelled d → change_bytes c ≡ change_bytes d → c ≡ d
change_one (Added s n d) (Added t m e) sc sd is =
    let station : s ≡ t = cc is in
    let number = half_next n m (table_bytes d) (table_bytes e) sc.1 sd.1 (ap (drop 2) is) in
    let table = one-table (table_bytes d) d e sc.2 (subst (TableBytes e) (sym number.1) sd.2) in
    λ j. Added (station j) (number.0 j) (table j)
change_one (Advanced i a) (Advanced k b) sc sd is =
    let id = half_next i k _ _ sc.0 sd.0 (ap (drop 1) is) in
    let form : a.form ≡ b.form = cc id.1 in
    let first = word_next a.first b.first _ _ sc.2 sd.2 (ap (drop 1) id.1) in
    let count = half_next a.count b.count a.bytes b.bytes sc.3 sd.3 first.1 in
    λ j. Advanced (id.0 j) (record { form = form j; first = first.0 j; count = count.0 j; bytes = count.1 j })
change_one (Stopped i s) (Stopped k t) sc sd is =
    let id = half_next i k (told_bytes s.told) (told_bytes t.told) sc.0 sd.0 (ap (drop 1) is) in
    let told = told_one s.told t.told sc.1 sd.1 id.1 in
    λ j. Stopped (id.0 j) (record { told = told j })
change_one (Added s n d) (Advanced k b) sc sd is = absurd (omega (arith, ap (λ (l : List ℕ). get_or l 0 0) is))
change_one (Added s n d) (Stopped k t) sc sd is = absurd (omega (arith, ap (λ (l : List ℕ). get_or l 0 0) is))
change_one (Advanced i a) (Added t m e) sc sd is = absurd (omega (arith, ap (λ (l : List ℕ). get_or l 0 0) is))
change_one (Advanced i a) (Stopped k t) sc sd is = absurd (omega (arith, ap (λ (l : List ℕ). get_or l 0 0) is))
change_one (Stopped i s) (Added t m e) sc sd is = absurd (omega (arith, ap (λ (l : List ℕ). get_or l 0 0) is))
change_one (Stopped i s) (Advanced k b) sc sd is = absurd (omega (arith, ap (λ (l : List ℕ). get_or l 0 0) is))

stations_one : (me you : ℕ) (ss ts : List StationPlan) → AllByRecursion (IsStation me) ss → AllByRecursion (IsStation you) ts → flat_map station_bytes ss ≡ flat_map station_bytes ts → ss ≡ ts
stations_one me you [] [] es et is = refl
stations_one me you [] (t ∷ ts) es et is = absurd (cc is)
stations_one me you (s ∷ ss) [] es et is = absurd (cc is)
stations_one me you (s ∷ ss) (t ∷ ts) es et is =
    let first = station_next s t _ _ (station_spelled me s es.0) (station_spelled you t et.0) is in
    let rest = stations_one me you ss ts es.1 et.1 first.1 in
    λ j. first.0 j ∷ rest j

pub plan_one : (p q : Plan) → IsPlan p → IsPlan q → plan_bytes p ≡ plan_bytes q → p ≡ q
plan_one p q ip iq is =
    let me = half_next p.me q.me _ _ (omega (arith, ip.begun.me)) (omega (arith, iq.begun.me)) (ap (drop 1) is) in
    let via = half_next p.via q.via _ _ (omega (arith, ip.begun.via)) (omega (arith, iq.begun.via)) me.1 in
    let stations = stations_one p.me q.me p.stations q.stations ip.begun.each iq.begun.each (ap (drop 1) via.1) in
    λ j. record { me = me.0 j; via = via.0 j; stations = stations j }

pub leads_one : (a b c : Archive) (bodies : List (List ℕ)) → IsRegister (kept_of a) → length a.plan.stations ≤ stations_max → Leads a bodies b → Leads a bodies c → b ≡ c
leads_one a b c [] kept few one other = one ∙ sym other
leads_one a b c (body ∷ bodies) kept few one other =
    let same = change_one one.0 other.0 (spelled_allowed a kept few one.0 one.2) (spelled_allowed a kept few other.0 other.2) (sym one.1 ∙ other.1) in
    let there = subst (λ (x : Change). Leads (archive_after a x) bodies c) (sym same) other.3 in
    leads_one (archive_after a one.0) b c bodies (kept_allowed a one.0 kept few one.2)
    (subst (λ (p : Plan). length p.stations ≤ stations_max) (sym (same_plan a one.0)) few) one.3 there

created_kept : (p : Plan) → IsRegister (kept_of (created p))
created_kept p = record { each = tt; few = omega arith }

-- a list of entries is at most one archive
pub one_archive : (bodies : List (List ℕ)) (a b : Archive) → IsArchive bodies a → IsArchive bodies b → a ≡ b
one_archive [] a b one other = absurd one
one_archive (body ∷ bodies) a b one other =
    let same = plan_one one.0 other.0 one.2 other.2 (sym one.1 ∙ other.1) in
    let there = subst (λ (p : Plan). Leads (created p) bodies b) (sym same) other.3 in
    leads_one (created one.0) a b bodies (created_kept one.0) one.2.begun.few one.3 there

-- what follows a list of entries is one change more
Leads-last : (a c : Archive) (bodies : List (List ℕ)) (body : List ℕ) → Leads a (bodies ++ body ∷ []) c
    → (b : Archive) × Leads a bodies b × ((change : Change) × (body ≡ change_bytes change) × IsAllowed b change)
Leads-last a c [] body leads = (a, refl, (leads.0, leads.1, leads.2))
Leads-last a c (first ∷ bodies) body leads =
    let last = Leads-last (archive_after a leads.0) c bodies body leads.3 in
    (last.0, (leads.0, leads.1, leads.2, last.1), last.2)

-- no change with these bytes is allowed: the entries with this one more are no archive
pub none_with : (a c : Archive) (bodies : List (List ℕ)) (body : List ℕ) → IsArchive bodies a → ((change : Change) → body ≡ change_bytes change → IsAllowed a change → ⊥) → IsArchive (bodies ++ body ∷ []) c → ⊥
none_with a c [] body is none other = absurd is
none_with a c (first ∷ bodies) body is none other =
    let last = Leads-last (created other.0) c bodies body other.3 in
    let same = one_archive (first ∷ bodies) last.0 a (other.0, other.1, other.2, last.1) is in
    none last.2.0 last.2.1 (subst (λ (x : Archive). IsAllowed x last.2.0) same last.2.2)

-- ---- the beginning of an archive's entries

Leads-left : (a c : Archive) (bodies more : List (List ℕ)) → Leads a (bodies ++ more) c → (b : Archive) × Leads a bodies b
Leads-left a c [] more leads = (a, refl)
Leads-left a c (body ∷ bodies) more leads =
    let rest = Leads-left (archive_after a leads.0) c bodies more leads.3 in
    (rest.0, (leads.0, leads.1, leads.2, rest.1))

pub IsArchive-left : (c : Archive) (bodies : List (List ℕ)) (body : List ℕ) (more : List (List ℕ)) → IsArchive (bodies ++ body ∷ more) c → (b : Archive) × IsArchive (bodies ++ body ∷ []) b
IsArchive-left c [] body more is = (created is.0, (is.0, is.1, is.2, refl))
IsArchive-left c (first ∷ bodies) body more is =
    let rest = Leads-left (created is.0) c (bodies ++ body ∷ []) more (subst (λ (l : List (List ℕ)). Leads (created is.0) l c) (sym (append_assoc bodies (body ∷ []) more)) is.3) in
    (rest.0, (is.0, is.1, is.2, rest.1))
