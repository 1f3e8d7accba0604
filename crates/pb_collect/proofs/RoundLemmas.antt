-- The tables of a round, one after the other.
use Rattle.std.proofs.Common.{◌≡◌, ◌⊎◌, inl, inr, ⊎_elim, ℕ, zero, suc, ◌+◌, ◌<◌, ◌≤◌, List, [], ◌∷◌, ◌++◌, length, map, Option, Some, refl, sym, ◌∙◌, ap, subst, append-nil, length-append, arith}
use Rattle.std.specs.Prelude.{slice_get}
use Rattle.std.specs.List.{AllByRecursion}
use Rattle.std.proofs.lemmas.Option.{none-some, same_Some}
use Rattle.pb_base.specs.World.{heard}
use Rattle.pb_frame.specs.Hearing.{StandsFor}
use Rattle.pb_io.specs.View.{View, Link, IsLawful, LeavesOnly}
use Rattle.pb_archive.specs.Archive.{Archive}
use Rattle.pb_archive.specs.Held.{HasArchive}
use Rattle.pb_archive.specs.Plan.{Plan}
use Rattle.pb_archive.specs.Opened.{OpenArchive, Register, IsOpen, register_of, held_of}
use Rattle.pb_archive.specs.declared.held.Held.{Held}
use Rattle.pb_archive.proofs.RegisterLemmas.{at_before}
use Rattle.pb_journal.proofs.EntryLemmas.{rests_entries}
use Rattle.pb_trans.specs.declared.asked.Limits.{Limits}
use Rattle.pb_ask.specs.Listening.{Listening}
use Rattle.pb_collect.specs.Changing.{ChangesOnly}
use Rattle.pb_collect.specs.Exchanges.{RoseAlone}
use Rattle.pb_collect.specs.Heard.{Listens}
use Rattle.pb_collect.specs.Kept.{Collects, GoesOnBy, StaysOrCollects}
use Rattle.pb_collect.specs.Round.{AllCameOut, AllEnd, AreInOrder, Asks, AsksBy, ComesTo, CountsOf, EndsAt, FrontsStand, IsDone, Reaches}
use Rattle.pb_collect.specs.declared.collector.RoundResult.{RoundResult}
use Rattle.pb_collect.specs.declared.collector.RoundResult.TheVariants.{Done, Incomplete, DiskFault, LinkFault}
use Rattle.pb_collect.specs.Tables.{CameOut, Channel, EndsBy}
use Rattle.pb_collect.specs.declared.outcome.Outcome.{Outcome}
use Rattle.pb_collect.proofs.ChangingLemmas.{same_as}
use Rattle.pb_collect.proofs.FragmentLemmas.{get_below}
use Rattle.pb_collect.proofs.KeptLemmas.{has_before, now_from, same_archive}
use Rattle.pb_collect.proofs.RequestLemmas.{get_there}

-- a link of which nothing was heard yet in this round
pub listens_new : (l : Listening) (link : Link) → l.inbox ≡ [] → StandsFor l.ear [] → Listens l link
listens_new l link none stands = record {
  judged = [];
  stands = stands;
  hears = λ w world. (heard w, sym (ap (λ i. (heard w ++ []) ++ i) none ∙ append-nil (heard w ++ []) ∙ append-nil (heard w)));
}

pub order_push : (n : ℕ) (os : List Outcome) (o : Outcome) → AreInOrder n os → o.table.0 ≡ n + length os → AreInOrder n (os ++ o ∷ [])
order_push n [] o order is = (omega (arith, is), tt)
order_push n (x ∷ os) o order is = (order.0, order_push (suc n) os o order.1 (omega (arith, is)))

pub length-pushed : (old new : List Outcome) (o : Outcome) → new ≡ old ++ o ∷ [] → length new ≡ length old + 1
length-pushed old new o is = ap (λ (l : List Outcome). length l) is ∙ length-append old (o ∷ [])

-- ---- requests of all tables

pub all_push : (limits : Limits) (r : Register) (os : List Outcome) (o : Outcome) (from mid to : Channel) → AllEnd limits r os from mid → EndsAt limits r o mid to → AllEnd limits r (os ++ o ∷ []) from to
all_push limits r [] o from mid to all ends = (to, subst (λ (k : Channel). EndsAt limits r o k to) all ends, refl)
all_push limits r (x ∷ os) o from mid to all ends = (all.0, all.1, all_push limits r os o all.0 mid to all.2 ends)

-- ---- how far a round came

get_pushed : {A : Type 0} (xs : List A) (x y : A) (n : ℕ) → slice_get (xs ++ x ∷ []) n ≡ Some y → (slice_get xs n ≡ Some y) ⊎ ((n ≡ length xs) × (y ≡ x))
get_pushed [] x y zero is = inr (refl, sym (same_Some x y is))
get_pushed [] x y (suc n) is = absurd (none-some y is)
get_pushed (z ∷ xs) x y zero is = inl is
get_pushed (z ∷ xs) x y (suc n) is = ⊎_elim (λ p. inl p) (λ p. inr (ap suc p.0, p.1)) (get_pushed xs x y n is)

-- the tables that aren't begun are as they were
pub record Reached (os : List Outcome) (old new : Register) : Type 0 where
  pub plan : new.plan ≡ old.plan
  pub count : length new.tables ≡ length old.tables
  pub came : AllCameOut os old new
  pub later : (n : ℕ) → length os ≤ n → slice_get new.tables n ≡ slice_get old.tables n

pub reached_none : (os : List Outcome) (r : Register) → os ≡ [] → Reached os r r
reached_none os r none = record {
  plan = refl;
  count = refl;
  came = λ n o before after is was then. absurd (none-some o (ap (λ (l : List Outcome). slice_get l n) (sym none) ∙ is));
  later = λ n below. refl;
}

pub reached_all : (os : List Outcome) (old new : Register) → Reached os old new → Reaches os old new
reached_all os old new r = record {
  plan = r.plan;
  count = r.count;
  came = r.came;
  begun = λ before after was then. same_as before after (same_Some after before (sym then ∙ (r.later (length os) (omega arith) ∙ was)));
  later = λ n above. r.later n (omega (arith, above));
}

module _ (os : List Outcome) (old mid new : Register) (reached : Reached os old mid) (changes : ChangesOnly (length os) mid new) where
  came_before : (n : ℕ) (o : Outcome) (before after : Held) → slice_get os n ≡ Some o → slice_get old.tables n ≡ Some before → slice_get new.tables n ≡ Some after → CameOut n before after o
  came_before n o before after is was then =
      let below = get_below os n o is in
      reached.came n o before after is was (sym (changes.others n (λ same. absurd (omega (arith, same, below)))) ∙ then)

  mid_here : (before : Held) → slice_get old.tables (length os) ≡ Some before → slice_get mid.tables (length os) ≡ Some before
  mid_here before was = reached.later (length os) (omega arith) ∙ was

  -- the next table came out
  pub reached_next : (o : Outcome) → ((before after : Held) → slice_get mid.tables (length os) ≡ Some before → slice_get new.tables (length os) ≡ Some after → CameOut (length os) before after o)
      → Reached (os ++ o ∷ []) old new
  reached_next o came = record {
    plan = changes.plan ∙ reached.plan;
    count = changes.count ∙ reached.count;
    came = λ n x before after is was then.
        ⊎_elim (λ earlier. came_before n x before after earlier was then)
        (λ last. subst (λ m. CameOut m before after x) (sym last.0) (subst (λ (y : Outcome). CameOut (length os) before after y) (sym last.1)
        (came before after (mid_here before (subst (λ m. slice_get old.tables m ≡ Some before) last.0 was)) (subst (λ m. slice_get new.tables m ≡ Some after) last.0 then))))
        (get_pushed os o x n is);
    later = λ n below. changes.others n (λ same. absurd (omega (arith, same, below, length-append os (o ∷ [])))) ∙ reached.later n (omega (arith, below, length-append os (o ∷ [])));
  }

  -- the next table was begun
  pub reached_begun : Reaches os old new
  reached_begun = record {
    plan = changes.plan ∙ reached.plan;
    count = changes.count ∙ reached.count;
    came = came_before;
    begun = λ before after was then. changes.here before after (mid_here before was) then;
    later = λ n above. changes.others n (λ same. absurd (omega (arith, same, above))) ∙ reached.later n (omega (arith, above));
  }

-- what was asked of the next table
pub ends_next : (limits : Limits) (os : List Outcome) (old mid : Register) (o : Outcome) (from to : Channel) → Reached os old mid → o.table.0 ≡ length os → length os < length old.tables
    → ((held : Held) → slice_get mid.tables (length os) ≡ Some held → EndsBy limits mid.plan held o from to) → EndsAt limits old o from to
ends_next limits os old mid o from to reached at below ends =
    let held = get_there old.tables (length os) below in
    record {
      held = held.0;
      there = subst (λ n. slice_get old.tables n ≡ Some held.0) (sym at) held.1;
      ends = subst (λ (p : Plan). EndsBy limits p held.0 o from to) reached.plan (ends held.0 (reached.later (length os) (omega arith) ∙ held.1));
    }

-- ---- fronts

pub fronts_now : (os : List Outcome) (r : Register) (o : OpenArchive) (now : View) → length os ≤ length r.tables → IsOpen o now → Reaches os r (register_of o) → FrontsStand os now
fronts_now os r o now few opened reaches w image a n x world is has at =
    let below = get_below os n x at in
    let before = get_there r.tables n (omega (arith, few, below)) in
    let after = get_there o.tables n (omega (arith, few, below, reaches.count)) in
    let came = reaches.came n x before.0 after.0 at before.1 after.1 in
    let stands = opened.stands image (opened.settled image is) in
    let here : HasArchive image stands.archive = record { bodies = stands.bodies; entries = rests_entries o.journal.gate stands.bodies image stands.rests; archive = stands.entries } in
    let same = same_archive image a stands.archive has here in
    let tables : o.tables ≡ map held_of stands.archive.tables = ap (λ (q : Register). q.tables) stands.same in
    let t = at_before held_of stands.archive.tables n after.0 (subst (λ (l : List Held). slice_get l n ≡ Some after.0) tables after.1) in
    (t.0, ap (λ (y : Archive). slice_get y.tables n) same ∙ t.1, omega (arith, came.to, ap (λ (h : Held). h.front) t.2))

pub fronts_later : (os : List Outcome) (mid new : View) → IsLawful new → LeavesOnly mid new (GoesOnBy StaysOrCollects mid) → FrontsStand os mid → FrontsStand os new
fronts_later os mid new lawful leaves stand w image a n x world is has at =
    let from = now_from StaysOrCollects mid new lawful leaves w image world is in
    ⊎_elim
    (λ kept. stand from.before from.first a n x from.known from.was (has_before from.first image a kept has) at)
    (λ (c : Collects from.first image).
    let earlier = stand from.before from.first c.one n x from.known from.was c.before at in
    let e = c.extends.tables n earlier.0 earlier.1 in
    let same = same_archive image a c.other has c.after in (
      e.0,
      ap (λ (y : Archive). slice_get y.tables n) same ∙ e.1,
      omega (arith, earlier.2, ap (λ (l : List (Option (List ℕ))). length l) e.2.rows.1, length-append earlier.0.rows e.2.rows.0),
    ))
    from.goes_on

-- ---- what a round answers

pub asks_by : (result : RoundResult) (limits : Limits) (r : Register) (os : List Outcome) (old new : Link) → ComesTo result os → Asks limits r os old new → AsksBy result limits r os old new
asks_by Done limits r os old new comes asks = asks
asks_by Incomplete limits r os old new comes asks = asks
asks_by DiskFault limits r os old new comes asks = absurd comes
asks_by LinkFault limits r os old new comes asks = absurd comes

pub comes_done : (result : RoundResult) (os : List Outcome) → ComesTo result os → AllByRecursion IsDone os → result ≡ Done
comes_done Done os comes all = refl
comes_done Incomplete os comes all = absurd (comes all)
comes_done DiskFault os comes all = absurd comes
comes_done LinkFault os comes all = absurd comes

pub counts_by : (result : RoundResult) (os : List Outcome) (old new : View) → ComesTo result os → new.faults ≡ old.faults → new.link.faults ≡ old.link.faults → CountsOf result old new
counts_by Done os old new comes disk link = record { disk_later = omega arith; disk_rose = λ is. absurd (cc is); disk_kept = λ other. disk; link_later = omega arith; link_rose = λ is. absurd (cc is); link_kept = λ other. link }
counts_by Incomplete os old new comes disk link = record { disk_later = omega arith; disk_rose = λ is. absurd (cc is); disk_kept = λ other. disk; link_later = omega arith; link_rose = λ is. absurd (cc is); link_kept = λ other. link }
counts_by DiskFault os old new comes disk link = absurd comes
counts_by LinkFault os old new comes disk link = absurd comes

pub counts_disk : (old new : View) → RoseAlone old.faults new.faults old.link.faults new.link.faults → CountsOf DiskFault old new
counts_disk old new rose = record { disk_later = rose.later; disk_rose = λ is. rose.rose; disk_kept = λ other. absurd (other refl); link_later = omega (arith, rose.stays); link_rose = λ is. absurd (cc is); link_kept = λ other. rose.stays }

pub counts_link : (old new : View) → RoseAlone old.link.faults new.link.faults old.faults new.faults → CountsOf LinkFault old new
counts_link old new rose = record { disk_later = omega (arith, rose.stays); disk_rose = λ is. absurd (cc is); disk_kept = λ other. rose.stays; link_later = rose.later; link_rose = λ is. rose.rose; link_kept = λ other. absurd (other refl) }
