-- The requests of a table, one after the other.
use Rattle.std.proofs.Common.{◌≡◌, ℕ, zero, suc, ◌<◌, List, [], ◌∷◌, length, Some, None, Ok, false, refl, arith, ap, subst, sym, ◌∙◌}
use Rattle.std.proofs.lemmas.Option.{same_Some, none-some}
use Rattle.std.specs.Prelude.{slice_get}
use Rattle.pb_base.specs.declared.layout.Layout.{Layout}
use Rattle.pb_io.specs.View.{View, IsLawful}
use Rattle.pb_journal.proofs.LawLemmas.{one_list}
use Rattle.pb_archive.specs.Archive.{changed_at}
use Rattle.pb_archive.specs.Entry.{Stopped}
use Rattle.pb_archive.specs.Held.{Writes}
use Rattle.pb_archive.specs.Opened.{IsOpen, OpenArchive, Register, register_after, ended}
use Rattle.pb_archive.specs.Refusals.{NeedsOpening}
use Rattle.pb_archive.specs.declared.held.Held.{Held}
use Rattle.pb_archive.specs.declared.table_view.Stop.{Stop}
use Rattle.pb_archive.proofs.LeadsLemmas.{one_archive}
use Rattle.pb_ask.specs.declared.question.Conclusion.{Conclusion}
use Rattle.pb_truth.specs.Pairs.{AreGood}
use Rattle.pb_truth.proofs.PairLemmas.{good_of}
use Rattle.pb_collect.specs.Ends.{EndsAs}
use Rattle.pb_collect.specs.Exchanges.{Goes}
use Rattle.pb_collect.specs.Progress.{Progress, begun}
use Rattle.pb_collect.specs.Tables.{HasStopOf, IsStateOf}
use Rattle.pb_collect.specs.Taking.{IsReady}
use Rattle.pb_collect.specs.declared.answer.Said.{Said}
use Rattle.pb_collect.specs.declared.ending.End.{End}
use Rattle.pb_collect.specs.declared.ending.End.TheVariants.{Done, NoAnswer, Flooded, Undelivered, Refused, Redefined, Budget}
use Rattle.pb_collect.specs.declared.state.State.{State}
use Rattle.pb_collect.specs.Kept.{HonestFrom, Keeps, KeepsHonest, KnowsTrue}
use Rattle.pb_collect.proofs.KeptLemmas.{honest_where, keeps_written, honest_keeps, honest_weaker, honest_then_honest, honest_first, honest_then}

-- with no partial record there is nothing to know beside the table
pub knows_start : (now : View) (id : ℕ) → AreGood now → KnowsTrue now id [] []
knows_start now id good w image a t world is has at =
    let of = good_of one_list one_archive w image a (good w image world is) has in
    record { table = of.0 id t at; partial = λ some. absurd (omega (arith, some)) }

module _ (P : Type 0) (a b c : View) (lawful : IsLawful b) (keeps : Keeps a b) (knows : AreGood a → HonestFrom a b → P) (next : KeepsHonest P b c) where
  pub keeps_more : Keeps a c
  keeps_more =
      honest_weaker (Unit {0}) a c
      (honest_then_honest (Unit {0}) P a b c lawful (honest_keeps (Unit {0}) a b keeps) (λ u good_a good_b honest. knows good_a honest) next) (λ good honest. tt)

  -- what the later calls make of it
  pub knows_more : (Q : Type 0) → (P → AreGood b → HonestFrom b c → Q) → AreGood a → HonestFrom a c → Q
  knows_more Q later good honest =
      let honest_b = honest_first a b c next.grows honest in
      later (knows good honest_b) (keeps.good good honest_b).here (honest_then a b c lawful next.grows keeps.leaves honest)

-- ---- a stop

pub keeps_stopped : (a b c : View) (id : ℕ) (stop : Stop) → IsLawful b → IsLawful c → Keeps a b → Writes (Stopped id stop) b c → Keeps a c
keeps_stopped a b c id stop lawful_b lawful_c keeps writes =
    honest_weaker (Unit {0}) a c
    (honest_where (Unit {0}) (Unit {0}) a b c lawful_b (honest_keeps (Unit {0}) a b keeps) (λ u good_a good_b honest. tt)
    (keeps_written (Unit {0}) (Stopped id stop) b c tt lawful_c (λ u w image x world is has. tt) writes)) (λ good honest. tt)

-- what a change of one of these leaves there
pub get_changed : {A : Type 0} (f : A → A) (xs : List A) (id : ℕ) (x y : A) → slice_get xs id ≡ Some x → slice_get (changed_at id f xs) id ≡ Some y → y ≡ f x
get_changed f [] id x y is then = absurd (none-some x is)
get_changed f (z ∷ xs) zero x y is then = sym (same_Some _ _ then) ∙ ap f (same_Some _ _ is)
get_changed f (z ∷ xs) (suc id) x y is then = get_changed f xs id x y is then

-- the stop of a table that was stopped
pub stop_there : (before after : Register) (id : ℕ) (stop : Stop) (x held : Held) → after ≡ register_after before (Stopped id stop)
    → slice_get before.tables id ≡ Some x → slice_get after.tables id ≡ Some held → held.stop ≡ Some stop
stop_there before after id stop x held changed is then =
    ap (λ (h : Held). h.stop) (get_changed (ended stop) before.tables id x held is (sym (ap (λ (r : Register). slice_get r.tables id) changed) ∙ then))

-- what else ends a table leaves no stop
pub stops_none : (budget : ℕ) (p : Progress) (o : Conclusion Said) (end : End) (held : Held) → EndsAs budget p o end → held.stop ≡ None → HasStopOf end held
stops_none budget p o (Redefined old told) held ends none = absurd ends
stops_none budget p o Done held ends none = none
stops_none budget p o NoAnswer held ends none = none
stops_none budget p o Flooded held ends none = none
stops_none budget p o (Undelivered code) held ends none = none
stops_none budget p o (Refused code) held ends none = none
stops_none budget p o Budget held ends none = none

-- ---- a table that is there

pub get_there : {A : Type 0} (xs : List A) (id : ℕ) → id < length xs → (x : A) × (slice_get xs id ≡ Some x)
get_there [] id below = absurd (omega (arith, below))
get_there (x ∷ xs) zero below = (x, refl)
get_there (x ∷ xs) (suc id) below = get_there xs id (omega (arith, below))

-- a table without a stop is as far as it was begun
pub ready_begun : (o : OpenArchive) (id : ℕ) (p q : Progress) (layout : Layout) (s : State) → id < length o.tables → s.stop ≡ None
    → ((held : Held) → slice_get o.tables id ≡ Some held → IsStateOf held s) → ((held : Held) → slice_get o.tables id ≡ Some held → held.table.layout ≡ Ok layout) → q ≡ begun p layout s.front.0 → IsReady o id q
ready_begun o id p q layout s below none state lay is =
    let x = get_there o.tables id below in
    let of = state x.0 x.1 in
    subst (λ (r : Progress). IsReady o id r) (sym is) (record { held = x.0; there = x.1; far = record { front = sym of.front; layout = lay x.0 x.1; going_on = sym of.stop ∙ none } })

-- ---- archives that stay usable

pub goes_start : (o : OpenArchive) (now : View) → NeedsOpening o false → IsOpen o now → Goes o now now
goes_start o now usable opened = record { usable = usable; opened = opened; faults = refl; link_faults = refl }

pub goes_trans : (o p : OpenArchive) (a b c : View) → Goes o a b → Goes p b c → Goes p a c
goes_trans o p a b c x y = record { usable = y.usable; opened = y.opened; faults = y.faults ∙ x.faults; link_faults = y.link_faults ∙ x.link_faults }
