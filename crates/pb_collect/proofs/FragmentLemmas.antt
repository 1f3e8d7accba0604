-- One fragment: its advances in their order, and what they keep.
use Rattle.std.proofs.Common.{◌≡◌, ℕ, zero, suc, ◌<◌, ◌≤◌, List, [], ◌∷◌, ◌++◌, length, Some, sym, ◌∙◌, ap, subst, append-nil, arith}
use Rattle.std.specs.Prelude.{slice_get}
use Rattle.std.proofs.lemmas.Option.{same_Some, none-some}
use Rattle.pb_base.specs.Record.{content_len}
use Rattle.pb_io.specs.View.{View, IsLawful}
use Rattle.pb_bmp5.specs.CollectReply.{SeenFragment, seen_of}
use Rattle.pb_bmp5.specs.declared.fragment.Fragment.{Fragment}
use Rattle.pb_archive.specs.Entry.{Advance, advance_bytes_max}
use Rattle.pb_archive.specs.Opened.{Register, OpenArchive, IsOpen, GoesOn, register_of}
use Rattle.pb_archive.specs.declared.held.Held.{Held}
use Rattle.pb_truth.specs.Keeping.{advances}
use Rattle.pb_truth.specs.Learning.{Known}
use Rattle.pb_collect.specs.Kept.{KeepsWhere, KnowsTrue}
use Rattle.pb_collect.specs.Progress.{Progress, IsAt, partial_bytes, CanTake, after, advance_in, advances_in}
use Rattle.pb_collect.specs.Inside.{effects_of}
use Rattle.pb_collect.specs.Taking.{IsReady, registers_after, held_after, CanFollow, IsBrief, AdvancesTrue, AllCameOf}
use Rattle.pb_collect.specs.declared.effect.Effects.{Effects}
use Rattle.pb_collect.proofs.KeptLemmas.{where_trans, where_weaker}
use Rattle.pb_collect.proofs.TakingLemmas.{after_layout, held_stop, came_trans, true_next, registers_held, registers_further, follow_split, fragment_follows, ready_after, advances_true, knows_after}

pub get_below : {A : Type 0} (xs : List A) (id : ℕ) (x : A) → slice_get xs id ≡ Some x → id < length xs
get_below [] id x is = absurd (none-some x is)
get_below (y ∷ xs) zero x is = omega arith
get_below (y ∷ xs) (suc id) x is = omega (arith, get_below xs id x is)

pub ready_there : (o : OpenArchive) (id : ℕ) (p : Progress) → IsReady o id p → id < length o.tables
ready_there o id p ready = get_below o.tables id ready.held ready.there

pub ready_going : (o : OpenArchive) (id : ℕ) (p : Progress) → IsReady o id p → GoesOn (register_of o) id
ready_going o id p ready = (ready.held, record { there = ready.there; going_on = ready.far.going_on })

module _ (o : OpenArchive) (id : ℕ) (p q : Progress) (f : Fragment) (effects : Effects) (is_after : q ≡ after p (seen_of f)) (exactly : effects ≡ effects_of p f) (ready : IsReady o id p) (can : CanTake p (seen_of f)) (brief : IsBrief (seen_of f)) (few : content_len p.layout ≤ advance_bytes_max) where
  abbrev xs : List Advance
  xs = advance_in q.layout q.joined effects.gap

  abbrev ys : List Advance
  ys = advance_in q.layout q.joined effects.kept

  same_layout : q.layout ≡ p.layout
  same_layout = ap (λ (x : Progress). x.layout) is_after ∙ after_layout p (seen_of f)

  todo_is : xs ++ ys ≡ advances_in p.layout q.joined effects
  todo_is = ap (λ l. advances_in l q.joined effects) same_layout

  list_is : xs ++ ys ≡ advances_in p.layout (after p (seen_of f)).joined (effects_of p f)
  list_is = todo_is ∙ ap (λ (x : Progress). advances_in p.layout x.joined effects) is_after ∙ ap (λ e. advances_in p.layout (after p (seen_of f)).joined e) exactly

  follows_all : (held : Held) → slice_get o.tables id ≡ Some held → CanFollow held (xs ++ ys)
  follows_all held is = subst (λ l. CanFollow held l) (sym list_is) (fragment_follows o id p f ready can brief few held is)

  pub follows_gap : (held : Held) → slice_get o.tables id ≡ Some held → CanFollow held xs
  follows_gap held is = (follow_split xs ys held (follows_all held is)).0

  module _ (mid : OpenArchive) (moved : register_of mid ≡ registers_after (register_of o) id xs) where
    mid_held : slice_get mid.tables id ≡ Some (held_after ready.held xs)
    mid_held = subst (λ (r : Register). slice_get r.tables id ≡ Some (held_after ready.held xs)) (sym moved) (registers_held xs (register_of o) id ready.held ready.there)

    pub follows_kept : (held : Held) → slice_get mid.tables id ≡ Some held → CanFollow held ys
    follows_kept held is =
        subst (λ (h : Held). CanFollow h ys) (same_Some (held_after ready.held xs) held (sym mid_held ∙ is)) (follow_split xs ys ready.held (follows_all ready.held ready.there)).1

    pub mid_there : id < length mid.tables
    mid_there = get_below mid.tables id (held_after ready.held xs) mid_held

    pub mid_going : GoesOn (register_of mid) id
    mid_going = (held_after ready.held xs, record { there = mid_held; going_on = held_stop xs ready.held ∙ ready.far.going_on })

    module _ (new : OpenArchive) (then : register_of new ≡ registers_after (register_of mid) id ys) where
      pub moved_all : register_of new ≡ registers_after (register_of o) id (xs ++ ys)
      moved_all = then ∙ ap (λ r. registers_after r id ys) moved ∙ sym (registers_further xs ys (register_of o) id)

      pub ready_new : IsReady new id q
      ready_new = subst (λ (x : Progress). IsReady new id x) (sym is_after)
          (ready_after o new id p f ready can brief few (moved_all ∙ ap (λ l. registers_after (register_of o) id l) list_is))

  module _ (old : View) (opened : IsOpen o old) (adds : (k : Known) → IsAt p k → advances_in p.layout q.joined effects ≡ advances p.layout k (seen_of f)) where
    adds_all : (k : Known) → IsAt p k → xs ++ ys ≡ advances p.layout k (seen_of f)
    adds_all k at = todo_is ∙ adds k at

    all_true : (fs : List SeenFragment) → KnowsTrue old id (partial_bytes p) (seen_of f ∷ fs) → AdvancesTrue old id (xs ++ ys)
    all_true = advances_true o old id p opened ready (seen_of f) can brief (xs ++ ys) adds_all

    pub keeps_gap : (mid : View) (fs : List SeenFragment) → ((rest : List Advance) → KeepsWhere (AdvancesTrue old id (xs ++ rest)) old mid) → KeepsWhere (KnowsTrue old id (partial_bytes p) (seen_of f ∷ fs)) old mid
    keeps_gap mid fs keeps = where_weaker (KnowsTrue old id (partial_bytes p) (seen_of f ∷ fs)) (AdvancesTrue old id (xs ++ ys)) old mid (all_true fs) (keeps ys)

    pub keeps_both : (mid new : View) (fs : List SeenFragment) → IsLawful mid → mid.link ≡ old.link → AllCameOf old mid id xs → ((rest : List Advance) → KeepsWhere (AdvancesTrue old id (xs ++ rest)) old mid)
        → ((rest : List Advance) → KeepsWhere (AdvancesTrue mid id (ys ++ rest)) mid new) → KeepsWhere (KnowsTrue old id (partial_bytes p) (seen_of f ∷ fs)) old new
    keeps_both mid new fs lawful link came first second =
        where_trans (KnowsTrue old id (partial_bytes p) (seen_of f ∷ fs)) (AdvancesTrue mid id (ys ++ [])) old mid new lawful
        (λ knows. subst (λ l. AdvancesTrue mid id l) (sym (append-nil ys)) (true_next old mid id xs ys link came (all_true fs knows)))
        (keeps_gap mid fs first) (second [])

    pub knows_new : (mid new : View) (fs : List SeenFragment) → mid.link ≡ old.link → new.link ≡ mid.link → AllCameOf old mid id xs → AllCameOf mid new id ys → KnowsTrue old id (partial_bytes p) (seen_of f ∷ fs)
        → KnowsTrue new id (partial_bytes q) fs
    knows_new mid new fs first second came then knows =
        subst (λ (x : Progress). KnowsTrue new id (partial_bytes x) fs) (sym is_after)
        (knows_after o old id p opened ready (seen_of f) can brief (xs ++ ys) adds_all new fs (second ∙ first) (came_trans old mid new id xs ys came then) knows)
