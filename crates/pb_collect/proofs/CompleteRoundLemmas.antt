-- All tables of a round in an undisturbed world, one after the other.
use Rattle.std.proofs.Common.{◌≡◌, inl, ⊎_elim, ℕ, zero, suc, ◌+◌, ◌≤◌, Bool, true, false, List, [], ◌∷◌, ◌++◌, length, slice_get, Some, Ok, refl, sym, ◌∙◌, ap, subst, append_assoc, append-nil, arith}
use Rattle.std.specs.Prelude.{if◌then◌else◌, Err}
use Rattle.std.specs.List.{AllByRecursion, Contains}
use Rattle.std.proofs.lemmas.Bool.{false≢true}
use Rattle.std.proofs.lemmas.Option.{none-some, same_Some}
use Rattle.pb_base.specs.declared.layout.Layout.{Layout}
use Rattle.pb_base.specs.World.{World, TableDefinition}
use Rattle.pb_base.specs.History.{TableKey, history}
use Rattle.pb_bmp5.specs.TrueReply.{Stage}
use Rattle.pb_io.specs.View.{View, Link, IsLawful}
use Rattle.pb_journal.proofs.EntryLemmas.{rests_entries}
use Rattle.pb_tdf.specs.Definition.{Definition, all_record_bytes, has_asciiz}
use Rattle.pb_tdf.specs.View.{is_event, layout_of, no_layout}
use Rattle.pb_trans.specs.declared.asked.Limits.{Limits}
use Rattle.pb_archive.specs.Archive.{Table, Archive, front, record_layout}
use Rattle.pb_archive.specs.Entry.{address_of}
use Rattle.pb_archive.specs.Held.{HasArchive}
use Rattle.pb_archive.specs.Opened.{OpenArchive, Register, IsOpen, held_of, kept_of, register_of}
use Rattle.pb_archive.specs.Plan.{Plan}
use Rattle.pb_archive.specs.Truth.{Sound}
use Rattle.pb_archive.specs.declared.held.Held.{Held}
use Rattle.pb_archive.proofs.RegisterLemmas.{at_before}
use Rattle.pb_truth.specs.Bound.{Unasked}
use Rattle.pb_truth.specs.Honest.{Honest}
use Rattle.pb_truth.specs.Learning.{Known}
use Rattle.pb_truth.specs.Pairs.{AreGood}
use Rattle.pb_truth.specs.Undisturbed.{Undisturbed}
use Rattle.pb_truth.proofs.TableLemmas.{IsKept, is_kept}
use Rattle.pb_truth.proofs.UndisturbedLemmas.{undisturbed_grown}
use Rattle.pb_collect.specs.Complete.{AllComplete, CanComplete, IsComplete, key_of}
use Rattle.pb_collect.specs.Kept.{HonestFrom}
use Rattle.pb_collect.specs.Round.{AllEnd, AreInOrder, Asks, EndsAt, IsDone}
use Rattle.pb_collect.specs.Tables.{channel, Asked, Channel, Collected, EndsBy, PassedOver, Point, Requests, start_of}
use Rattle.pb_collect.specs.declared.ending.Next.{Next}
use Rattle.pb_collect.specs.declared.outcome.Outcome.{Outcome}
use Rattle.pb_collect.proofs.AnsweredLemmas.{FramingLaws, Settled}
use Rattle.pb_collect.proofs.CompleteLemmas.{Here, IsPast, ended_by, past_later}
use Rattle.pb_collect.proofs.KeptLemmas.{same_archive}

-- ---- how a known world came from one before

pub record Came (from to : Link) (v : World) : Type 0 where
  pub before : World
  pub more : World
  pub known : from.world ≡ Some before
  pub is : v ≡ before ++ more

came_none : (link : Link) (v : World) → link.world ≡ Some v → Came link link v
came_none link v is = record { before = v; more = []; known = is; is = sym (append-nil v) }

came_trans : (a b c : Link) (v : World) (second : Came b c v) → Came a b second.before → Came a c v
came_trans a b c v second first = record {
  before = first.before;
  more = first.more ++ second.more;
  known = first.known;
  is = second.is ∙ ap (λ (l : World). l ++ second.more) first.is ∙ append_assoc first.before first.more second.more;
}

module _ (limits : Limits) (plan : Plan) (held : Held) where
  came_requests : (n : ℕ) (from to : Point) (v : World) → Requests limits plan held n from to → to.channel.link.world ≡ Some v → Came from.channel.link to.channel.link v
  came_requests zero from to v is known =
      subst (λ (q : Point). Came from.channel.link q.channel.link v) (sym is) (came_none from.channel.link v (ap (λ (q : Point). q.channel.link.world) (sym is) ∙ known))
  came_requests (suc n) from to v (mid, mode, before, q) known =
      let back = q.exchanged.asks.grows.back v known in
      let last : Came mid.channel.link to.channel.link v = record { before = back.0; more = back.1; known = back.2; is = back.3 } in
      came_trans from.channel.link mid.channel.link to.channel.link v last (came_requests n from mid back.0 before back.2)

  came_asked : (asked : ℕ) (from to : Point) (next : Next) (v : World) → Asked limits plan held asked from next to → to.channel.link.world ≡ Some v → Came from.channel.link to.channel.link v
  came_asked asked from to next v a known =
      let back = a.last.exchanged.asks.grows.back v known in
      let last : Came a.mid.channel.link to.channel.link v = record { before = back.0; more = back.1; known = back.2; is = back.3 } in
      came_trans from.channel.link a.mid.channel.link to.channel.link v last (came_requests a.before from a.mid back.0 a.requests back.2)

  came_ends : (o : Outcome) (from to : Channel) (v : World) → EndsBy limits plan held o from to → to.link.world ≡ Some v → Came from.link to.link v
  came_ends o from to v ends known = ⊎_elim
      (λ (p : PassedOver held o from to). subst (λ (k : Channel). Came from.link k.link v) (sym p.nothing) (came_none from.link v (ap (λ (k : Channel). k.link.world) (sym p.nothing) ∙ known)))
      (λ (c : Collected limits plan held o from to).
      ⊎_elim (λ a. came_asked o.asked _ _ _ v a known) (λ stopped. came_asked o.asked _ _ _ v stopped.0 known) c.ended) ends

came_all : (limits : Limits) (r : Register) (os : List Outcome) (from to : Channel) (v : World) → AllEnd limits r os from to → to.link.world ≡ Some v → Came from.link to.link v
came_all limits r [] from to v is known =
    subst (λ (k : Channel). Came from.link k.link v) (sym is) (came_none from.link v (ap (λ (k : Channel). k.link.world) (sym is) ∙ known))
came_all limits r (o ∷ os) from to v (mid, ends, rest) known =
    let later = came_all limits r os mid to v rest known in
    came_trans from.link mid.link to.link v later (came_ends limits r.plan ends.held o from mid later.before ends.ends later.known)

-- ---- one table

layout_same : (d : Definition) (layout : Layout) → layout_of d ≡ Ok layout → layout ≡ record_layout d
layout_same d layout is = by (has_asciiz d.fields) is
  where
    by : (b : Bool) → (if b then Err no_layout else Ok (record { record_len = all_record_bytes d.fields; event = is_event d.interval; interval = d.interval })) ≡ Ok layout → layout ≡ record_layout d
    by true is = absurd (cc is)
    by false is = cc is

module _ (first last : World) (undisturbed : Undisturbed first last) (laws : FramingLaws) (limits : Limits) (some : 1 ≤ limits.quiets) (a : Archive) (kept : IsKept a) (sound : Sound a (history first))
    (honest : Honest last a) (can : CanComplete limits.budget first last (kept_of a)) where
  module _ (id : ℕ) (t : Table) (there : slice_get a.tables id ≡ Some t) (held_there : slice_get (kept_of a).tables id ≡ Some (held_of t)) where
    key_is : t.key ≡ key_of a.plan (held_of t)
    key_is =
        let of = kept.each id t there in
        let with_station : ℕ → TableKey = λ n. record { station = n; number = t.key.number; signature = t.key.signature } in
        let with_signature : ℕ → TableKey = λ n. record { station = address_of (slice_get a.plan.stations t.station); number = t.key.number; signature = n } in
        ap with_station of.address ∙ ap with_signature of.signature

    abbrev start : Known
    start = record { table = t; partial = [] }

    abbrev first_stage : Stage
    first_stage = record { next = length (history first (key_of a.plan (held_of t))).records; oldest = (history first (key_of a.plan (held_of t))).oldest }

    pub one_table : (o : Outcome) (from to : Channel) (w v e : World) → EndsBy limits a.plan (held_of t) o from to → from.link.world ≡ Some w → to.link.world ≡ Some v → last ≡ v ++ e
        → Settled first last from.listener w → IsComplete first last a.plan (held_of t) o × Settled first last to.listener v
    one_table o from to w v e ends from_is to_is last_is settled = ⊎_elim
        (λ (p : PassedOver (held_of t) o from to). absurd (none-some p.stop (sym (can.going_on id (held_of t) held_there) ∙ p.stopped)))
        (λ (c : Collected limits a.plan (held_of t) o from to).
        let layout = layout_same t.definition c.layout c.has_layout in
        let only : (d : TableDefinition) → Contains (history last (key_of a.plan (held_of t))).definitions d → d.layout ≡ c.layout = λ d contains.
        ap (λ (x : TableDefinition). x.layout) (honest.defined id t d there (subst (λ (k : TableKey). Contains (history last k).definitions d) (sym key_is) contains)) ∙ sym layout in
        let here : Here first last undisturbed laws limits some a.plan (held_of t) c.layout only start first_stage 0 (start_of from c.idle c.layout (front t)) w = record {
          settled = settled;
          stage = first_stage;
          now = start;
          through = Unasked;
          at = record { layout = layout; front = refl; partial = refl };
          asking = record { had = refl; some = λ is. absurd (false≢true is) };
          asked = omega arith;
          layout_is = refl;
          passed = λ p r f is unsent. subst (λ (l : World). IsPast first_stage (history (l ++ p) (key_of a.plan (held_of t)))) (sym settled.is_from)
              (subst (λ (l : World). IsPast first_stage (history l (key_of a.plan (held_of t)))) (sym (append_assoc first settled.from p))
              (past_later first_stage first (settled.from ++ p) (key_of a.plan (held_of t)) (record { next = omega arith; oldest = omega arith })));
        } in
        let low : front t ≤ length (history first (key_of a.plan (held_of t))).records = subst (λ (k : TableKey). front t ≤ length (history first k).records) key_is (sound id t there).below in
        let done = ended_by first last undisturbed laws limits some a.plan (held_of t) c.layout only start first_stage refl low (can.enough id (held_of t) c.layout held_there c.has_layout) o.asked
        (start_of from c.idle c.layout (front t)) (record { channel = to; progress = c.last }) o.end w v e here c.ended from_is to_is last_is in (
          record {
            done = done.done;
            layout = c.layout;
            has_layout = c.has_layout;
            stage = done.stage;
            heard = done.heard;
            to = c.front ∙ done.front_is;
            within = done.within;
          },
          done.settled,
        )) ends

  -- ---- all tables

  table_of : (id : ℕ) (held : Held) → slice_get (kept_of a).tables id ≡ Some held → (t : Table) × (slice_get a.tables id ≡ Some t) × (held ≡ held_of t)
  table_of id held there = at_before held_of a.tables id held there

  next_table : (o : Outcome) (from to : Channel) (w v e : World) → (at : EndsAt limits (kept_of a) o from to) → from.link.world ≡ Some w → to.link.world ≡ Some v → last ≡ v ++ e
      → Settled first last from.listener w → IsComplete first last a.plan at.held o × Settled first last to.listener v
  next_table o from to w v e at from_is to_is last_is settled =
      let t = table_of o.table.0 at.held at.there in
      let both = one_table o.table.0 t.0 t.1 (subst (λ (h : Held). slice_get (kept_of a).tables o.table.0 ≡ Some h) t.2 at.there) o from to w v e
      (subst (λ (h : Held). EndsBy limits a.plan h o from to) t.2 at.ends) from_is to_is last_is settled in
      (subst (λ (h : Held). IsComplete first last a.plan h o) (sym t.2) both.0, both.1)

  all_tables : (os : List Outcome) (k : ℕ) (from to : Channel) (w v e : World) → AllEnd limits (kept_of a) os from to → AreInOrder k os → from.link.world ≡ Some w → to.link.world ≡ Some v
      → last ≡ v ++ e → Settled first last from.listener w
      → ((n : ℕ) (o : Outcome) (held : Held) → slice_get os n ≡ Some o → slice_get (kept_of a).tables (k + n) ≡ Some held → IsComplete first last a.plan held o) × AllByRecursion IsDone os
  all_tables [] k from to w v e ends order from_is to_is last_is settled = (λ n o held is there. absurd (none-some o is), tt)
  all_tables (x ∷ os) k from to w v e (mid, at, rest) order from_is to_is last_is settled =
      let later = came_all limits (kept_of a) os mid to v rest to_is in
      let now = next_table x from mid w later.before (later.more ++ e) at from_is later.known (last_is ∙ ap (λ (l : World). l ++ e) later.is ∙ append_assoc later.before later.more e) settled in
      let others = all_tables os (suc k) mid to later.before v e rest order.1 later.known to_is last_is now.1 in
      (by at.held at.there now.0 others.0, (now.0.done, others.1))
    where
      by : (its : Held) → slice_get (kept_of a).tables x.table.0 ≡ Some its → IsComplete first last a.plan its x
          → ((n : ℕ) (o : Outcome) (held : Held) → slice_get os n ≡ Some o → slice_get (kept_of a).tables (suc k + n) ≡ Some held → IsComplete first last a.plan held o)
          → (n : ℕ) (o : Outcome) (held : Held) → slice_get (x ∷ os) n ≡ Some o → slice_get (kept_of a).tables (k + n) ≡ Some held → IsComplete first last a.plan held o
      by its at done others zero o held is there =
          let same : its ≡ held = same_Some its held (sym at ∙ ap (λ i. slice_get (kept_of a).tables i) (omega (arith, order.0)) ∙ there) in
          subst (λ (y : Outcome). IsComplete first last a.plan held y) (same_Some x o is) (subst (λ (h : Held). IsComplete first last a.plan h x) same done)
      by its at done others (suc n) o held is there = others n o held is (ap (λ i. slice_get (kept_of a).tables i) (omega arith) ∙ there)

-- ---- a round

module _ (laws : FramingLaws) (limits : Limits) (some : 1 ≤ limits.quiets) (o : OpenArchive) (old new : View) (lawful : IsLawful old) (opened : IsOpen o old) (os : List Outcome) (order : AreInOrder 0 os)
    (asks : Asks limits (register_of o) os old.link new.link) (first last : World) (file : List ℕ) (old_is : old.link.world ≡ Some first) (new_is : new.link.world ≡ Some last)
    (file_is : old.file ≡ Some file) (undisturbed : Undisturbed first last) (good : AreGood old) (honest : HonestFrom old new) (can : CanComplete limits.budget first last (register_of o)) where
  pub round_complete : AllComplete first last (register_of o) os × AllByRecursion IsDone os
  round_complete =
      let image = lawful.reads file file_is in
      let g = good first file old_is image in
      let stands = opened.stands file file_is in
      let here : HasArchive file stands.archive = record { bodies = stands.bodies; entries = rests_entries o.journal.gate stands.bodies file stands.rests; archive = stands.entries } in
      let same = same_archive file g.archive stands.archive g.has here in
      let register : register_of o ≡ kept_of g.archive = stands.same ∙ ap kept_of (sym same) in
      let grown = undisturbed_grown first last undisturbed in
      let settled : Settled first last asks.first first = record {
        from = [];
        is_from = sym (append-nil first);
        rest = grown.more;
        is_to = grown.is;
        none = asks.quiet;
        judged = [];
        stands = asks.fresh;
        closed = inl refl;
      } in
      let all = all_tables first last undisturbed laws limits some g.archive (is_kept g.has.bodies g.archive g.has.archive) g.sound (honest last file g.archive new_is image g.has)
      (subst (λ (r : Register). CanComplete limits.budget first last r) register can) os 0 (channel asks.first old.link) (channel asks.last new.link) first last [] (subst (λ (r : Register). AllEnd limits r os (channel asks.first old.link) (channel asks.last new.link)) register asks.all) order old_is new_is
      (sym (append-nil last)) settled in
      (subst (λ (r : Register). AllComplete first last r os) (sym register) (λ n x held is there. all.0 n x held is (ap (λ i. slice_get (kept_of g.archive).tables i) (omega arith) ∙ there)), all.1)
