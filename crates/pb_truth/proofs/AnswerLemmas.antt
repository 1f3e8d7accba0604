-- Full answers one after another: how each changes what is asked next, and how many there are.
use Rattle.std.proofs.Common.{◌≡◌, ◌⊎◌, inl, inr, ⊎_elim, ℕ, suc, ◌+◌, ◌-◌, ◌*◌, ◌<◌, ◌≤◌, max, Bool, true, false, List, [], ◌∷◌, ◌++◌, length, refl, sym, ◌∙◌, ap, subst, arith, None}
use Rattle.std.specs.Prelude.{if◌then◌else◌}
use Rattle.std.specs.List.{AllByRecursion}
use Rattle.std.proofs.lemmas.Bool.{cases_lt}
use Rattle.pb_base.specs.declared.layout.Layout.{Layout}
use Rattle.pb_base.specs.History.{History}
use Rattle.pb_base.specs.Record.{content_len}
use Rattle.pb_base.specs.Request.{From, Part}
use Rattle.pb_bmp5.specs.CollectReply.{SeenFragment, part, SeenReply, AreFragments}
use Rattle.pb_bmp5.specs.TrueReply.{Stage, HasNone, Answers, IsAskedPart, IsNotHeld, AnswersFully, run_of, IsLong}
use Rattle.pb_archive.specs.Archive.{Table, front}
use Rattle.pb_truth.specs.Learning.{Known, without_partial, joined, learned}
use Rattle.pb_truth.specs.Bound.{parts_max, bound, mode_from, FullAnswer, has_some, next_known, GoesOn, Ends, IsNotBefore, AnswersOf, Last, More, GoesThrough, Unasked, Further}
use Rattle.pb_truth.proofs.LearningLemmas.{fragments_in}
use Rattle.pb_truth.proofs.CountLemmas.{Phase, Closed, Partial, Lost, Answered, Spent, IsBelow, Reaches, spent_more, asked_at_most, parts-enough, parts-some}
use Rattle.pb_truth.proofs.BoundLemmas.{none-learned, none-some, none-or-some, PartLeft, IsWhole, IsPartial, part_left, Left, NonePartial, OnePartial, Passed, some_pass}

-- ---- where a table stands between two requests

-- By the phase: what is known when a request is made, after an answer of this stage. Nothing is answered below the base.
abbrev pub IsIn : Layout → (base : ℕ) → Stage → Known → Phase → Type 0
IsIn layout base from k Closed =
    (k.partial ≡ []) × (front k.table ≤ from.next) × ((base ≤ front k.table) ⊎ (base ≤ from.oldest))
IsIn layout base from k (Partial have) =
    (length k.partial ≡ have) × (0 < have) × (have < content_len layout) × (front k.table < from.next) × (base ≤ front k.table)
IsIn layout base from k Lost =
    (k.partial ≡ []) × (front k.table < from.next) × (front k.table < from.oldest) × (base ≤ front k.table)

-- The next request is in a phase that an answer leads to.
pub record Leads (layout : Layout) (base f : ℕ) (phase : Phase) (stage : Stage) (k : Known) : Type 0 where
  pub next : Phase
  pub answered : Answered base (content_len layout) f phase (front k.table) next
  pub is_in : IsIn layout base stage k next

-- What an answer does: where the table ends its front is the stage's next number; else the next request is in a phase.
pub record Steps (layout : Layout) (base : ℕ) (phase : Phase) (stage : Stage) (k : Known) (reply : SeenReply) : Type 0 where
  pub ends : Ends layout k reply → (front (learned layout k reply.fragments).table ≡ stage.next) × Reaches (front k.table) stage.next phase
  pub goes : GoesOn layout k reply → Leads layout base (front k.table) phase stage (next_known layout k reply.fragments)

no_partial : (xs : List ℕ) → xs ≡ [] → 0 < length xs → ⊥
no_partial xs none some = omega (arith, ap length none, some)

next-none : (layout : Layout) (k : Known) (fs : List SeenFragment) → HasNone fs → next_known layout k fs ≡ without_partial k.table
next-none layout k fs none =
    ap (λ b. if b then learned layout k fs else without_partial (learned layout k fs).table) (none-some fs none)
    ∙ ap (λ (x : Known). without_partial x.table) (none-learned layout fs k none)

next-some : (layout : Layout) (k : Known) (fs : List SeenFragment) → has_some fs ≡ true → next_known layout k fs ≡ learned layout k fs
next-some layout k fs some = ap (λ b. if b then learned layout k fs else without_partial (learned layout k fs).table) some

-- ---- one answer

module _ (layout : Layout) (h : History) (base : ℕ) (from : Stage) (t : Table) (stage : Stage) (reply : SeenReply) (later : IsNotBefore from stage) where
  -- what is known with this partial record
  abbrev known : List ℕ → Known
  known p = record { table = t; partial = p }

  abbrev after : List ℕ → Known
  after p = learned layout (known p) reply.fragments

  -- nothing came, and there is nothing more
  ends_here : HasNone reply.fragments → reply.more ≡ false → front t ≡ stage.next → Steps layout base Closed stage (known []) reply
  ends_here none no_more at =
      let same = none-learned layout reply.fragments (known []) none in
      record {
        ends = λ e. (ap (λ (x : Known). front x.table) same ∙ at, omega (arith, at));
        goes = λ g. absurd (⊎_elim (λ more. true-false (sym more ∙ no_more)) (λ some. no_partial (after []).partial (ap (λ (x : Known). x.partial) same) some) g);
      }
    where
      true-false : true ≡ false → ⊥
      true-false e = absurd cc

  -- something came, from a number at the base or above on
  goes_past : (phase : Phase) (a : ℕ) → has_some reply.fragments ≡ true → base ≤ a → Passed layout stage.next a reply.fragments (after [])
      → ((g : ℕ) → a < g → Answered base (content_len layout) (front t) phase g Closed)
      → ((g have : ℕ) → a ≤ g → 256 ≤ have → have < content_len layout → Answered base (content_len layout) (front t) phase g (Partial have))
      → Leads layout base (front t) phase stage (next_known layout (known []) reply.fragments)
  goes_past phase a some above passed closes opens =
      subst (λ k. Leads layout base (front t) phase stage k) (sym (next-some layout (known []) reply.fragments some)) (by passed.reached.left)
    where
      by : Left layout stage.next (after []) → Leads layout base (front t) phase stage (after [])
      by (NonePartial none within) = record {
        next = Closed;
        answered = closes (front (after []).table) (passed.past none);
        is_in = (none, within, inl (omega (arith, passed.past none, above)));
      }
      by (OnePartial many few within) = record {
        next = Partial (length (after []).partial);
        answered = opens (front (after []).table) (length (after []).partial) passed.reached.from_on many few;
        is_in = (refl, omega (arith, many), few, within, omega (arith, passed.reached.from_on, above));
      }

  module _ (table last : ℕ) (body : List ℕ) (are : AreFragments table layout None reply.fragments last body)
      (held : (stage.oldest < stage.next) ⊎ (stage.next ≡ 0)) where
    -- records from the front on were asked for
    from_front : Answers layout (From (front t)) h stage reply → AnswersFully layout (run_of (From (front t)) h stage) reply → (phase : Phase)
        → IsIn layout base from (known []) phase → Steps layout base phase stage (known []) reply
    from_front answers full phase is_in = cases phase is_in (none-or-some reply.fragments)
      where
        a : ℕ
        a = max (front t) stage.oldest

        ends_at : (HasNone reply.fragments → ⊥) → Passed layout stage.next (max (front t) stage.oldest) reply.fragments (after []) → Ends layout (known []) reply → front (after []).table ≡ stage.next
        ends_at some passed e = ⊎_elim (λ end. (passed.reached.ends end).1) (λ none. absurd (some none.0)) (answers.ends.0 e.no_more)

        passes : (HasNone reply.fragments → ⊥) → Passed layout stage.next (max (front t) stage.oldest) reply.fragments (after [])
        passes some = some_pass layout stage.next (max (front t) stage.oldest) table None reply.fragments t last body (omega arith) are answers.begins some answers.below full.long

        empty : HasNone reply.fragments → stage.next ≤ max (front t) stage.oldest
        empty none = ⊎_elim (λ lt. absurd (full.some lt none)) (λ ge. ge) (cases_lt (max (front t) stage.oldest) stage.next)

        cases : (phase : Phase) → IsIn layout base from (known []) phase → HasNone reply.fragments ⊎ ((HasNone reply.fragments → ⊥) × (has_some reply.fragments ≡ true))
            → Steps layout base phase stage (known []) reply
        cases Closed is_in (inl none) =
            let all = empty none in
            ends_here none (answers.ends.1 (inr (none, all))) (⊎_elim (λ (l : stage.oldest < stage.next). omega (arith, l, all, is_in.1, later.next)) (λ (z : stage.next ≡ 0). omega (arith, z, is_in.1, later.next)) held)
        cases Closed is_in (inr some) =
            let passed = passes some.0 in
            let above : base ≤ max (front t) stage.oldest = ⊎_elim (λ (b : base ≤ front t). omega (arith, b)) (λ (b : base ≤ from.oldest). omega (arith, b, later.oldest)) is_in.2 in
            record {
              ends = λ e. (ends_at some.0 passed e, omega (arith, is_in.1, later.next));
              goes = λ g. goes_past Closed (max (front t) stage.oldest) some.1 above passed
                  (λ n past. (omega (arith, past), omega (arith, past, above)))
                  (λ n have on many few. (omega (arith, on), omega (arith, on, above), many, few));
            }
        cases Lost is_in (inl none) =
            let all = empty none in
            absurd (⊎_elim (λ (l : stage.oldest < stage.next). omega (arith, l, all, is_in.2, later.oldest)) (λ (z : stage.next ≡ 0). omega (arith, z, is_in.1, later.next)) held)
        cases Lost is_in (inr some) =
            let passed = passes some.0 in
            record {
              ends = λ e. (ends_at some.0 passed e, omega (arith, is_in.1, later.next));
              goes = λ g. goes_past Lost (max (front t) stage.oldest) some.1 (omega (arith, is_in.3)) passed
                  (λ n past. omega (arith, past, is_in.2, later.oldest))
                  (λ n have on many few. (omega (arith, on, is_in.2, later.oldest), many, few));
            }
        cases (Partial have) is_in which = absurd (omega (arith, is_in.0, is_in.1))

    -- the rest of the partial record was asked for
    for_rest : (b : ℕ) (bs : List ℕ) → Answers layout (Part (front t) (length (b ∷ bs))) h stage reply → AllByRecursion (IsLong layout) reply.fragments
        → IsIn layout base from (known (b ∷ bs)) (Partial (length (b ∷ bs))) → Steps layout base (Partial (length (b ∷ bs))) stage (known (b ∷ bs)) reply
    for_rest b bs answers long is_in = ⊎_elim came gone answers
      where
        k : Known
        k = record { table = t; partial = b ∷ bs }

        came : IsAskedPart layout stage (front t) (length (b ∷ bs)) reply → Steps layout base (Partial (length (b ∷ bs))) stage (known (b ∷ bs)) reply
        came asked =
            by (part_left layout (front t) (b ∷ bs) asked.bytes t (omega arith) within)
          where
            one : List SeenFragment
            one = part (front t) (length (b ∷ bs)) asked.bytes ∷ []

            its : AreFragments table layout None (part (front t) (length (b ∷ bs)) asked.bytes ∷ []) last body
            its = subst (λ fs. AreFragments table layout None fs last body) asked.one are

            within : length (b ∷ bs) + length asked.bytes ≤ content_len layout
            within = its.1.formed.of_layout.1

            is_long : IsLong layout (part (front t) (length (b ∷ bs)) asked.bytes)
            is_long = (subst (λ fs. AllByRecursion (IsLong layout) fs) asked.one long).0

            same : after (b ∷ bs) ≡ joined layout (front t) ((b ∷ bs) ++ asked.bytes) t
            same = ap (λ fs. learned layout (known (b ∷ bs)) fs) asked.one

            next_same : next_known layout (known (b ∷ bs)) reply.fragments ≡ joined layout (front t) ((b ∷ bs) ++ asked.bytes) t
            next_same = ap (λ fs. next_known layout (known (b ∷ bs)) fs) asked.one

            by : PartLeft layout (front t) (length (b ∷ bs)) (length asked.bytes) (joined layout (front t) ((b ∷ bs) ++ asked.bytes) t)
                → Steps layout base (Partial (length (b ∷ bs))) stage (known (b ∷ bs)) reply
            by (IsWhole none at all) = record {
              ends = λ e. (
                ap (λ (x : Known). front x.table) same ∙ at ∙ (asked.ends.0 e.no_more).0,
                omega (arith, is_in.3, later.next),
              );
              goes = λ g. subst (λ k. Leads layout base (front t) (Partial (length (b ∷ bs))) stage k) (sym next_same) (record {
                next = Closed;
                answered = omega (arith, at);
                is_in = (none, omega (arith, at, is_in.3, later.next), inl (omega (arith, at, is_in.4)));
              });
            }
            by (IsPartial len at few) = record {
              ends = λ e. absurd (no_partial (after (b ∷ bs)).partial e.none (omega (arith, ap (λ (x : Known). length x.partial) same, len)));
              goes = λ g. subst (λ k. Leads layout base (front t) (Partial (length (b ∷ bs))) stage k) (sym next_same) (record {
                next = Partial (length (joined layout (front t) ((b ∷ bs) ++ asked.bytes) t).partial);
                answered = (
                  sym at,
                  ⊎_elim (λ (many : 256 ≤ length asked.bytes). omega (arith, len, many)) (λ whole. absurd (omega (arith, whole, few))) is_long,
                  omega (arith, len, few),
                );
                is_in = (refl, omega (arith, len), omega (arith, len, few), omega (arith, at, is_in.3, later.next), omega (arith, at, is_in.4));
              });
            }

        gone : HasNone reply.fragments × IsNotHeld stage (front t) reply.more → Steps layout base (Partial (length (b ∷ bs))) stage (known (b ∷ bs)) reply
        gone (none, not_held) = record {
          ends = λ e. absurd (no_partial (after (b ∷ bs)).partial e.none (omega (arith, ap (λ (x : Known). length x.partial) (none-learned layout reply.fragments (known (b ∷ bs)) none))));
          goes = λ g. subst (λ k. Leads layout base (front t) (Partial (length (b ∷ bs))) stage k) (sym (next-none layout (known (b ∷ bs)) reply.fragments none)) (record {
            next = Lost;
            answered = refl;
            is_in = (refl, omega (arith, is_in.3, later.next), was_lost reply.more not_held, is_in.4);
          });
        }
          where
            was_lost : (more : Bool) → IsNotHeld stage (front t) more → front t < stage.oldest
            was_lost true below = below
            was_lost false above = absurd (omega (arith, above, is_in.3, later.next))

    steps : (p : List ℕ) → Answers layout (mode_from (front t) p) h stage reply → AnswersFully layout (run_of (mode_from (front t) p) h stage) reply → (phase : Phase)
        → IsIn layout base from (known p) phase → Steps layout base phase stage (known p) reply
    steps [] answers full phase is_in = from_front answers full phase is_in
    steps (b ∷ bs) answers full Closed is_in = absurd (no_partial (b ∷ bs) is_in.0 (omega arith))
    steps (b ∷ bs) answers full Lost is_in = absurd (no_partial (b ∷ bs) is_in.0 (omega arith))
    steps (b ∷ bs) answers full (Partial have) is_in =
        subst (λ n. Steps layout base (Partial n) stage (known (b ∷ bs)) reply) is_in.0
        (for_rest b bs answers full.long (refl, omega (arith, is_in.0, is_in.1), omega (arith, is_in.0, is_in.2), is_in.3, is_in.4))

full_steps : (layout : Layout) (h : History) (base : ℕ) (from : Stage) (k : Known) (a : FullAnswer layout h k) → IsNotBefore from a.answer.stage → (phase : Phase)
    → IsIn layout base from k phase → Steps layout base phase a.answer.stage k a.reply
full_steps layout h base from k a later phase is_in =
    let are = fragments_in a.table layout a.reply.resp a.reply.more a.reply.fragments a.reads.body a.complete a.reads.has in
    steps layout h base from k.table a.answer.stage a.reply later a.table are.0 a.reads.body are.1 a.held k.partial a.answer.answers a.full phase is_in

-- ---- all of them

is_below : (layout : Layout) (base : ℕ) (from : Stage) (k : Known) (phase : Phase) → IsIn layout base from k phase → IsBelow (content_len layout) phase
is_below layout base from k Closed is_in = tt
is_below layout base from k (Partial have) is_in = is_in.2
is_below layout base from k Lost is_in = tt

pub record Counted (layout : Layout) (base n : ℕ) (end : Stage) (last : Known) : Type 0 where
  pub few : n ≤ 1 + (end.next - base) * (parts_max layout + 1)
  pub front_is : front last.table ≡ end.next
  pub none : last.partial ≡ []

pub counted : (layout : Layout) (h : History) (base : ℕ) (from : Stage) (k : Known) (n : ℕ) (end : Stage) (last : Known) → AnswersOf layout h from k n end last
    → (phase : Phase) (asked : ℕ) → IsIn layout base from k phase → Spent base (parts_max layout) (front k.table) phase asked → Counted layout base (asked + n) end last
counted layout h base was k' n end' last' (Last from k a later ends) phase asked is_in spent =
    let step = full_steps layout h base from k a later phase is_in in
    let there = step.ends ends in
    let few = asked_at_most base (content_len layout) (parts_max layout) (front k.table) a.answer.stage.next asked phase (parts-enough layout) (parts-some layout)
    (is_below layout base from k phase is_in) spent there.1 in
    record { few = omega (arith, few); front_is = there.0; none = ends.none }
counted layout h base was k' n end' last' (More from k a m end last later goes rest) phase asked is_in spent =
    let leads = (full_steps layout h base from k a later phase is_in).goes goes in
    let more = spent_more base (content_len layout) (parts_max layout) (front k.table) (front (next_known layout k a.reply.fragments).table) asked phase leads.next
    (parts-enough layout) (parts-some layout) leads.answered (is_below layout base from k phase is_in) spent in
    let all = counted layout h base a.answer.stage (next_known layout k a.reply.fragments) m end last rest leads.next (suc asked) leads.is_in more in
    record { few = omega (arith, all.few); front_is = all.front_is; none = all.none }

pub within-bound : (layout : Layout) (h : History) (from : Stage) (k : Known) (n : ℕ) (end : Stage) (last : Known) → AnswersOf layout h from k n end last → k.partial ≡ []
    → front k.table ≤ from.next → (n ≤ bound layout (front k.table) from.oldest end.next) × (front last.table ≡ end.next) × (last.partial ≡ [])
within-bound layout h from k n end last answers none low =
    let base = max (front k.table) from.oldest in
    let all = counted layout h base from k n end last answers Closed 0 (none, low, starts (front k.table) from.oldest) (omega arith) in
    (omega (arith, all.few), all.front_is, all.none)
  where
    starts : (f o : ℕ) → (max f o ≤ f) ⊎ (max f o ≤ o)
    starts f o = ⊎_elim (λ l. inr (omega (arith, l))) (λ g. inl (omega (arith, g))) (cases_lt f o)

-- ---- so far

-- where a table stands after so many requests
record Went (layout : Layout) (base n : ℕ) (stage : Stage) (now : Known) : Type 0 where
  phase : Phase
  is_in : IsIn layout base stage now phase
  spent : Spent base (parts_max layout) (front now.table) phase n

went : (layout : Layout) (h : History) (base : ℕ) (from : Stage) (k : Known) (n : ℕ) (stage : Stage) (now : Known) → GoesThrough layout h from k n stage now
    → IsIn layout base from k Closed → Went layout base n stage now
went layout h base from k n' stage' now' Unasked start = record { phase = Closed; is_in = start; spent = omega arith }
went layout h base from k n' stage' now' (Further n stage now before a later goes) start =
    let so_far = went layout h base from k n stage now before start in
    let leads = (full_steps layout h base stage now a later so_far.phase so_far.is_in).goes goes in
    record {
      phase = leads.next;
      is_in = leads.is_in;
      spent = spent_more base (content_len layout) (parts_max layout) (front now.table) (front (next_known layout now a.reply.fragments).table) n so_far.phase leads.next
          (parts-enough layout) (parts-some layout) leads.answered (is_below layout base stage now so_far.phase so_far.is_in) so_far.spent;
    }

reaches_now : (layout : Layout) (base : ℕ) (stage : Stage) (now : Known) (phase : Phase) → IsIn layout base stage now phase → Reaches (front now.table) stage.next phase
reaches_now layout base stage now Closed is_in = is_in.1
reaches_now layout base stage now (Partial have) is_in = is_in.3
reaches_now layout base stage now Lost is_in = is_in.1

module _ (layout : Layout) (h : History) (from : Stage) (k : Known) (n : ℕ) (stage : Stage) (now : Known) (through : GoesThrough layout h from k n stage now)
    (none : k.partial ≡ []) (low : front k.table ≤ from.next) where
  so_far : Went layout (max (front k.table) from.oldest) n stage now
  so_far = went layout h (max (front k.table) from.oldest) from k n stage now through (none, low, starts (front k.table) from.oldest)
    where
      starts : (f o : ℕ) → (max f o ≤ f) ⊎ (max f o ≤ o)
      starts f o = ⊎_elim (λ l. inr (omega (arith, l))) (λ g. inl (omega (arith, g))) (cases_lt f o)

  pub goes-within : n < bound layout (front k.table) from.oldest stage.next
  goes-within =
      let base = max (front k.table) from.oldest in
      let few = asked_at_most base (content_len layout) (parts_max layout) (front now.table) stage.next n so_far.phase (parts-enough layout) (parts-some layout)
      (is_below layout base stage now so_far.phase so_far.is_in) so_far.spent (reaches_now layout base stage now so_far.phase so_far.is_in) in
      omega (arith, few)

  pub ends-within : (a : FullAnswer layout h now) → IsNotBefore stage a.answer.stage → Ends layout now a.reply
      → (suc n ≤ bound layout (front k.table) from.oldest a.answer.stage.next) × (front (learned layout now a.reply.fragments).table ≡ a.answer.stage.next)
  ends-within a later ends =
      let base = max (front k.table) from.oldest in
      let there = (full_steps layout h base stage now a later so_far.phase so_far.is_in).ends ends in
      let few = asked_at_most base (content_len layout) (parts_max layout) (front now.table) a.answer.stage.next n so_far.phase (parts-enough layout) (parts-some layout)
      (is_below layout base stage now so_far.phase so_far.is_in) so_far.spent there.1 in
      (omega (arith, few), there.0)
