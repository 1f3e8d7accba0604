-- How many quiet ticks are still to be heard, as more is judged and heard.
use Rattle.std.proofs.Common.{◌≡◌, inl, inr, ℕ, ◌+◌, List, [], ◌∷◌, ◌++◌, refl, sym, ap, ◌∙◌, append_assoc, arith}
use Rattle.std.proofs.lemmas.List.{append-nil}
use Rattle.pb_base.specs.World.{World, Quiet, all_heard, bytes_heard}
use Rattle.pb_frame.specs.Framing.{Verdict}
use Rattle.pb_trans.specs.declared.asked.Asked.{Asked}
use Rattle.pb_trans.specs.declared.asked.Limits.{Limits}
use Rattle.pb_ask.specs.Inside.{SetsDue}
use Rattle.pb_ask.specs.Ticking.{BySending, AtHand, ByChunk, IsDue}
use Rattle.pb_ask.specs.Wanted.{AsksToWait}
use Rattle.pb_ask.proofs.EventLemmas.{quiet_ticks-append, quiet_ticks-nil, quiet_ticks-one, ticks-all}
use Rattle.pb_ask.proofs.JudgeLemmas.{NoneShows-append}

module _ (Shown : List ℕ → List Verdict → Type 0) (hand : List ℕ) (asked : Asked) (limits : Limits) where
  -- what was at hand at the sending was judged
  pub due_first : (taken rest : List ℕ) (shown : List Verdict) (due : ℕ) → hand ≡ taken ++ rest → Shown taken shown → SetsDue asked limits shown limits.quiets due → IsDue Shown hand asked limits [] shown due
  due_first taken rest shown due is by (inl (seconds, last, set)) = record {
    before = [];
    since = [];
    first = shown;
    later = [];
    ticks = _;
    heard_is = refl;
    shown_are = sym (append-nil shown);
    set = AtHand taken rest shown seconds is by last;
    none_later = tt;
    due_is = omega (arith, set, quiet_ticks-nil);
  }
  due_first taken rest shown due is by (inr (none, set)) = record {
    before = [];
    since = [];
    first = [];
    later = shown;
    ticks = limits.quiets;
    heard_is = refl;
    shown_are = refl;
    set = BySending;
    none_later = none;
    due_is = omega (arith, set, quiet_ticks-nil);
  }

  module _ (heard : World) (shown : List Verdict) (due : ℕ) (d : IsDue Shown hand asked limits heard shown due) where
    -- a chunk came, of which these bytes were judged
    pub due_chunk : (taken rest : List ℕ) (more : List Verdict) (later : ℕ) → Shown (hand ++ bytes_heard heard) shown → Shown ((hand ++ bytes_heard heard) ++ taken) (shown ++ more) → SetsDue asked limits more due later
        → IsDue Shown hand asked limits (heard ++ all_heard (taken ++ rest)) (shown ++ more) later
    due_chunk taken rest more later by with_more (inl (seconds, last, set)) = record {
      before = heard ++ all_heard (taken ++ rest);
      since = [];
      first = shown ++ more;
      later = [];
      ticks = _;
      heard_is = sym (append-nil (heard ++ all_heard (taken ++ rest)));
      shown_are = sym (append-nil (shown ++ more));
      set = ByChunk heard taken rest shown more seconds by with_more last;
      none_later = tt;
      due_is = omega (arith, set, quiet_ticks-nil);
    }
    due_chunk taken rest more later by with_more (inr (none, same)) = record {
      before = d.before;
      since = d.since ++ all_heard (taken ++ rest);
      first = d.first;
      later = d.later ++ more;
      ticks = d.ticks;
      heard_is = ap (λ l. l ++ all_heard (taken ++ rest)) d.heard_is ∙ append_assoc d.before d.since (all_heard (taken ++ rest));
      shown_are = ap (λ l. l ++ more) d.shown_are ∙ append_assoc d.first d.later more;
      set = d.set;
      none_later = NoneShows-append (AsksToWait asked) d.later more d.none_later none;
      due_is = omega (arith, d.due_is, same, quiet_ticks-append d.since (all_heard (taken ++ rest)), ticks-all (taken ++ rest));
    }

    -- a tick was quiet
    pub due_tick : (later : ℕ) → later + 1 ≡ due → IsDue Shown hand asked limits (heard ++ Quiet ∷ []) shown later
    due_tick later is = record {
      before = d.before;
      since = d.since ++ Quiet ∷ [];
      first = d.first;
      later = d.later;
      ticks = d.ticks;
      heard_is = ap (λ l. l ++ Quiet ∷ []) d.heard_is ∙ append_assoc d.before d.since (Quiet ∷ []);
      shown_are = d.shown_are;
      set = d.set;
      none_later = d.none_later;
      due_is = omega (arith, d.due_is, is, quiet_ticks-append d.since (Quiet ∷ []), quiet_ticks-one);
    }
