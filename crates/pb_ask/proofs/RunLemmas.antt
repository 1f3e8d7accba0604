-- How what is heard after one sending makes up its end.
use Rattle.std.proofs.Common.{◌≡◌, inl, inr, ℕ, zero, suc, ◌+◌, ◌-◌, ◌*◌, ◌^◌, ◌<◌, ◌≤◌, List, [], ◌∷◌, ◌++◌, Option, Some, None, length, refl, sym, ap, subst, ◌∙◌, append_assoc, length-append, min, arith}
use Rattle.std.proofs.lemmas.List.{append-nil}
use Rattle.pb_base.specs.World.{World, all_heard, bytes_heard, quiet_ticks}
use Rattle.pb_io.specs.ChangeLog.{arrival}
use Rattle.pb_io.specs.Faults.{counted}
use Rattle.pb_io.specs.Site.{GrowsBy}
use Rattle.pb_io.specs.View.{Link}
use Rattle.pb_io.proofs.WorldLemmas.{GrowsBy-nil, GrowsBy-trans}
use Rattle.pb_frame.specs.Framing.{Verdict}
use Rattle.pb_frame.specs.Hearing.{Hearing, Follows}
use Rattle.pb_frame.proofs.FollowsLemmas.{Follows-trans}
use Rattle.pb_trans.specs.declared.asked.Asked.{Asked}
use Rattle.pb_trans.specs.declared.asked.Limits.{Limits}
use Rattle.pb_trans.specs.declared.asked.Step.{Step}
use Rattle.pb_trans.specs.declared.asked.Step.TheVariants as step
use Rattle.pb_trans.specs.Waiting.{Waiting, Ticks, after_sending}
use Rattle.pb_ask.specs.declared.question.Ended.{Ended}
use Rattle.pb_ask.specs.declared.question.Ended.TheVariants as ended
use Rattle.pb_ask.specs.declared.question.Conclusion.{Conclusion}
use Rattle.pb_ask.specs.declared.question.Conclusion.TheVariants.{NoAnswer, Flooded}
use Rattle.pb_ask.specs.Asking.{Sending, IsVain, ConclusionOf}
use Rattle.pb_ask.specs.Events.{CameWith}
use Rattle.pb_ask.specs.Inside.{SetsDue, Heeds, Judged, Counted, Run, Listens, ListensInVain}
use Rattle.pb_ask.specs.Judging.{NoneShows, EndsWith, Holds, ShownBy}
use Rattle.pb_ask.specs.Listening.{Listening}
use Rattle.pb_ask.specs.Ticking.{RoseBy, IsDue}
use Rattle.pb_ask.specs.Wanted.{Wanted, EndsBy, conclusion_is}
use Rattle.pb_ask.proofs.DueLemmas.{due_first, due_chunk, due_tick}
use Rattle.pb_ask.proofs.EventLemmas.{bytes_heard-append, quiet_ticks-append, bytes_heard-nil, quiet_ticks-nil, bytes_heard-arrival, quiet_ticks-quiet, quiet_ticks-bytes, HearsOnly-append, HearsOnly-arrival}
use Rattle.pb_ask.proofs.JudgeLemmas.{Holds-after, NoneShows-append, EndsWith-after}

-- ---- counts

pub RoseBy-nil : (n : ℕ) → RoseBy (quiet_ticks []) n n
RoseBy-nil n = record { least = omega (arith, quiet_ticks-nil); most = omega (arith, quiet_ticks-nil) }

pub RoseBy-trans : (a b : World) (x y z : ℕ) → RoseBy (quiet_ticks a) x y → RoseBy (quiet_ticks b) y z → RoseBy (quiet_ticks (a ++ b)) x z
RoseBy-trans a b x y z p q = record {
  least = omega (arith, p.least, p.most, q.least, q.most, quiet_ticks-append a b);
  most = omega (arith, p.most, q.most, quiet_ticks-append a b);
}

-- ---- what came of one call

-- these bytes, or a quiet tick
pub record Comes (bytes : List ℕ) (old new : Link) : Type 0 where
  pub grows : GrowsBy old.world new.world (arrival bytes)
  pub quiets : RoseBy (quiet_ticks (arrival bytes)) old.quiets new.quiets

-- nothing, since the call failed
pub record StaysQuiet (old new : Link) : Type 0 where
  pub grows : GrowsBy old.world new.world []
  pub quiets : new.quiets ≡ old.quiets

pub comes : (bytes : List ℕ) (old new : Link) → GrowsBy old.world new.world (arrival bytes) → (n : ℕ) → n ≡ length bytes → (n ≡ 0 → new.quiets ≡ counted old.quiets) → (0 < n → new.quiets ≡ old.quiets) → Comes bytes old new
comes [] old new grows n is tick none = record { grows = grows; quiets = record { least = omega (arith, quiet_ticks-quiet, tick is); most = omega (arith, quiet_ticks-quiet, tick is) } }
comes (byte ∷ bytes) old new grows n is tick none =
    let same : new.quiets ≡ old.quiets = none (omega (arith, is)) in
    record { grows = grows; quiets = record { least = omega (arith, quiet_ticks-bytes byte bytes, same); most = omega (arith, quiet_ticks-bytes byte bytes, same) } }

arrival-some : (bytes : List ℕ) → 0 < length bytes → arrival bytes ≡ all_heard bytes
arrival-some [] some = absurd (omega (arith, some))
arrival-some (byte ∷ bytes) some = refl

is_empty : (b : List ℕ) → length b ≡ 0 → b ≡ []
is_empty [] is = refl
is_empty (x ∷ xs) is = absurd (omega (arith, is))

-- ---- from one sending on

module _ {A : Type 0} (wanted : Wanted A) (old : Listening) (w : Link) (e_old : Waiting) where
  abbrev pub P : Ended A → List ℕ → Type 0
  P = EndsBy wanted

  -- the exchange waits for this request, within the limits of its begin
  pub record IsFor (e : Waiting) : Type 0 where
    pub asked : e.asked ≡ wanted.asked
    pub limits : e.limits ≡ e_old.limits
    pub sent : e.sent ≡ e_old.sent

  pub sets : (e e_new : Waiting) (shown : List Verdict) → IsFor e → Heeds shown e e_new → SetsDue wanted.asked e_old.limits shown e.due e_new.due
  sets e e_new shown f h = subst (λ (a : Asked). SetsDue a e_old.limits shown e.due e_new.due) f.asked (subst (λ (l : Limits). SetsDue e.asked l shown e.due e_new.due) f.limits h.due)

  pub some_due : (shown : List Verdict) (a b : ℕ) → 1 ≤ e_old.limits.quiets → 0 < a → SetsDue wanted.asked e_old.limits shown a b → 0 < b
  some_due shown a b some was (inl (seconds, last, is)) = omega (arith, is, some)
  some_due shown a b some was (inr (none, is)) = omega (arith, is, was)

  pub few_due : (shown : List Verdict) (a b : ℕ) → a ≤ e_old.limits.quiets + 60 → SetsDue wanted.asked e_old.limits shown a b → b ≤ e_old.limits.quiets + 60
  few_due shown a b was (inl (seconds, last, is)) = omega (arith, is)
  few_due shown a b was (inr (none, is)) = omega (arith, is, was)

  pub IsFor-heeds : (e e_new : Waiting) (shown : List Verdict) → IsFor e → Heeds shown e e_new → IsFor e_new
  IsFor-heeds e e_new shown f h = record {
    asked = ap (λ (v : Waiting). v.asked) h.same ∙ f.asked;
    limits = ap (λ (v : Waiting). v.limits) h.same ∙ f.limits;
    sent = ap (λ (v : Waiting). v.sent) h.same ∙ f.sent;
  }

  -- ---- what was at hand

  abbrev pub first_sending : (r : Option (Ended A)) (new : Listening) (e_new : Waiting) → IsFor e_old → e_old.due ≡ e_old.limits.quiets → Judged P old e_old r new e_new → Sending wanted e_old.limits old e_new.due new
  first_sending r new e_new f begun j = record {
    heard = [];
    hearing = tt;
    brief = omega (arith, ap length bytes_heard-nil);
    pushed = j.pushed;
    shown = j.shown;
    follows = j.follows;
    split = ap (λ l. old.inbox ++ l) bytes_heard-nil ∙ append-nil old.inbox ∙ j.split;
    is_due = due_first (ShownBy old.ear) old.inbox wanted.asked e_old.limits j.pushed new.inbox j.shown e_new.due j.split (new.ear, j.follows)
        (subst (λ (n : ℕ). SetsDue wanted.asked e_old.limits j.shown n e_new.due) begun (sets e_old e_new j.shown f j.heeds));
  }

  pub first_run : (r : Option (Ended A)) (new : Listening) (e_new : Waiting) → length old.inbox ≤ 4096 → (j : Judged P old e_old r new e_new) → Run old w [] new w j.pushed
  first_run r new e_new room j = record { grows = GrowsBy-nil w.world; quiets = RoseBy-nil w.quiets; room = room; count = j.count }

  -- so far nothing ended the request, and all was judged
  pub record Ongoing (now : Listening) (w_now : Link) (e : Waiting) : Type 0 where
    pub sending : Sending wanted e_old.limits old e.due now
    pub run : Run old w sending.heard now w_now sending.pushed
    pub none : NoneShows P sending.shown
    pub nothing : now.inbox ≡ []
    pub is_for : IsFor e
    pub heard_are : e.heard ≡ length (bytes_heard sending.heard)
    pub fewer : e.heard < 65536
    pub some : 0 < e.due
    pub few : e.due ≤ e_old.limits.quiets + 60

  pub Ongoing-start : (now : Listening) (e : Waiting) → length old.inbox ≤ 4096 → e_old ≡ after_sending wanted.asked e_old.limits e_old.sent → 1 ≤ e_old.limits.quiets → Judged P old e_old None now e → now.inbox ≡ [] → Ongoing now w e
  Ongoing-start now e room begun some j nothing =
      let f : IsFor e_old = record { asked = ap (λ (v : Waiting). v.asked) begun; limits = refl; sent = refl } in
      let due : e_old.due ≡ e_old.limits.quiets = ap (λ (v : Waiting). v.due) begun in
      let set = sets e_old e j.shown f j.heeds in
      let heard : e.heard ≡ 0 = ap (λ (v : Waiting). v.heard) j.heeds.same ∙ ap (λ (v : Waiting). v.heard) begun in
      record {
        sending = first_sending None now e f due j;
        run = first_run None now e room j;
        none = j.outcome;
        nothing = nothing;
        is_for = IsFor-heeds e_old e j.shown f j.heeds;
        heard_are = omega (arith, heard, ap length bytes_heard-nil);
        fewer = omega (arith, heard);
        some = some_due j.shown e_old.due e.due some (omega (arith, due, some)) set;
        few = few_due j.shown e_old.due e.due (omega (arith, due)) set;
      }

  -- a frame ended the request
  ends_as : (found : Ended A) (resends : ℕ) (new : Listening) (due : ℕ) (s : Sending wanted e_old.limits old due new) → EndsWith P found s.shown → Holds P found s.shown new.ear → CameWith s.heard new.inbox → 0 < due
      → ConclusionOf wanted e_old.limits resends old new due s (conclusion_is found)
  ends_as (ended.Answer answer) resends new due s ends holds came some = (ends, holds, came, some)
  ends_as (ended.Undelivered code) resends new due s ends holds came some = (ends, came, some)

  the_resends : 1 ≤ e_old.sent → (resends : ℕ) × (e_old.sent ≡ resends + 1)
  the_resends some = (e_old.sent - 1, omega (arith, some))

  pub listens_first : (new : Listening) (found : Ended A) (o : Conclusion A) (e_new : Waiting) → length old.inbox ≤ 4096 → e_old ≡ after_sending wanted.asked e_old.limits e_old.sent → 1 ≤ e_old.limits.quiets → 1 ≤ e_old.sent
      → Judged P old e_old (Some found) new e_new → o ≡ conclusion_is found → Listens wanted old w e_old (Some o) new w e_new
  listens_first new found o e_new room begun quiets sent j is =
      let f : IsFor e_old = record { asked = ap (λ (v : Waiting). v.asked) begun; limits = refl; sent = refl } in
      let due : e_old.due ≡ e_old.limits.quiets = ap (λ (v : Waiting). v.due) begun in
      let resends = the_resends sent in
      subst (λ (x : Conclusion A). Listens wanted old w e_old (Some x) new w e_new) (sym is) (
        e_new.due,
        first_sending (Some found) new e_new f due j,
        first_run (Some found) new e_new room j,
        (
          resends.0,
          resends.1,
          ends_as found resends.0 new e_new.due (first_sending (Some found) new e_new f due j) j.outcome j.kept (inl refl) (some_due j.shown e_old.due e_new.due quiets (omega (arith, due, quiets)) (sets e_old e_new j.shown f j.heeds)),
        ),
      )

  module _ (mid new : Listening) (x y : Link) (e : Waiting) (l : Ongoing mid x e) (bytes : List ℕ) (came : Comes bytes x y) (few : length bytes ≤ 4096) (quiets : 1 ≤ e_old.limits.quiets) where
    abbrev pub hand : List ℕ
    hand = old.inbox

    abbrev pub s : Sending wanted e_old.limits old e.due mid
    s = l.sending

    -- all that was heard was judged
    pub all_pushed : s.pushed ≡ hand ++ bytes_heard s.heard
    all_pushed = sym (s.split ∙ ap (λ k. s.pushed ++ k) l.nothing ∙ append-nil s.pushed)

    module _ (r : Option (Ended A)) (e_mid : Waiting) (j : Judged P (record { ear = mid.ear; inbox = bytes }) e r new e_mid) where
      pub set : SetsDue wanted.asked e_old.limits j.shown e.due e_mid.due
      set = sets e e_mid j.shown l.is_for j.heeds

      pub more_follows : Follows old.ear (s.pushed ++ j.pushed) (s.shown ++ j.shown) new.ear
      more_follows = Follows-trans old.ear mid.ear new.ear s.pushed j.pushed s.shown j.shown s.follows j.follows

      pub chunk_due : IsDue (ShownBy old.ear) hand wanted.asked e_old.limits (s.heard ++ all_heard (j.pushed ++ new.inbox)) (s.shown ++ j.shown) e_mid.due
      chunk_due =
          due_chunk (ShownBy old.ear) hand wanted.asked e_old.limits s.heard s.shown e.due s.is_due j.pushed new.inbox j.shown e_mid.due
          (mid.ear, subst (λ (k : List ℕ). Follows old.ear k s.shown mid.ear) all_pushed s.follows)
          (new.ear, subst (λ (k : List ℕ). Follows old.ear (k ++ j.pushed) (s.shown ++ j.shown) new.ear) all_pushed more_follows) set

      pub bytes_due : 0 < length bytes → IsDue (ShownBy old.ear) hand wanted.asked e_old.limits (s.heard ++ arrival bytes) (s.shown ++ j.shown) e_mid.due
      bytes_due some =
          subst (λ (k : World). IsDue (ShownBy old.ear) hand wanted.asked e_old.limits (s.heard ++ k) (s.shown ++ j.shown) e_mid.due)
          (ap all_heard (sym j.split) ∙ sym (arrival-some bytes some)) chunk_due

      pub tick_due : bytes ≡ [] → (later : ℕ) → later + 1 ≡ e_mid.due → IsDue (ShownBy old.ear) hand wanted.asked e_old.limits (s.heard ++ arrival bytes) (s.shown ++ j.shown) later
      tick_due empty later is =
          let none : j.pushed ++ new.inbox ≡ [] = sym j.split ∙ empty in
          let judged : IsDue (ShownBy old.ear) hand wanted.asked e_old.limits s.heard (s.shown ++ j.shown) e_mid.due =
          subst (λ (k : World). IsDue (ShownBy old.ear) hand wanted.asked e_old.limits k (s.shown ++ j.shown) e_mid.due) (ap (λ k. s.heard ++ all_heard k) none ∙ append-nil s.heard) chunk_due in
          subst (λ (k : List ℕ). IsDue (ShownBy old.ear) hand wanted.asked e_old.limits (s.heard ++ arrival k) (s.shown ++ j.shown) later) (sym empty)
          (due_tick (ShownBy old.ear) hand wanted.asked e_old.limits s.heard (s.shown ++ j.shown) e_mid.due judged later is)

      pub bytes_all : bytes_heard (s.heard ++ arrival bytes) ≡ bytes_heard s.heard ++ bytes
      bytes_all = bytes_heard-append s.heard (arrival bytes) ∙ ap (λ k. bytes_heard s.heard ++ k) (bytes_heard-arrival bytes)

      pub heard_all : length (bytes_heard (s.heard ++ arrival bytes)) ≡ e.heard + length bytes
      heard_all = omega (arith, ap length bytes_all, length-append (bytes_heard s.heard) bytes, l.heard_are)

      abbrev pub more_sending : (due : ℕ) → IsDue (ShownBy old.ear) hand wanted.asked e_old.limits (s.heard ++ arrival bytes) (s.shown ++ j.shown) due → Sending wanted e_old.limits old due new
      more_sending due is_due = record {
        heard = s.heard ++ arrival bytes;
        hearing = HearsOnly-append s.heard (arrival bytes) s.hearing (HearsOnly-arrival bytes);
        brief = omega (arith, few, l.fewer, heard_all);
        pushed = s.pushed ++ j.pushed;
        shown = s.shown ++ j.shown;
        follows = more_follows;
        split = ap (λ k. hand ++ k) bytes_all ∙ sym (append_assoc hand (bytes_heard s.heard) bytes) ∙ ap (λ k. k ++ bytes) (sym all_pushed) ∙ ap (λ k. s.pushed ++ k) j.split ∙ sym (append_assoc s.pushed j.pushed new.inbox);
        is_due = is_due;
      }

      pub more_run : Run old w (s.heard ++ arrival bytes) new y (s.pushed ++ j.pushed)
      more_run = record {
        grows = GrowsBy-trans w.world x.world y.world s.heard (arrival bytes) l.run.grows came.grows;
        quiets = RoseBy-trans s.heard (arrival bytes) w.quiets x.quiets y.quiets l.run.quiets came.quiets;
        room = l.run.room;
        count = omega (arith, l.run.count, j.count, length-append s.pushed j.pushed);
      }

      pub mid_for : IsFor e_mid
      mid_for = IsFor-heeds e e_mid j.shown l.is_for j.heeds

      pub mid_some : 0 < e_mid.due
      mid_some = some_due j.shown e.due e_mid.due quiets l.some set

      pub mid_heard : e_mid.heard ≡ e.heard
      mid_heard = ap (λ (v : Waiting). v.heard) j.heeds.same

    pub listens_ended : (found : Ended A) (o : Conclusion A) (e_new : Waiting) → 1 ≤ e_old.sent → Judged P (record { ear = mid.ear; inbox = bytes }) e (Some found) new e_new → o ≡ conclusion_is found
        → Listens wanted old w e_old (Some o) new y e_new
    listens_ended found o e_new sent j is =
        let some : 0 < length bytes = omega (arith, j.some, ap length j.split, length-append j.pushed new.inbox) in
        let resends = the_resends sent in
        let one = more_sending (Some found) e_new j e_new.due (bytes_due (Some found) e_new j some) in
        subst (λ (v : Conclusion A). Listens wanted old w e_old (Some v) new y e_new) (sym is) (
          e_new.due,
          one,
          more_run (Some found) e_new j,
          (
            resends.0,
            resends.1,
            ends_as found resends.0 new e_new.due one (EndsWith-after P found s.shown j.shown l.none j.outcome) (Holds-after P found s.shown j.shown new.ear j.kept)
                (inr (s.heard, j.pushed, ap (λ k. s.heard ++ k) (arrival-some bytes some ∙ ap all_heard j.split), j.some, omega (arith, few, ap length j.split))) (mid_some (Some found) e_new j),
          ),
        )

    -- no frame among them ended it
    module _ (e_mid e_new : Waiting) (j : Judged P (record { ear = mid.ear; inbox = bytes }) e None new e_mid) (nothing : new.inbox ≡ []) (n : ℕ) (is : n ≡ length bytes) where
      none_shown : NoneShows P (s.shown ++ j.shown)
      none_shown = NoneShows-append P s.shown j.shown l.none j.outcome

      f : IsFor e_mid
      f = mid_for None e_mid j

      pub some : 0 < e_mid.due
      some = mid_some None e_mid j

      pub no_bytes : n ≡ 0 → bytes ≡ []
      no_bytes at = is_empty bytes (sym is ∙ at)

      waited_tick : n ≡ 0 → Ticks e_mid step.Wait e_new → Ongoing new y e_new
      waited_tick at (more, same) =
          let due : e_new.due ≡ e_mid.due - 1 = ap (λ (v : Waiting). v.due) same in
          let heard : e_new.heard ≡ e_mid.heard = ap (λ (v : Waiting). v.heard) same in
          record {
            sending = more_sending None e_mid j e_new.due (tick_due None e_mid j (no_bytes at) e_new.due (omega (arith, due, more)));
            run = more_run None e_mid j;
            none = none_shown;
            nothing = nothing;
            is_for = record { asked = ap (λ (v : Waiting). v.asked) same ∙ f.asked; limits = ap (λ (v : Waiting). v.limits) same ∙ f.limits; sent = ap (λ (v : Waiting). v.sent) same ∙ f.sent };
            heard_are = omega (arith, heard, mid_heard None e_mid j, heard_all None e_mid j, is, at);
            fewer = omega (arith, heard, mid_heard None e_mid j, l.fewer);
            some = omega (arith, due, more);
            few = omega (arith, due, few_due j.shown e.due e_mid.due l.few (set None e_mid j));
          }

      waited_bytes : 0 < n → e_new ≡ record e_mid { heard = e_new.heard } → e_new.heard ≡ min (e_mid.heard + n) (2 ^ 64 - 1) → e_new.heard < 65536 → Ongoing new y e_new
      waited_bytes at same sum below =
          let due : e_new.due ≡ e_mid.due = ap (λ (v : Waiting). v.due) same in
          record {
            sending = more_sending None e_mid j e_new.due (subst (λ (k : ℕ). IsDue (ShownBy old.ear) hand wanted.asked e_old.limits (s.heard ++ arrival bytes) (s.shown ++ j.shown) k) (sym due) (bytes_due None e_mid j (omega (arith, is, at))));
            run = more_run None e_mid j;
            none = none_shown;
            nothing = nothing;
            is_for = record { asked = ap (λ (v : Waiting). v.asked) same ∙ f.asked; limits = ap (λ (v : Waiting). v.limits) same ∙ f.limits; sent = ap (λ (v : Waiting). v.sent) same ∙ f.sent };
            heard_are = omega (arith, sum, below, mid_heard None e_mid j, heard_all None e_mid j, is);
            fewer = below;
            some = omega (arith, due, some);
            few = omega (arith, due, few_due j.shown e.due e_mid.due l.few (set None e_mid j));
          }

      pub Ongoing-more : (answer : Step) → Counted e_mid n answer e_new → (answer ≡ step.Resend → ⊥) → (answer ≡ step.NoAnswer → ⊥) → (answer ≡ step.Flooded → ⊥) → Ongoing new y e_new
      Ongoing-more answer c no_resend no_end no_flood = go n refl answer c no_resend no_end no_flood
        where
          go : (m : ℕ) → m ≡ n → (answer : Step) → Counted e_mid n answer e_new → (answer ≡ step.Resend → ⊥) → (answer ≡ step.NoAnswer → ⊥) → (answer ≡ step.Flooded → ⊥) → Ongoing new y e_new
          go m at step.Resend c no_resend no_end no_flood = absurd (no_resend refl)
          go m at step.NoAnswer c no_resend no_end no_flood = absurd (no_end refl)
          go m at step.Flooded c no_resend no_end no_flood = absurd (no_flood refl)
          go zero at step.Wait c no_resend no_end no_flood = waited_tick (sym at) (c.tick (sym at))
          go zero at step.Answer c no_resend no_end no_flood = absurd (c.tick (sym at))
          go zero at (step.Undelivered code) c no_resend no_end no_flood = absurd (c.tick (sym at))
          go (suc m) at step.Wait c no_resend no_end no_flood =
              let some : 0 < n = omega arith in
              waited_bytes some (c.heard some) (c.sum some) (c.bytes some)
          go (suc m) at step.Answer c no_resend no_end no_flood = absurd (c.bytes (omega arith))
          go (suc m) at (step.Undelivered code) c no_resend no_end no_flood = absurd (c.bytes (omega arith))

      -- ---- each turn is a tick less, or some bytes more

      fewer_ticks : n ≡ 0 → Ticks e_mid step.Wait e_new → e_mid ≡ e → (65536 - e_new.heard) * 70000 + e_new.due < (65536 - e.heard) * 70000 + e.due
      fewer_ticks at (more, same) still =
          let due : e_new.due ≡ e_mid.due - 1 = ap (λ (v : Waiting). v.due) same in
          let heard : e_new.heard ≡ e_mid.heard = ap (λ (v : Waiting). v.heard) same in
          let due_is : e_mid.due ≡ e.due = ap (λ (v : Waiting). v.due) still in
          let heard_is : e_mid.heard ≡ e.heard = ap (λ (v : Waiting). v.heard) still in
          omega (arith, due, heard, due_is, heard_is, more)

      fewer_bytes : 0 < n → e_new ≡ record e_mid { heard = e_new.heard } → e_new.heard ≡ min (e_mid.heard + n) (2 ^ 64 - 1) → e_new.heard < 65536 → e_old.limits.quiets ≤ 65535
          → (65536 - e_new.heard) * 70000 + e_new.due < (65536 - e.heard) * 70000 + e.due
      fewer_bytes at same sum below small =
          let due : e_new.due ≡ e_mid.due = ap (λ (v : Waiting). v.due) same in
          omega (arith, due, mid_heard None e_mid j, sum, below, small, few_due j.shown e.due e_mid.due l.few (set None e_mid j), at)

      pub measure : (answer : Step) → Counted e_mid n answer e_new → (answer ≡ step.Resend → ⊥) → (answer ≡ step.NoAnswer → ⊥) → (answer ≡ step.Flooded → ⊥) → (length bytes ≡ 0 → e_mid ≡ e) → e_old.limits.quiets ≤ 65535
          → (65536 - e_new.heard) * 70000 + e_new.due < (65536 - e.heard) * 70000 + e.due
      measure answer c no_resend no_end no_flood still small = go n refl answer c no_resend no_end no_flood
        where
          go : (m : ℕ) → m ≡ n → (answer : Step) → Counted e_mid n answer e_new → (answer ≡ step.Resend → ⊥) → (answer ≡ step.NoAnswer → ⊥) → (answer ≡ step.Flooded → ⊥)
              → (65536 - e_new.heard) * 70000 + e_new.due < (65536 - e.heard) * 70000 + e.due
          go m at step.Resend c no_resend no_end no_flood = absurd (no_resend refl)
          go m at step.NoAnswer c no_resend no_end no_flood = absurd (no_end refl)
          go m at step.Flooded c no_resend no_end no_flood = absurd (no_flood refl)
          go zero at step.Wait c no_resend no_end no_flood = fewer_ticks (sym at) (c.tick (sym at)) (still (sym is ∙ sym at))
          go zero at step.Answer c no_resend no_end no_flood = absurd (c.tick (sym at))
          go zero at (step.Undelivered code) c no_resend no_end no_flood = absurd (c.tick (sym at))
          go (suc m) at step.Wait c no_resend no_end no_flood =
              let some : 0 < n = omega arith in
              fewer_bytes some (c.heard some) (c.sum some) (c.bytes some) small
          go (suc m) at step.Answer c no_resend no_end no_flood = absurd (c.bytes (omega arith))
          go (suc m) at (step.Undelivered code) c no_resend no_end no_flood = absurd (c.bytes (omega arith))

      -- ---- the ends

      abbrev pub last_tick : n ≡ 0 → e_mid.due ≤ 1 → Sending wanted e_old.limits old 0 new
      last_tick at one = more_sending None e_mid j 0 (tick_due None e_mid j (no_bytes at) 0 (omega (arith, one, some)))

      in_vain : (at : n ≡ 0) (one : e_mid.due ≤ 1) → IsVain wanted e_old.limits old new 0 (last_tick at one)
      in_vain at one = record { none = none_shown; all = nothing; no_flood = omega (arith, heard_all None e_mid j, is, at, l.fewer) }

      pub listens_resend : Counted e_mid n step.Resend e_new → Listens wanted old w e_old None new y e_new
      listens_resend c = go n refl c
        where
          go : (m : ℕ) → m ≡ n → Counted e_mid n step.Resend e_new → Listens wanted old w e_old None new y e_new
          go zero at c =
              let t = c.tick (sym at) in
              let sends : e_mid.limits.sends ≡ e_old.limits.sends = ap (λ v. v.sends) f.limits in (
                0,
                last_tick (sym at) t.0,
                more_run None e_mid j,
                (in_vain (sym at) t.0, refl, omega (arith, t.1, sends, f.sent), t.2 ∙ ap (λ a. after_sending a e_mid.limits (e_mid.sent + 1)) f.asked ∙ ap (λ a. after_sending wanted.asked a (e_mid.sent + 1)) f.limits ∙ ap (λ k. after_sending wanted.asked e_old.limits (k + 1)) f.sent),
              )
          go (suc m) at c = absurd (c.bytes (omega arith))

      pub listens_no_answer : 1 ≤ e_old.sent → Counted e_mid n step.NoAnswer e_new → Listens wanted old w e_old (Some NoAnswer) new y e_new
      listens_no_answer sent c = go n refl c
        where
          go : (m : ℕ) → m ≡ n → Counted e_mid n step.NoAnswer e_new → Listens wanted old w e_old (Some NoAnswer) new y e_new
          go zero at c =
              let t = c.tick (sym at) in
              let resends = the_resends sent in
              let sends : e_mid.limits.sends ≡ e_old.limits.sends = ap (λ v. v.sends) f.limits in
              (0, last_tick (sym at) t.0, more_run None e_mid j, (resends.0, resends.1, (in_vain (sym at) t.0, omega (arith, t.1, sends, f.sent, resends.1), refl)))
          go (suc m) at c = absurd (c.bytes (omega arith))

      pub listens_flooded : 1 ≤ e_old.sent → Counted e_mid n step.Flooded e_new → Listens wanted old w e_old (Some Flooded) new y e_new
      listens_flooded sent c = go n refl c
        where
          go : (m : ℕ) → m ≡ n → Counted e_mid n step.Flooded e_new → Listens wanted old w e_old (Some Flooded) new y e_new
          go zero at c = absurd (c.tick (sym at))
          go (suc m) at c =
              let at_least : 0 < n = omega arith in
              let resends = the_resends sent in (
                e_mid.due,
                more_sending None e_mid j e_mid.due (bytes_due None e_mid j (omega (arith, is, at_least))),
                more_run None e_mid j,
                (resends.0, resends.1, (none_shown, nothing, omega (arith, heard_all None e_mid j, mid_heard None e_mid j, is, c.sum at_least, c.bytes at_least), some)),
              )

  -- the link failed
  pub breaks : (mid new : Listening) (x y : Link) (e : Waiting) → Ongoing mid x e → new.ear ≡ mid.ear → new.inbox ≡ [] → StaysQuiet x y → ListensInVain wanted old w e_old new y
  breaks mid new x y e l same empty came =
      let s = l.sending in (
        e.due,
        record {
          heard = s.heard;
          hearing = s.hearing;
          brief = s.brief;
          pushed = s.pushed;
          shown = s.shown;
          follows = subst (Follows old.ear s.pushed s.shown) (sym same) s.follows;
          split = s.split ∙ ap (λ k. s.pushed ++ k) (l.nothing ∙ sym empty);
          is_due = s.is_due;
        },
        record {
          grows = subst (λ (k : World). GrowsBy w.world y.world k) (append-nil s.heard) (GrowsBy-trans w.world x.world y.world s.heard [] l.run.grows came.grows);
          quiets = subst (λ (k : ℕ). RoseBy (quiet_ticks s.heard) w.quiets k) (sym came.quiets) l.run.quiets;
          room = l.run.room;
          count = ap (λ (h : Hearing). h.count) same ∙ l.run.count;
        },
        (record { none = l.none; all = empty; no_flood = omega (arith, l.heard_are, l.fewer) }, l.some),
      )
