-- How the sendings of one request make up its conclusion.
use Rattle.std.proofs.Common.{◌≡◌, inl, inr, ◌⊎◌, ℕ, suc, ◌+◌, ◌-◌, ◌*◌, ◌^◌, ◌<◌, ◌≤◌, List, [], ◌∷◌, ◌++◌, Option, Some, None, length, refl, sym, ap, subst, ◌∙◌, length-append, arith}
use Rattle.pb_base.specs.World.{World, Sent, bytes_heard, quiet_ticks}
use Rattle.pb_io.specs.Site.{GrowsBy}
use Rattle.pb_io.specs.View.{Link}
use Rattle.pb_io.proofs.WorldLemmas.{GrowsBy-nil, GrowsBy-trans}
use Rattle.pb_trans.specs.declared.asked.Limits.{Limits}
use Rattle.pb_trans.specs.Waiting.{Waiting, after_sending}
use Rattle.pb_ask.specs.declared.question.Conclusion.{Conclusion}
use Rattle.pb_ask.specs.Asking.{Sending, IsVain, Resent, ConclusionOf, Asks, Breaks, Unsent, SentOnly, Hearing, Stops}
use Rattle.pb_ask.specs.Inside.{Run, Listens, ListensInVain}
use Rattle.pb_ask.specs.Listening.{Listening}
use Rattle.pb_ask.specs.Ticking.{RoseBy}
use Rattle.pb_ask.specs.Wanted.{Wanted}
use Rattle.pb_ask.proofs.EventLemmas.{quiet_ticks-sent, quiet_ticks-nil}
use Rattle.pb_ask.proofs.RunLemmas.{RoseBy-nil, RoseBy-trans}

-- before a sending: the request was sent so often, each time in vain
pub record Going {A : Type 0} (wanted : Wanted A) (limits : Limits) (old : Listening) (w_old : Link) (now : Listening) (w_now : Link) (e : Waiting) : Type 0 where
  pub resends : ℕ
  pub fewer : resends < limits.sends
  pub before : World
  pub resent : Resent wanted limits resends old before now
  pub grows : GrowsBy w_old.world w_now.world before
  pub quiets : RoseBy (quiet_ticks before) w_old.quiets w_now.quiets
  pub count : now.ear.count ≤ old.ear.count + resends * 74096
  pub begun : e ≡ after_sending wanted.asked limits (resends + 1)

module _ {A : Type 0} (wanted : Wanted A) (limits : Limits) (old : Listening) (w : Link) where
  pub Going-start : (e : Waiting) → 1 ≤ limits.sends → e ≡ after_sending wanted.asked limits 1 → Going wanted limits old w old w e
  Going-start e some begun = record {
    resends = 0;
    fewer = omega (arith, some);
    before = [];
    resent = (refl, refl);
    grows = GrowsBy-nil w.world;
    quiets = RoseBy-nil w.quiets;
    count = omega arith;
    begun = begun;
  }

  -- the frame that was sent is the request's
  pub sent_frame : {f : List ℕ} {x y : Option World} → f ≡ wanted.frame → GrowsBy x y (Sent f ∷ []) → GrowsBy x y (Sent wanted.frame ∷ [])
  sent_frame {f} {x} {y} is grows = subst (λ (h : List ℕ). GrowsBy x y (Sent h ∷ [])) is grows

  pub maybe_sent : {f : List ℕ} {x y : Option World} → f ≡ wanted.frame → GrowsBy x y (Sent f ∷ []) ⊎ GrowsBy x y [] → GrowsBy x y (Sent wanted.frame ∷ []) ⊎ GrowsBy x y []
  maybe_sent is (inl grows) = inl (sent_frame is grows)
  maybe_sent is (inr nothing) = inr nothing

  RoseBy-sending : (frame : List ℕ) (events : World) (x y z : ℕ) → y ≡ x → RoseBy (quiet_ticks events) y z → RoseBy (quiet_ticks (Sent frame ∷ events)) x z
  RoseBy-sending frame events x y z is rose = record { least = omega (arith, quiet_ticks-sent frame events, is, rose.least); most = omega (arith, quiet_ticks-sent frame events, is, rose.most) }

  -- how often it was sent before
  pub few_sent : (mid : Listening) (x : Link) (e : Waiting) → Going wanted limits old w mid x e → e.sent - 1 < limits.sends
  few_sent mid x e g = omega (arith, g.fewer, ap (λ (v : Waiting). v.sent) g.begun)

  pub sent_once : (e : Waiting) → e ≡ after_sending wanted.asked limits 1 → e.sent - 1 ≡ 0
  sent_once e is = omega (arith, ap (λ (v : Waiting). v.sent) is)

  module _ (mid new : Listening) (x y z : Link) (e : Waiting) (g : Going wanted limits old w mid x e) where
    stops_with : (rest : World) (end : Listening) (v : Link) → Breaks wanted limits mid rest end → GrowsBy x.world v.world rest → RoseBy (quiet_ticks rest) x.quiets v.quiets → Stops wanted limits old w end v
    stops_with rest end v breaks grows quiets = record {
      resends = g.resends;
      few = g.fewer;
      before = g.before;
      mid = mid;
      resent = g.resent;
      rest = rest;
      breaks = breaks;
      grows = GrowsBy-trans w.world x.world v.world g.before rest g.grows grows;
      quiets = RoseBy-trans g.before rest w.quiets x.quiets v.quiets g.quiets quiets;
    }

    quiet_still : (rest : World) (a b : ℕ) → quiet_ticks rest ≡ 0 → b ≡ a → RoseBy (quiet_ticks rest) a b
    quiet_still rest a b none is = record { least = omega (arith, none, is); most = omega (arith, none, is) }

    -- a sending failed
    pub stops_sending : y.quiets ≡ x.quiets → GrowsBy x.world y.world (Sent wanted.frame ∷ []) ⊎ GrowsBy x.world y.world [] → Stops wanted limits old w mid y
    stops_sending still (inl sent) = stops_with (Sent wanted.frame ∷ []) mid y SentOnly sent (quiet_still (Sent wanted.frame ∷ []) x.quiets y.quiets (quiet_ticks-sent wanted.frame [] ∙ quiet_ticks-nil) still)
    stops_sending still (inr nothing) = stops_with [] mid y Unsent nothing (quiet_still [] x.quiets y.quiets quiet_ticks-nil still)

    module _ (sent : GrowsBy x.world y.world (Sent wanted.frame ∷ [])) (still : y.quiets ≡ x.quiets) where
      grows_on : (events : World) → GrowsBy y.world z.world events → GrowsBy x.world z.world (Sent wanted.frame ∷ events)
      grows_on events grows = GrowsBy-trans x.world y.world z.world (Sent wanted.frame ∷ []) events sent grows

      quiets_on : (events : World) → RoseBy (quiet_ticks events) y.quiets z.quiets → RoseBy (quiet_ticks (Sent wanted.frame ∷ events)) x.quiets z.quiets
      quiets_on events quiets = RoseBy-sending wanted.frame events x.quiets y.quiets z.quiets still quiets

      limits_are : e.limits ≡ limits
      limits_are = ap (λ (v : Waiting). v.limits) g.begun

      sent_are : e.sent ≡ g.resends + 1
      sent_are = ap (λ (v : Waiting). v.sent) g.begun

      vain_stops : (l : Limits) → l ≡ limits → (due : ℕ) (s : Sending wanted l mid due new) → Run mid y s.heard new z s.pushed → IsVain wanted l mid new due s → 0 < due → Stops wanted limits old w new z
      vain_stops l is = subst (λ (k : Limits). (due : ℕ) (s : Sending wanted k mid due new) → Run mid y s.heard new z s.pushed → IsVain wanted k mid new due s → 0 < due → Stops wanted limits old w new z) (sym is)
          (λ due s run vain some. stops_with (Sent wanted.frame ∷ s.heard) new z (Hearing new due s vain some) (grows_on s.heard run.grows) (quiets_on s.heard run.quiets))

      -- the link failed after the sending
      pub stops_listening : ListensInVain wanted mid y e new z → Stops wanted limits old w new z
      stops_listening (due, s, run, (vain, some)) = vain_stops e.limits limits_are due s run vain some

      few_pushed : (pushed : List ℕ) (l : Limits) (due : ℕ) (s : Sending wanted l mid due new) → Run mid y s.heard new z s.pushed → new.ear.count ≤ mid.ear.count + 74096
      few_pushed pushed l due s run = omega (arith, run.count, run.room, s.brief, ap length s.split, length-append mid.inbox (bytes_heard s.heard), length-append s.pushed new.inbox)

      ended : (l : Limits) → l ≡ limits → (o : Conclusion A) (resends due : ℕ) (s : Sending wanted l mid due new) → Run mid y s.heard new z s.pushed → resends ≡ g.resends → ConclusionOf wanted l resends mid new due s o → Asks wanted limits old w o new z
      ended l is = subst (λ (k : Limits). (o : Conclusion A) (resends due : ℕ) (s : Sending wanted k mid due new) → Run mid y s.heard new z s.pushed → resends ≡ g.resends → ConclusionOf wanted k resends mid new due s o → Asks wanted limits old w o new z) (sym is)
          (λ o resends due s run same conclusion. record {
            resends = g.resends;
            few = g.fewer;
            before = g.before;
            mid = mid;
            resent = g.resent;
            due = due;
            last = s;
            ended = subst (λ (n : ℕ). ConclusionOf wanted limits n mid new due s o) same conclusion;
            grows = GrowsBy-trans w.world x.world z.world g.before (Sent wanted.frame ∷ s.heard) g.grows (grows_on s.heard run.grows);
            quiets = RoseBy-trans g.before (Sent wanted.frame ∷ s.heard) w.quiets x.quiets z.quiets g.quiets (quiets_on s.heard run.quiets);
          })

      -- listening ended the request
      pub asks_ended : (o : Conclusion A) (e_new : Waiting) → Listens wanted mid y e (Some o) new z e_new → Asks wanted limits old w o new z
      asks_ended o e_new (due, s, run, (resends, is, conclusion)) = ended e.limits limits_are o resends due s run (omega (arith, is, sent_are)) conclusion

      going : (l : Limits) → l ≡ limits → (e_new : Waiting) (s : Sending wanted l mid 0 new) → Run mid y s.heard new z s.pushed → IsVain wanted l mid new 0 s → g.resends + 1 < limits.sends → e_new ≡ after_sending wanted.asked limits (g.resends + 2)
          → Going wanted limits old w new z e_new
      going l is = subst (λ (k : Limits). (e_new : Waiting) (s : Sending wanted k mid 0 new) → Run mid y s.heard new z s.pushed → IsVain wanted k mid new 0 s → g.resends + 1 < limits.sends → e_new ≡ after_sending wanted.asked limits (g.resends + 2) → Going wanted limits old w new z e_new) (sym is)
          (λ e_new s run vain fewer begun. record {
            resends = suc g.resends;
            fewer = omega (arith, fewer);
            before = g.before ++ (Sent wanted.frame ∷ s.heard);
            resent = (mid, g.before, g.resent, (s, vain, refl));
            grows = GrowsBy-trans w.world x.world z.world g.before (Sent wanted.frame ∷ s.heard) g.grows (grows_on s.heard run.grows);
            quiets = RoseBy-trans g.before (Sent wanted.frame ∷ s.heard) w.quiets x.quiets z.quiets g.quiets (quiets_on s.heard run.quiets);
            count = omega (arith, g.count, few_pushed s.pushed limits 0 s run);
            begun = begun ∙ ap (λ n. after_sending wanted.asked limits n) (omega arith);
          })

      -- it is to be sent again
      again : (due : ℕ) (s : Sending wanted e.limits mid due new) → due ≡ 0 → (e_new : Waiting) → Run mid y s.heard new z s.pushed → IsVain wanted e.limits mid new due s → e.sent < e.limits.sends → e_new ≡ after_sending wanted.asked e.limits (e.sent + 1) → Going wanted limits old w new z e_new
      again due s is = subst (λ (d : ℕ). (t : Sending wanted e.limits mid d new) (e_new : Waiting) → Run mid y t.heard new z t.pushed → IsVain wanted e.limits mid new d t → e.sent < e.limits.sends → e_new ≡ after_sending wanted.asked e.limits (e.sent + 1) → Going wanted limits old w new z e_new) (sym is)
          (λ t e_new run vain fewer begun. going e.limits limits_are e_new t run vain (omega (arith, fewer, sent_are, ap (λ (k : Limits). k.sends) limits_are))
          (begun ∙ ap (λ k. after_sending wanted.asked k (e.sent + 1)) limits_are ∙ ap (λ n. after_sending wanted.asked limits n) (omega (arith, sent_are)))) s

      pub Going-more : (e_new : Waiting) → Listens wanted mid y e None new z e_new → Going wanted limits old w new z e_new
      Going-more e_new (due, s, run, (vain, is, fewer, begun)) = again due s is e_new run vain fewer begun

      -- the next sending is one more
      pub sent_more : (e_new : Waiting) → Listens wanted mid y e None new z e_new → e.sent - 1 < e_new.sent - 1
      sent_more e_new (due, s, run, (vain, is, fewer, begun)) = omega (arith, ap (λ (v : Waiting). v.sent) begun, sent_are)

      pub listens_as : {r s : Option (Conclusion A)} (e_new : Waiting) → r ≡ s → Listens wanted mid y e r new z e_new → Listens wanted mid y e s new z e_new
      listens_as {r} {s} e_new is h = subst (λ (o : Option (Conclusion A)). Listens wanted mid y e o new z e_new) is h

      -- how many bytes were pushed
      pub count_more : (r : Option (Conclusion A)) (e_new : Waiting) → Listens wanted mid y e r new z e_new → limits.sends ≤ 255 → new.ear.count ≤ old.ear.count + 2 ^ 25
      count_more r e_new (due, s, run, ends) small = omega (arith, g.count, few_pushed s.pushed e.limits due s run, g.fewer, small)
