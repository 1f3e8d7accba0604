-- What a ping's answer means, from what each of its two requests heard.
use Rattle.std.proofs.Common.{◌≡◌, inl, inr, ℕ, zero, suc, List, [], ◌∷◌, ◌++◌, Ok, Err, refl, sym, ap, subst, ◌∙◌, append_assoc, append-nil, arith}
use Rattle.pb_base.specs.World.{World, Sent, sent}
use Rattle.pb_io.specs.View.{View, Link, LeavesOnly}
use Rattle.pb_io.proofs.Moments.{LeavesOnly-trans, LeavesOnly-weaker}
use Rattle.pb_io.proofs.WorldLemmas.{GrowsBy-trans, sent-grown}
use Rattle.pb_frame.specs.Hearing.{StandsFor}
use Rattle.pb_ask.specs.Asking.{Asks, Stops}
use Rattle.pb_ask.specs.Events.{Resending, Passes}
use Rattle.pb_ask.specs.Listening.{Listening}
use Rattle.pb_ask.specs.Stream.{no_stream}
use Rattle.pb_ask.specs.declared.question.Conclusion.{Conclusion}
use Rattle.pb_ask.specs.declared.question.Conclusion.TheVariants as conclusion
use Rattle.pb_ask.proofs.EventLemmas.{sent-append}
use Rattle.pb_ask.proofs.PassLemmas.{Repeats-none, Repeats-less}
use Rattle.pb_ask.proofs.RunLemmas.{RoseBy-trans}
use Rattle.pb_ask.proofs.StreamLemmas.{AskedOn, asked_on, StoppedOn, stopped_on}
use Rattle.pb_collect.specs.declared.report.Cause.{Cause}
use Rattle.pb_tool.specs.declared.ping.answer.PingFault.TheVariants as fault
use Rattle.pb_tool.specs.declared.ping.questions.Greeting.{Greeting}
use Rattle.pb_tool.specs.declared.ping.questions.Reading.{Reading}
use Rattle.pb_tool.specs.Ping.{answered, concluded, read_time, AsksClock, Pings, Pinging, Greets}
use Rattle.pb_tool.specs.Ping.Requests.{limits, hello, clock}

-- the conclusion that an answer stands for
is_answer : {A : Type 0} (o : Conclusion A) (a : A) → answered o ≡ Ok a → o ≡ conclusion.Answer a
is_answer (conclusion.Answer b) a is = ap conclusion.Answer (cc)
is_answer conclusion.NoAnswer a is = absurd (cc)
is_answer conclusion.Flooded a is = absurd (cc)
is_answer (conclusion.Undelivered code) a is = absurd (cc)

-- what a clock command comes to
concludes : (me node : ℕ) (g : Greeting) (events : World) (o : Conclusion Reading) → AsksClock me node g events o → Pings me node events (concluded g o)
concludes me node g events (conclusion.Answer r) h = go r.resp h
  where
    go : (resp : ℕ) → AsksClock me node g events (conclusion.Answer (record { resp = resp; time = r.time })) → Pings me node events (read_time g resp r.time)
    go zero a = a
    go (suc code) a = ((λ is. omega (arith, is)), (r.time, a))
concludes me node g events conclusion.NoAnswer h = (conclusion.NoAnswer, refl, h)
concludes me node g events conclusion.Flooded h = (conclusion.Flooded, refl, h)
concludes me node g events (conclusion.Undelivered code) h = (conclusion.Undelivered code, refl, h)

module _ (me node : ℕ) (start : Listening) (w : Link) (nothing : start.inbox ≡ []) (stands : StandsFor start.ear []) where
  from_nothing : (events : World) (o : Conclusion Greeting) (mid : Listening) → AskedOn (hello me node) limits (record { judged = []; waiting = start.inbox }) events o mid → AskedOn (hello me node) limits no_stream events o mid
  from_nothing events o mid = subst (λ (l : List ℕ). AskedOn (hello me node) limits (record { judged = []; waiting = l }) events o mid) nothing

  greeted : (o : Conclusion Greeting) (mid : Listening) (x : Link) (h : Asks (hello me node) limits start w o mid x) → AskedOn (hello me node) limits no_stream (h.before ++ (Sent (hello me node).frame ∷ h.last.heard)) o mid
  greeted o mid x h = from_nothing (h.before ++ (Sent (hello me node).frame ∷ h.last.heard)) o mid (asked_on (hello me node) limits start mid w x o [] stands h)

  -- the hello has no answer
  pub hello_fails : (o : Conclusion Greeting) (cause : Cause) (mid : Listening) (x : Link) → answered o ≡ Err cause → Asks (hello me node) limits start w o mid x → Pinging me node w x (Err (fault.Hello cause))
  hello_fails o cause mid x why h = record { events = _; grows = h.grows; quiets = h.quiets; pings = record { conclusion = o; last = _; why = why; asks = (greeted o mid x h).is } }

  -- a call of the link failed at the hello
  pub stops_at_hello : (mid : Listening) (x : Link) → Stops (hello me node) limits start w mid x → Pinging me node w x (Err fault.LinkFault)
  stops_at_hello mid x h =
      let is = subst (λ (l : List ℕ). StoppedOn (hello me node) limits (record { judged = []; waiting = l }) (h.before ++ h.rest) mid) nothing (stopped_on (hello me node) limits start mid w x [] stands h) in
      record { events = _; grows = h.grows; quiets = h.quiets; pings = inl (_, is.is) }

  module _ (o : Conclusion Greeting) (g : Greeting) (mid : Listening) (x : Link) (why : answered o ≡ Ok g) (asked : Asks (hello me node) limits start w o mid x) where
    h : Asks (hello me node) limits start w (conclusion.Answer g) mid x
    h = subst (λ (p : Conclusion Greeting). Asks (hello me node) limits start w p mid x) (is_answer o g why) asked

    module _ (last : Listening) (y : Link) where
      -- the clock was asked
      pub asks_clock : (p : Conclusion Reading) → Asks (clock me node) limits mid x p last y → Pinging me node w y (concluded g p)
      asks_clock p c =
          let one = greeted (conclusion.Answer g) mid x h in
          let two = asked_on (clock me node) limits mid last x y p one.judged one.stands c in
          let first = h.before ++ (Sent (hello me node).frame ∷ h.last.heard) in
          let second = c.before ++ (Sent (clock me node).frame ∷ c.last.heard) in
          record {
            events = first ++ second;
            grows = GrowsBy-trans w.world x.world y.world first second h.grows c.grows;
            quiets = RoseBy-trans first second w.quiets x.quiets y.quiets h.quiets c.quiets;
            pings = concludes me node g (first ++ second) p (record { first = first; second = second; mid = _; last = _; is = refl; greeted = one.is; asks = two.is });
          }

      -- a call of the link failed at the clock
      pub stops_at_clock : Stops (clock me node) limits mid x last y → Pinging me node w y (Err fault.LinkFault)
      stops_at_clock c =
          let one = greeted (conclusion.Answer g) mid x h in
          let two = stopped_on (clock me node) limits mid last x y one.judged one.stands c in
          let first = h.before ++ (Sent (hello me node).frame ∷ h.last.heard) in
          let second = c.before ++ c.rest in
          record {
            events = first ++ second;
            grows = GrowsBy-trans w.world x.world y.world first second h.grows c.grows;
            quiets = RoseBy-trans first second w.quiets x.quiets y.quiets h.quiets c.quiets;
            pings = inr (record { first = first; second = second; greeting = g; mid = _; last = _; is = refl; greeted = one.is; stops = two.is });
          }

-- ---- what a crash may leave meanwhile

module _ (me node : ℕ) (old : View) where
  greets_first : (w : World) (c : List ℕ) → Resending (hello me node).frame 3 old w c → Greets me node old w c
  greets_first w c r = record {
    image = r.image;
    before = r.before;
    more = r.more;
    known = r.known;
    is = r.is;
    hellos = sent r.more;
    clocks = [];
    frames = sym (append-nil (sent r.more));
    hellos_are = r.frames;
    clocks_are = Repeats-less (clock me node).frame 0 3 [] (omega arith) (Repeats-none (clock me node).frame);
  }

  pub hello_leaves : (mid : View) → Passes (hello me node).frame 3 old mid → LeavesOnly old mid (Greets me node old)
  hello_leaves mid p = LeavesOnly-weaker old mid (Resending (hello me node).frame 3 old) (Greets me node old) p.leaves greets_first

  greets_then : (mid : View) → Passes (hello me node).frame 3 old mid → (w : World) (c : List ℕ) → Resending (clock me node).frame 3 mid w c → Greets me node old w c
  greets_then mid p w c r =
      let x = sent-grown _ _ p.events r.before p.grows r.known in
      record {
        image = p.reads.fewer c r.image;
        before = x.0;
        more = x.1 ++ r.more;
        known = x.2;
        is = r.is ∙ ap (λ l. l ++ r.more) x.3 ∙ append_assoc x.0 x.1 r.more;
        hellos = sent p.events;
        clocks = sent r.more;
        frames = sent-append x.1 r.more ∙ ap (λ l. l ++ sent r.more) x.4;
        hellos_are = p.frames;
        clocks_are = r.frames;
      }

  pub clock_leaves : (mid new : View) → Passes (hello me node).frame 3 old mid → Passes (clock me node).frame 3 mid new → LeavesOnly old new (Greets me node old)
  clock_leaves mid new p q = LeavesOnly-trans old mid new (Greets me node old) (Resending (clock me node).frame 3 mid) (Greets me node old) (hello_leaves mid p) q.leaves (λ w c is. is) (greets_then mid p)
