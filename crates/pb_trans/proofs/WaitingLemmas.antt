-- How what an exchange stands for goes on.
use Rattle.std.proofs.Common.{◌≡◌, ◌⊎◌, inl, inr, ℕ, suc, ◌+◌, ◌-◌, ◌<◌, ◌≤◌, List, [], ◌∷◌, ◌++◌, min, refl, sym, ap, subst, ◌∙◌, append_assoc, arith}
use Rattle.std.proofs.lemmas.List.{append-nil}
use Rattle.std.proofs.lemmas.List.Elements.{All-append, All-cons, All-nil}
use Rattle.pb_packet.specs.declared.headers.Header.{Header}
use Rattle.pb_trans.specs.declared.asked.Asked.{Asked}
use Rattle.pb_trans.specs.declared.asked.Limits.{Limits}
use Rattle.pb_trans.specs.declared.asked.Step.{Step}
use Rattle.pb_trans.specs.declared.asked.Step.TheVariants as step
use Rattle.pb_trans.specs.Asking.{IsPleaseWait}
use Rattle.pb_trans.specs.Waiting.{Waiting, Input, Packet, Tick, Bytes, ticks_in, bytes_in, AsksToWait, ticks_after_wait, IsDue, StandsFor, Hears, Ticks, after_sending}

ticks-append : (a b : List Input) → ticks_in (a ++ b) ≡ ticks_in a + ticks_in b
ticks-append [] b = omega arith
ticks-append (Packet header message ∷ a) b = ticks-append a b
ticks-append (Tick ∷ a) b = omega (arith, ticks-append a b)
ticks-append (Bytes n ∷ a) b = ticks-append a b

bytes-append : (a b : List Input) → bytes_in (a ++ b) ≡ bytes_in a + bytes_in b
bytes-append [] b = omega arith
bytes-append (Packet header message ∷ a) b = bytes-append a b
bytes-append (Tick ∷ a) b = bytes-append a b
bytes-append (Bytes n ∷ a) b = omega (arith, bytes-append a b)

-- ---- the ticks that are due

pub IsDue-sent : (asked : Asked) (limits : Limits) → IsDue asked limits [] limits.quiets
IsDue-sent asked limits =
    record { before = []; since = []; ticks = limits.quiets; split = refl; none_waits = λ seconds. All-nil (λ (i : Input). AsksToWait asked seconds i → ⊥); set = inl (refl, refl); due_is = omega arith }

-- one more input that doesn't ask to wait
pub IsDue-more : (asked : Asked) (limits : Limits) (inputs : List Input) (due later : ℕ) (input : Input) → IsDue asked limits inputs due → ((seconds : ℕ) → AsksToWait asked seconds input → ⊥)
    → later ≡ due - ticks_in (input ∷ []) → IsDue asked limits (inputs ++ input ∷ []) later
IsDue-more asked limits inputs due later input d never is = record {
  before = d.before;
  since = d.since ++ input ∷ [];
  ticks = d.ticks;
  split = ap (λ l. l ++ input ∷ []) d.split ∙ append_assoc d.before d.since (input ∷ []);
  none_waits = λ seconds. All-append (λ (i : Input). AsksToWait asked seconds i → ⊥) d.since (input ∷ []) (d.none_waits seconds) (All-cons (λ (i : Input). AsksToWait asked seconds i → ⊥) input [] (never seconds) (All-nil (λ (i : Input). AsksToWait asked seconds i → ⊥)));
  set = d.set;
  due_is = omega (arith, is, d.due_is, ticks-append d.since (input ∷ []));
}

-- a please-wait
pub IsDue-waits : (asked : Asked) (limits : Limits) (inputs : List Input) (header : Header) (message : List ℕ) (seconds due : ℕ) → IsPleaseWait asked seconds header message → due ≡ ticks_after_wait limits seconds
    → IsDue asked limits (inputs ++ Packet header message ∷ []) due
IsDue-waits asked limits inputs header message seconds due waits is = record {
  before = inputs ++ Packet header message ∷ [];
  since = [];
  ticks = due;
  split = sym (append-nil (inputs ++ Packet header message ∷ []));
  none_waits = λ other. All-nil (λ (i : Input). AsksToWait asked other i → ⊥);
  set = inr (record { earlier = inputs; last = Packet header message; seconds = seconds; is = refl; asks = waits; ticks_are = is });
  due_is = omega arith;
}

-- ---- what an exchange stands for

pub begun : (asked : Asked) (limits : Limits) (due : ℕ) → due ≡ limits.quiets → 1 ≤ limits.sends → StandsFor (record (after_sending asked limits 1) { due = due }) []
begun asked limits due is some = record {
  earlier = [];
  last = [];
  resends = 0;
  sent = refl;
  few = some;
  over = refl;
  split = refl;
  due = subst (λ (n : ℕ). IsDue asked limits [] n) (sym is) (IsDue-sent asked limits);
  heard = omega arith;
}

module _ (e : Waiting) (inputs : List Input) (s : StandsFor e inputs) where
  -- one more input since the last sending
  more : (input : Input) (due heard : ℕ) → IsDue e.asked e.limits (s.last ++ input ∷ []) due → heard ≡ min (bytes_in (s.last ++ input ∷ [])) 18446744073709551615
      → StandsFor (record e { due = due; heard = heard }) (inputs ++ input ∷ [])
  more input due heard is_due is = record {
    earlier = s.earlier;
    last = s.last ++ input ∷ [];
    resends = s.resends;
    sent = s.sent;
    few = s.few;
    over = s.over;
    split = ap (λ l. l ++ input ∷ []) s.split ∙ append_assoc s.earlier s.last (input ∷ []);
    due = is_due;
    heard = is;
  }

  same_bytes : (input : Input) → bytes_in (input ∷ []) ≡ 0 → e.heard ≡ min (bytes_in (s.last ++ input ∷ [])) 18446744073709551615
  same_bytes input none = omega (arith, s.heard, none, bytes-append s.last (input ∷ []))

  pub heard_packet : (new : Waiting) (header : Header) (message : List ℕ) → Hears e header message new → StandsFor new (inputs ++ Packet header message ∷ [])
  heard_packet new header message h =
      subst (λ (v : Waiting). StandsFor v (inputs ++ Packet header message ∷ [])) (sym h.same)
      (more (Packet header message) new.due e.heard (go h.due) (same_bytes (Packet header message) refl))
    where
      go : ((seconds : ℕ) × IsPleaseWait e.asked seconds header message × (new.due ≡ ticks_after_wait e.limits seconds)) ⊎ (((seconds : ℕ) → IsPleaseWait e.asked seconds header message → ⊥) × (new.due ≡ e.due))
          → IsDue e.asked e.limits (s.last ++ Packet header message ∷ []) new.due
      go (inl (seconds, waits, is)) = IsDue-waits e.asked e.limits s.last header message seconds new.due waits is
      go (inr (never, is)) = IsDue-more e.asked e.limits s.last e.due new.due (Packet header message) s.due never (omega (arith, is))

  pub heard_bytes : (new : Waiting) (n : ℕ) → new ≡ record e { heard = min (e.heard + n) 18446744073709551615 } → StandsFor new (inputs ++ Bytes n ∷ [])
  heard_bytes new n is =
      subst (λ (v : Waiting). StandsFor v (inputs ++ Bytes n ∷ [])) (sym is)
      (more (Bytes n) e.due (min (e.heard + n) 18446744073709551615) (IsDue-more e.asked e.limits s.last e.due e.due (Bytes n) s.due (λ seconds waits. waits) (omega arith))
      (omega (arith, s.heard, bytes-append s.last (Bytes n ∷ []))))

  a_tick : (due : ℕ) → due ≡ e.due - 1 → StandsFor (record e { due = due }) (inputs ++ Tick ∷ [])
  a_tick due is = more Tick due e.heard (IsDue-more e.asked e.limits s.last e.due due Tick s.due (λ seconds waits. waits) is) (same_bytes Tick refl)

  -- the last tick of a sending that isn't the last one
  again : e.due ≤ 1 → e.sent < e.limits.sends → StandsFor (after_sending e.asked e.limits (e.sent + 1)) (inputs ++ Tick ∷ [])
  again last_one fewer = record {
    earlier = inputs ++ Tick ∷ [];
    last = [];
    resends = suc s.resends;
    sent = omega (arith, s.sent);
    few = omega (arith, fewer);
    over = (s.earlier, s.last ++ Tick ∷ [], s.over, record { earlier = s.last; due = e.due; is_due = s.due; last_one = last_one; is = refl }, ap (λ l. l ++ Tick ∷ []) s.split ∙ append_assoc s.earlier s.last (Tick ∷ []));
    split = sym (append-nil (inputs ++ Tick ∷ []));
    due = IsDue-sent e.asked e.limits;
    heard = omega arith;
  }

pub heard_tick : (e : Waiting) (inputs : List Input) (s : StandsFor e inputs) (new : Waiting) (answer : Step) → Ticks e answer new → StandsFor new (inputs ++ Tick ∷ [])
heard_tick e inputs s new step.Wait (more, is) = subst (λ (v : Waiting). StandsFor v (inputs ++ Tick ∷ [])) (sym is) (a_tick e inputs s (e.due - 1) refl)
heard_tick e inputs s new step.Resend (none, fewer, is) = subst (λ (v : Waiting). StandsFor v (inputs ++ Tick ∷ [])) (sym is) (again e inputs s none fewer)
heard_tick e inputs s new step.NoAnswer (none, all, is) = subst (λ (v : Waiting). StandsFor v (inputs ++ Tick ∷ [])) (sym is) (a_tick e inputs s 0 (omega (arith, none)))
heard_tick e inputs s new step.Answer t = absurd t
heard_tick e inputs s new step.Flooded t = absurd t
heard_tick e inputs s new (step.Undelivered code) t = absurd t
