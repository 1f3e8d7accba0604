-- What a run of bytes shows.
use Rattle.std.proofs.Common.{◌≡◌, ◌⊎◌, ℕ, ◌+◌, ◌<◌, ◌≤◌, List, [], ◌∷◌, ◌++◌, Option, Some, None, length, take, drop, get_or, MatchOption, length-append, refl, sym, ap, subst, ◌∙◌, append_assoc, arith, inl, inr}
use Rattle.std.proofs.lemmas.List.{drop_more, take-append-drop, length-take-le}
use Rattle.std.proofs.lemmas.List.Elements.{Contains-append_right}
use Rattle.pb_frame.specs.declared.heard.Heard.{Heard}
use Rattle.pb_frame.specs.declared.heard.Heard.TheVariants.{Nothing, Body, Bad}
use Rattle.pb_frame.specs.Framing.{Verdict, Whole}
use Rattle.pb_frame.specs.Hearing.{Hearing, Follows, HoldsContent, shown}
use Rattle.pb_frame.proofs.FollowsLemmas.{Follows-trans, Follows-nil}
use Rattle.pb_packet.specs.declared.headers.Header.{Header}
use Rattle.pb_packet.specs.Packet.{full, packet_of, PacketBytes, Seen}
use Rattle.pb_packet.proofs.PacketLemmas.{ok_same, packet_of-bytes}
use Rattle.pb_trans.specs.declared.asked.Asked.{Asked}
use Rattle.pb_trans.specs.declared.asked.Limits.{Limits}
use Rattle.pb_trans.specs.declared.asked.Step.{Step}
use Rattle.pb_trans.specs.declared.asked.Step.TheVariants as step
use Rattle.pb_trans.specs.Asking.{Means, IsPleaseWait}
use Rattle.pb_trans.specs.Waiting.{Waiting, Hears, ticks_after_wait}
use Rattle.pb_ask.specs.declared.question.Ended.{Ended}
use Rattle.pb_ask.specs.declared.question.Ended.TheVariants.{Answer, Undelivered}
use Rattle.pb_ask.specs.Listening.{Listening}
use Rattle.pb_ask.specs.Wanted.{Wanted, IsPacket, EndsAs, EndsBy, AsksToWait}
use Rattle.pb_ask.specs.Judging.{NoneShows, EndsWith, LastShows, Holds}
use Rattle.pb_ask.specs.Inside.{HeedsContent, SetsDue, Heeds, Judged}

-- ---- a packet that doesn't end the request

one_packet : (p q : Seen) (content : List ℕ) → PacketBytes p content → PacketBytes q content → p ≡ q
one_packet p q content a b =
    let r : packet_of content ≡ packet_of content = refl in
    ok_same p q (sym (ap packet_of a.bytes ∙ packet_of-bytes p a.valid) ∙ (ap packet_of b.bytes ∙ packet_of-bytes q b.valid))

-- what holds of a packet holds of the packet that the content is
pub of_packet : (P : Header → List ℕ → Type 0) (header : Header) (message content : List ℕ) → PacketBytes (full header message) content → IsPacket P content → P header message
of_packet P header message content packet p =
    let same = one_packet (full header message) (full p.header p.message) content packet p.packet in
    let h : p.header ≡ header = cc in
    let m : p.message ≡ message = cc in
    subst (λ (x : Header). P x message) h (subst (λ (l : List ℕ). P p.header l) m p.is)

-- a packet that means none of them
pub none_ends : {A : Type 0} (wanted : Wanted A) (header : Header) (message : List ℕ) (s : Step) → Means wanted.asked header message s → (s ≡ step.Answer → ⊥) → ((code : ℕ) → s ≡ step.Undelivered code → ⊥)
    → (e : Ended A) → EndsAs wanted e header message → ⊥
none_ends wanted header message step.Wait means no_answer no_failure (Answer answer) e = means.0 e.0
none_ends wanted header message step.Wait means no_answer no_failure (Undelivered code) e = means.1 code e.0
none_ends wanted header message step.Answer means no_answer no_failure e ends = no_answer refl
none_ends wanted header message (step.Undelivered code) means no_answer no_failure e ends = no_failure code refl
none_ends wanted header message step.Resend means no_answer no_failure e ends = means
none_ends wanted header message step.NoAnswer means no_answer no_failure e ends = means
none_ends wanted header message step.Flooded means no_answer no_failure e ends = means

pub ends_content : {A : Type 0} (wanted : Wanted A) (header : Header) (message content : List ℕ) (r : Option (Ended A)) → PacketBytes (full header message) content
    → MatchOption r ((e : Ended A) → EndsAs wanted e header message → ⊥) (λ e. EndsAs wanted e header message) → MatchOption r ((e : Ended A) → EndsBy wanted e content → ⊥) (λ e. EndsBy wanted e content)
ends_content wanted header message content None packet never = λ e ends. never e (of_packet (EndsAs wanted e) header message content packet ends)
ends_content wanted header message content (Some e) packet ends = record { header = header; message = message; packet = packet; is = ends }

pub heeds_content : (old new : Waiting) (header : Header) (message content : List ℕ) → PacketBytes (full header message) content → Hears old header message new → HeedsContent content old new
heeds_content old new header message content packet h = record { same = h.same; due = go h.due }
  where
    go : ((seconds : ℕ) × IsPleaseWait old.asked seconds header message × (new.due ≡ ticks_after_wait old.limits seconds)) ⊎ (((seconds : ℕ) → IsPleaseWait old.asked seconds header message → ⊥) × (new.due ≡ old.due))
        → ((seconds : ℕ) × AsksToWait old.asked seconds content × (new.due ≡ ticks_after_wait old.limits seconds)) ⊎ (((seconds : ℕ) → AsksToWait old.asked seconds content → ⊥) × (new.due ≡ old.due))
    go (inl (seconds, waits, is)) = inl (seconds, record { header = header; message = message; packet = packet; is = waits }, is)
    go (inr (never, is)) = inr (λ seconds asks. never seconds (of_packet (IsPleaseWait old.asked seconds) header message content packet asks), is)

-- ---- lists of verdicts

module _ {E : Type 0} (P : E → List ℕ → Type 0) where
  pub NoneShows-append : (vs ws : List Verdict) → NoneShows P vs → NoneShows P ws → NoneShows P (vs ++ ws)
  NoneShows-append [] ws p q = q
  NoneShows-append (v ∷ vs) ws p q = (p.0, NoneShows-append vs ws p.1 q)

  pub EndsWith-after : (e : E) (vs ws : List Verdict) → NoneShows P vs → EndsWith P e ws → EndsWith P e (vs ++ ws)
  EndsWith-after e vs ws none ends = record {
    before = vs ++ ends.before;
    last = ends.last;
    is = ap (λ l. vs ++ l) ends.is ∙ sym (append_assoc vs ends.before (ends.last ∷ []));
    none_before = NoneShows-append vs ends.before none ends.none_before;
    shows = ends.shows;
  }

  outcome_after : (vs ws : List Verdict) (r : Option E) → NoneShows P vs → MatchOption r (NoneShows P ws) (λ e. EndsWith P e ws) → MatchOption r (NoneShows P (vs ++ ws)) (λ e. EndsWith P e (vs ++ ws))
  outcome_after vs ws None none o = NoneShows-append vs ws none o
  outcome_after vs ws (Some e) none o = EndsWith-after e vs ws none o

  pub LastShows-after : (e : E) (vs ws : List Verdict) → LastShows P e ws → LastShows P e (vs ++ ws)
  LastShows-after e vs ws l = record {
    before = vs ++ l.before;
    one = l.one;
    after = l.after;
    is = ap (λ k. vs ++ k) l.is ∙ sym (append_assoc vs l.before (l.one ∷ l.after));
    shows = l.shows;
    none_after = l.none_after;
  }

  pub LastShows-before : (e : E) (vs ws : List Verdict) → LastShows P e vs → NoneShows P ws → LastShows P e (vs ++ ws)
  LastShows-before e vs ws l none = record {
    before = l.before;
    one = l.one;
    after = l.after ++ ws;
    is = ap (λ k. k ++ ws) l.is ∙ append_assoc l.before (l.one ∷ l.after) ws;
    shows = l.shows;
    none_after = NoneShows-append l.after ws l.none_after none;
  }

-- ---- exchanges

pub SetsDue-trans : (asked : Asked) (limits : Limits) (vs ws : List Verdict) (a b c : ℕ) → SetsDue asked limits vs a b → SetsDue asked limits ws b c → SetsDue asked limits (vs ++ ws) a c
SetsDue-trans asked limits vs ws a b c f (inl (seconds, last, is)) = inl (seconds, LastShows-after (AsksToWait asked) seconds vs ws last, is)
SetsDue-trans asked limits vs ws a b c (inl (seconds, last, was)) (inr (none, is)) = inl (seconds, LastShows-before (AsksToWait asked) seconds vs ws last none, is ∙ was)
SetsDue-trans asked limits vs ws a b c (inr (first, was)) (inr (none, is)) = inr (NoneShows-append (AsksToWait asked) vs ws first none, is ∙ was)

pub Heeds-nil : (e : Waiting) → Heeds [] e e
Heeds-nil e = record { same = refl; due = inr (tt, refl) }

pub Heeds-trans : (vs ws : List Verdict) (a b c : Waiting) → Heeds vs a b → Heeds ws b c → Heeds (vs ++ ws) a c
Heeds-trans vs ws a b c f g =
    let h : Heeds ws (record a { due = b.due }) c = subst (λ (w : Waiting). Heeds ws w c) f.same g in
    record { same = h.same; due = SetsDue-trans a.asked a.limits vs ws a.due b.due c.due f.due h.due }

-- a verdict that shows no good body
heeds_byte : (k : Hearing) (heard : Heard) (e : Waiting) → ((at : ℕ) → heard ≡ Body at → ⊥) → Heeds (shown k heard) e e
heeds_byte k Nothing e not = Heeds-nil e
heeds_byte k (Body at) e not = absurd (not at refl)
heeds_byte k (Bad at why) e not = record { same = refl; due = inr ((λ s no. no, tt), refl) }

-- that of a good body
heeds_body : (k : Hearing) (content : List ℕ) (e e_new : Waiting) → content ≡ k.content → HeedsContent content e e_new → Heeds (record { piece = k.piece; outcome = Whole k.content } ∷ []) e e_new
heeds_body k content e e_new is h = record { same = h.same; due = go h.due }
  where
    go : ((seconds : ℕ) × AsksToWait e.asked seconds content × (e_new.due ≡ ticks_after_wait e.limits seconds)) ⊎ (((seconds : ℕ) → AsksToWait e.asked seconds content → ⊥) × (e_new.due ≡ e.due))
        → SetsDue e.asked e.limits (record { piece = k.piece; outcome = Whole k.content } ∷ []) e.due e_new.due
    go (inl (seconds, asks, set)) = inl (seconds, record { before = []; one = record { piece = k.piece; outcome = Whole k.content }; after = []; is = refl; shows = subst (AsksToWait e.asked seconds) is asks; none_after = tt }, set)
    go (inr (never, same)) = inr ((λ seconds asks. never seconds (subst (AsksToWait e.asked seconds) (sym is) asks), tt), same)

-- ---- what the unframer holds

pub Holds-after : {E : Type 0} (P : E → List ℕ → Type 0) (e : E) (us vs : List Verdict) (ear : Hearing) → Holds P e vs ear → Holds P e (us ++ vs) ear
Holds-after P e us vs ear h = record { holds = h.holds; shows = h.shows; piece = h.piece; was_shown = Contains-append_right us vs (record { piece = h.piece; outcome = Whole ear.content }) h.was_shown }

kept_after : {E : Type 0} (P : E → List ℕ → Type 0) (us vs : List Verdict) (ear : Hearing) (r : Option E) → MatchOption r (Unit {0}) (λ e. Holds P e vs ear) → MatchOption r (Unit {0}) (λ e. Holds P e (us ++ vs) ear)
kept_after P us vs ear None kept = tt
kept_after P us vs ear (Some e) kept = Holds-after P e us vs ear kept

-- ---- runs of bytes

module _ {E : Type 0} (P : E → List ℕ → Type 0) where
  pub Judged-start : (a : Listening) (e : Waiting) → Judged P a e None a e
  Judged-start a e = record { pushed = []; shown = []; follows = Follows-nil a.ear; count = omega arith; split = refl; outcome = tt; kept = tt; some = tt; heeds = Heeds-nil e }

  some_more : (l k : List ℕ) (r : Option E) → MatchOption r (Unit {0}) (λ e. 0 < length k) → MatchOption r (Unit {0}) (λ e. 0 < length (l ++ k))
  some_more l k None some = tt
  some_more l k (Some e) some = omega (arith, some, length-append l k)

  pub Judged-after : (a b c : Listening) (e f g : Waiting) (r : Option E) → Judged P a e None b f → Judged P b f r c g → Judged P a e r c g
  Judged-after a b c e_a e_b e_c r f g = record {
    pushed = f.pushed ++ g.pushed;
    shown = f.shown ++ g.shown;
    follows = Follows-trans a.ear b.ear c.ear f.pushed g.pushed f.shown g.shown f.follows g.follows;
    count = omega (arith, f.count, g.count, length-append f.pushed g.pushed);
    split = f.split ∙ ap (λ l. f.pushed ++ l) g.split ∙ sym (append_assoc f.pushed g.pushed c.inbox);
    outcome = outcome_after P f.shown g.shown r f.outcome g.outcome;
    kept = kept_after P f.shown g.shown c.ear r g.kept;
    some = some_more f.pushed g.pushed r g.some;
    heeds = Heeds-trans f.shown g.shown e_a e_b e_c f.heeds g.heeds;
  }

  -- a run of bytes without a verdict
  pub Judged-plain : (a : Listening) (e : Waiting) (h : Hearing) (n : ℕ) → n ≤ length a.inbox → Follows a.ear (take n a.inbox) [] h → h.count ≡ a.ear.count + n
      → Judged P a e None (record { ear = h; inbox = drop n a.inbox }) e
  Judged-plain a e h n within follows count = record {
    pushed = take n a.inbox;
    shown = [];
    follows = follows;
    count = omega (arith, count, length-take-le n a.inbox within);
    split = sym (take-append-drop n a.inbox);
    outcome = tt;
    kept = tt;
    some = tt;
    heeds = Heeds-nil e;
  }

  -- a byte that was pushed
  one_byte : (byte : ℕ) (r : Option E) → MatchOption r (Unit {0}) (λ e. 0 < length (byte ∷ []))
  one_byte byte None = tt
  one_byte byte (Some e) = omega arith

  pushed_byte : (a : Listening) (e e_new : Waiting) (h : Hearing) (byte : ℕ) (rest : List ℕ) (vs : List Verdict) (r : Option E) → a.inbox ≡ byte ∷ rest → Follows a.ear (byte ∷ []) vs h → h.count ≡ a.ear.count + 1
      → MatchOption r (NoneShows P vs) (λ e. EndsWith P e vs) → MatchOption r (Unit {0}) (λ e. Holds P e vs h) → Heeds vs e e_new → Judged P a e r (record { ear = h; inbox = rest }) e_new
  pushed_byte a e e_new h byte rest vs r is follows count outcome kept heeds = record { pushed = byte ∷ []; shown = vs; follows = follows; count = count; split = is; outcome = outcome; kept = kept; some = one_byte byte r; heeds = heeds }

  drop_one : (l : List ℕ) (n : ℕ) → n < length l → drop n l ≡ get_or l n 0 ∷ drop (n + 1) l
  drop_one l n below = drop_more l n 0 below

  run_and_byte : (a : Listening) (e e_new : Waiting) (h k : Hearing) (n : ℕ) (vs : List Verdict) (r : Option E) → n < length a.inbox → Follows a.ear (take n a.inbox) [] h → h.count ≡ a.ear.count + n
      → Follows h (get_or a.inbox n 0 ∷ []) vs k → k.count ≡ h.count + 1 → MatchOption r (NoneShows P vs) (λ e. EndsWith P e vs) → MatchOption r (Unit {0}) (λ e. Holds P e vs k) → Heeds vs e e_new → Judged P a e r (record { ear = k; inbox = drop (n + 1) a.inbox }) e_new
  run_and_byte a e e_new h k n vs r below follows count follows_then count_then outcome kept heeds =
      Judged-after a (record { ear = h; inbox = drop n a.inbox }) (record { ear = k; inbox = drop (n + 1) a.inbox }) e e e_new r
      (Judged-plain a e h n (omega arith) follows count)
      (pushed_byte (record { ear = h; inbox = drop n a.inbox }) e e_new k (get_or a.inbox n 0) (drop (n + 1) a.inbox) vs r (drop_one a.inbox n below) follows_then count_then outcome kept heeds)

  byte_outcome : (k : Hearing) (heard : Heard) → ((at : ℕ) → heard ≡ Body at → ⊥) → NoneShows P (shown k heard)
  byte_outcome k Nothing not = tt
  byte_outcome k (Body at) not = absurd (not at refl)
  byte_outcome k (Bad at why) not = (λ e no. no, tt)

  -- a run, and a byte that shows no good body; the bytes are those at hand
  pub Judged-byte : (a : Listening) (e : Waiting) (h k : Hearing) (n : ℕ) (bytes left : List ℕ) (heard : Heard) → bytes ≡ a.inbox → n < length a.inbox → Follows a.ear (take n bytes) [] h → h.count ≡ a.ear.count + n
      → Follows h (get_or bytes n 0 ∷ []) (shown k heard) k → k.count ≡ h.count + 1 → left ≡ drop (n + 1) a.inbox → ((at : ℕ) → heard ≡ Body at → ⊥) → Judged P a e None (record { ear = k; inbox = left }) e
  Judged-byte a e h k n bytes left heard same below follows count follows_then count_then is not =
      subst (λ (l : List ℕ). Judged P a e None (record { ear = k; inbox = l }) e) (sym is)
      (run_and_byte a e e h k n (shown k heard) None below (subst (λ (l : List ℕ). Follows a.ear (take n l) [] h) same follows) count
      (subst (λ (l : List ℕ). Follows h (get_or l n 0 ∷ []) (shown k heard) k) same follows_then) count_then (byte_outcome k heard not) tt (heeds_byte k heard e not))

  body_outcome : (k : Hearing) (content : List ℕ) (r : Option E) → content ≡ k.content → MatchOption r ((e : E) → P e content → ⊥) (λ e. P e content)
      → MatchOption r (NoneShows P (record { piece = k.piece; outcome = Whole k.content } ∷ [])) (λ e. EndsWith P e (record { piece = k.piece; outcome = Whole k.content } ∷ []))
  body_outcome k content None is none = (λ e shows. none e (subst (P e) (sym is) shows), tt)
  body_outcome k content (Some e) is shows = record { before = []; last = record { piece = k.piece; outcome = Whole k.content }; is = refl; none_before = tt; shows = subst (P e) is shows }

  body_kept : (k : Hearing) (content : List ℕ) (r : Option E) → content ≡ k.content → HoldsContent k → MatchOption r ((e : E) → P e content → ⊥) (λ e. P e content) → MatchOption r (Unit {0}) (λ e. Holds P e (record { piece = k.piece; outcome = Whole k.content } ∷ []) k)
  body_kept k content None is holds none = tt
  body_kept k content (Some e) is holds shows = record { holds = holds; shows = subst (P e) is shows; piece = k.piece; was_shown = (0, omega arith, refl) }

  pub Judged-body : (a : Listening) (e e_new : Waiting) (h k : Hearing) (n at : ℕ) (bytes left content : List ℕ) (r : Option E) → bytes ≡ a.inbox → n < length a.inbox → Follows a.ear (take n bytes) [] h → h.count ≡ a.ear.count + n
      → Follows h (get_or bytes n 0 ∷ []) (shown k (Body at)) k → k.count ≡ h.count + 1 → left ≡ drop (n + 1) a.inbox → content ≡ k.content → HoldsContent k
      → MatchOption r ((e : E) → P e content → ⊥) (λ e. P e content) → HeedsContent content e e_new → Judged P a e r (record { ear = k; inbox = left }) e_new
  Judged-body a e e_new h k n at bytes left content r same below follows count follows_then count_then is content_is holds outcome heeds =
      subst (λ (l : List ℕ). Judged P a e r (record { ear = k; inbox = l }) e_new) (sym is)
      (run_and_byte a e e_new h k n (shown k (Body at)) r below (subst (λ (l : List ℕ). Follows a.ear (take n l) [] h) same follows) count
      (subst (λ (l : List ℕ). Follows h (get_or l n 0 ∷ []) (shown k (Body at)) k) same follows_then) count_then (body_outcome k content r content_is outcome) (body_kept k content r content_is holds outcome) (heeds_body k content e e_new content_is heeds))

  -- what the call answered is this
  pub judged_as : {a b : Listening} {e f : Waiting} {r s : Option E} → r ≡ s → Judged P a e r b f → Judged P a e s b f
  judged_as {a} {b} {e} {f} is j = subst (λ (o : Option E). Judged P a e o b f) is j

pub judged_at : {E : Type 0} (P : E → List ℕ → Type 0) {l m : Listening} {inbox : List ℕ} {e f : Waiting} {r : Option E} {b : Listening} → l ≡ m → Judged P (record { ear = l.ear; inbox = inbox }) e r b f → Judged P (record { ear = m.ear; inbox = inbox }) e r b f
judged_at P {l} {m} {inbox} {e} {f} {r} {b} is j = subst (λ (k : Listening). Judged P (record { ear = k.ear; inbox = inbox }) e r b f) is j

pub left_over : {E : Type 0} (P : E → List ℕ → Type 0) (a b : Listening) (e f : Waiting) (r : Option E) → Judged P a e r b f → b.ear.count + length b.inbox ≡ a.ear.count + length a.inbox
left_over P a b e f r j = omega (arith, j.count, ap length j.split, length-append j.pushed b.inbox)
