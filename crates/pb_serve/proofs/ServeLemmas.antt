-- From moment to moment.
use Rattle.std.proofs.Common.{◌≡◌, ◌⊎◌, inl, inr, ℕ, zero, suc, ◌+◌, ◌-◌, ◌<◌, ◌≤◌, List, [], ◌∷◌, ◌++◌, length, map, Option, Some, None, refl, sym, ap, subst, ◌∙◌, arith, append_assoc, append-nil, length-append, take, drop, get_or, Result, Ok, Err, IfOk, MatchOption, length-take, length-drop}
use Rattle.std.proofs.lemmas.List.{take-append-drop, take_all}
use Rattle.std.proofs.Math.Seq.{take-append_seam}
use Rattle.std.proofs.lemmas.Grind.{flat_map-append}
use Rattle.pb_base.specs.World.{World, Sent, Quiet, all_heard}
use Rattle.pb_frame.specs.Framing.{Verdict, verdicts}
use Rattle.std.specs.List.{flat_map}
use Rattle.pb_frame.specs.Hearing as ear
use Rattle.pb_station.specs.State as station
use Rattle.pb_serve.specs.Owed.{owed, contents, content_shown}
use Rattle.pb_serve.specs.Serving.{Serving, Starts, Ticks, Hears, Passes, Answers, GoesOn, EndsNone, EndsFrame}
use Rattle.pb_frame.specs.Framing.{frame, IsContentSize}
use Rattle.pb_io.specs.declared.failed.Failed.{Failed}
use Rattle.pb_io.specs.Site.{GrowsBy, Sends}
use Rattle.pb_io.specs.View.{Link}
use Rattle.pb_io.proofs.WorldLemmas.{GrowsBy-nil, GrowsBy-trans}
use Rattle.pb_base.specs.Put.{IsWritten}
use Rattle.pb_packet.specs.declared.headers.Header.{Header}
use Rattle.pb_packet.specs.Packet.{full, packet_of, header_bytes}
use Rattle.pb_station.specs.declared.station.Answered.TheVariants as answered_as
use Rattle.pb_station.specs.Answer.{Said, NotMine, Silent, InCtrl, InBmp5, IsSaid, answer_of, ctrl_packet, bmp5_packet, reply_header}
use Rattle.pb_ctrl.specs.Message as ctrl
use Rattle.pb_bmp5.specs.Message as bmp5
use Rattle.pb_serve.specs.Owed.{owed_for, frames_of}
use Rattle.pb_serve.specs.Serving.{Ends, SendFails}
use Rattle.pb_serve.specs.declared.server.End.{End}
use Rattle.pb_serve.specs.declared.server.End.TheVariants.{Done, Idle, Flooded, LinkFault}
use Rattle.pb_io.specs.ChangeLog.{arrival}
use Rattle.std.specs.Prelude.{Bool, true, false, ◌==◌}
use Rattle.std.proofs.lemmas.Bool.{true≢false, ne_eqb}
use Rattle.pb_serve.specs.Inside.{Kept, Stands, IsGoing, Leads, LeadsByte, SendsOwed, IsHandled, moment_of, passed, answered}

-- ---- good frames

pub contents_more : (judged bytes : List ℕ) (vs : List Verdict) → verdicts (judged ++ bytes) ≡ verdicts judged ++ vs → contents (judged ++ bytes) ≡ contents judged ++ flat_map content_shown vs
unfolding contents
contents_more judged bytes vs is = ap (flat_map content_shown) is ∙ flat_map-append content_shown (verdicts judged) vs

pub ends_none : (judged bytes : List ℕ) (vs : List Verdict) → verdicts (judged ++ bytes) ≡ verdicts judged ++ vs → flat_map content_shown vs ≡ [] → EndsNone judged bytes
ends_none judged bytes vs is none = contents_more judged bytes vs is ∙ ap (λ l. contents judged ++ l) none ∙ append-nil (contents judged)

pub ends_frame : (judged : List ℕ) (byte : ℕ) (content : List ℕ) (vs : List Verdict) → verdicts (judged ++ byte ∷ []) ≡ verdicts judged ++ vs → flat_map content_shown vs ≡ content ∷ [] → EndsFrame judged byte content
ends_frame judged byte content vs is one = contents_more judged (byte ∷ []) vs is ∙ ap (λ l. contents judged ++ l) one

-- ---- steps

goes_on : (k : Kept) (judged waiting : List ℕ) (state : station.State) → IsGoing k → GoesOn k.goal (moment_of k judged waiting state)
goes_on k judged waiting state going = record { not_done = going.not_done; not_flooded = going.not_flooded; not_idle = going.not_idle }

pub stands_pass : (first : station.State) (k : Kept) (hearing : ear.Hearing) (w : World) (n : ℕ) (bytes run rest : List ℕ) (vs : List Verdict) → Stands first k w bytes → IsGoing k → bytes ≡ run ++ rest → n ≡ length run
    → ear.Follows k.ear run vs hearing → flat_map content_shown vs ≡ [] → k.since + n ≤ 1048576 → Stands first (passed hearing n k) w rest
stands_pass first k hearing w n bytes run rest vs s going split size follows none room = record {
  judged = s.judged ++ run;
  state = s.state;
  ear = follows.stands s.judged s.ear;
  station = s.station;
  serving = subst (λ (m : ℕ). Serving first k.goal w (moment_of (passed hearing m k) (s.judged ++ run) rest s.state)) (sym size)
      (Passes s.serving (goes_on k s.judged bytes s.state going) run rest split (ends_none s.judged run vs (follows.shows s.judged s.ear) none) (omega (arith, room, size)));
}

pub stands_answer : (first : station.State) (k : Kept) (hearing : ear.Hearing) (kept : station.KeptStation) (w : World) (byte : ℕ) (rest content : List ℕ) (vs : List Verdict) → (s : Stands first k w (byte ∷ rest)) → IsGoing k
    → ear.Follows k.ear (byte ∷ []) vs hearing → flat_map content_shown vs ≡ content ∷ [] → station.StandsFor kept (owed s.state content).state
    → Stands first (answered hearing kept k) (w ++ map Sent (owed s.state content).frames) rest
stands_answer first k hearing kept w byte rest content vs s going follows one stands = record {
  judged = s.judged ++ byte ∷ [];
  state = (owed s.state content).state;
  ear = follows.stands s.judged s.ear;
  station = stands;
  serving = Answers s.serving (goes_on k s.judged (byte ∷ rest) s.state going) byte rest content refl (ends_frame s.judged byte content vs (follows.shows s.judged s.ear) one);
}

pub stands_tick : (first : station.State) (k : Kept) (w : World) → Stands first k w [] → IsGoing k → Stands first (record k { quiets = k.quiets + 1 }) (w ++ Quiet ∷ []) []
stands_tick first k w s going = record {
  judged = s.judged;
  state = s.state;
  ear = s.ear;
  station = s.station;
  serving = Ticks s.serving (goes_on k s.judged [] s.state going) refl;
}

pub stands_chunk : (first : station.State) (k : Kept) (w : World) (chunk : List ℕ) → Stands first k w [] → IsGoing k → 0 < length chunk → length chunk ≤ 4096 → Stands first (record k { quiets = 0 }) (w ++ all_heard chunk) chunk
stands_chunk first k w chunk s going some few = record {
  judged = s.judged;
  state = s.state;
  ear = s.ear;
  station = s.station;
  serving = Hears s.serving (goes_on k s.judged [] s.state going) refl chunk some few;
}

pub stands_start : (state : station.State) (k : Kept) → station.StandsFor k.station state → ear.StandsFor k.ear [] → k.good ≡ 0 → k.since ≡ 0 → k.quiets ≡ 0 → Stands state k [] []
stands_start state k stands hears good since quiets = record {
  judged = [];
  state = state;
  ear = hears;
  station = stands;
  serving = subst (Serving state k.goal []) (λ j. record { judged = []; waiting = []; state = state; good = sym good j; since = sym since j; quiets = sym quiets j }) Starts;
}

-- ---- replies

written_front : (packet old new : List ℕ) (n : ℕ) → IsWritten packet old new n → take n new ≡ packet
written_front packet old new n w = ap (λ (k : ℕ). take k new) w.len ∙ ap (take (length packet)) w.parts ∙ take-append_seam packet (drop n old)

said_frames : (address : ℕ) (header : Header) (s : Said) (old new : List ℕ) (n : ℕ) → IsSaid address header s old new (answered_as.Reply n) → frames_of address header s ≡ frame (take n new) ∷ []
said_frames address header NotMine old new n h = absurd (cc h.0)
said_frames address header Silent old new n h = absurd (cc h.0)
said_frames address header (InCtrl m) old new n h = ap (λ l. frame l ∷ []) (sym (written_front (ctrl_packet address header m) old new n h))
said_frames address header (InBmp5 m) old new n h = ap (λ l. frame l ∷ []) (sym (written_front (bmp5_packet address header m) old new n h))

said_size : (address : ℕ) (header : Header) (s : Said) (old new : List ℕ) (n : ℕ) → IsSaid address header s old new (answered_as.Reply n) → 8 ≤ n
said_size address header NotMine old new n h = absurd (cc h.0)
said_size address header Silent old new n h = absurd (cc h.0)
said_size address header (InCtrl m) old new n h = omega (arith, h.len, length-append (header_bytes (reply_header address 0 2 header)) (ctrl.message_bytes m))
said_size address header (InBmp5 m) old new n h = omega (arith, h.len, length-append (header_bytes (reply_header address 1 0 header)) (bmp5.message_bytes m))

pub reply_owes : (state : station.State) (content : List ℕ) (header : Header) (message old new : List ℕ) (n : ℕ) → packet_of content ≡ Ok (full header message)
    → IsSaid state.device.address header (answer_of state header message).says old new (answered_as.Reply n) → (owed state content).frames ≡ frame (take n new) ∷ []
reply_owes state content header message old new n is h =
    ap (λ r. (owed_for state r).frames) is ∙ said_frames state.device.address header (answer_of state header message).says old new n h

pub reply_size : (state : station.State) (header : Header) (message old new : List ℕ) (n : ℕ) → IsSaid state.device.address header (answer_of state header message).says old new (answered_as.Reply n) → n ≤ 1008 → IsContentSize n
reply_size state header message old new n h few = inr (said_size state.device.address header (answer_of state header message).says old new n h, few)

at_ok : {T E : Type 0} (r : Result T E) (x : T) (P : T → Type 0) → r ≡ Ok x → IfOk r P → P x
at_ok {T} {E} r x P is h = subst (λ (q : Result T E). IfOk q P) is h

pub framed : {E : Type 0} (content old new : List ℕ) (r : Result ℕ E) (len : ℕ) → r ≡ Ok len → IfOk r (λ n. n ≡ length (frame content)) → IfOk r (λ n. new ≡ frame content ++ drop n old) → take len new ≡ frame content
framed content old new r len is size parts =
    let n = at_ok r len (λ k. k ≡ length (frame content)) is size in
    let all = at_ok r len (λ k. new ≡ frame content ++ drop k old) is parts in
    ap (λ (k : ℕ). take k new) n ∙ ap (take (length (frame content))) all ∙ take-append_seam (frame content) (drop len old)

pub sent_owed : (frames : List (List ℕ)) (f given : List ℕ) (old new : Option World) (result : Result Unit Failed) → frames ≡ f ∷ [] → given ≡ f → Sends old new given result → SendsOwed frames old new result
sent_owed frames f given old new (Ok done) is same grows = subst (λ l. GrowsBy old new (map Sent l)) (sym is) (subst (λ x. GrowsBy old new (Sent x ∷ [])) same grows)
sent_owed frames f given old new (Err failed) is same (inl grows) = (f, is, inl (subst (λ x. GrowsBy old new (Sent x ∷ [])) same grows))
sent_owed frames f given old new (Err failed) is same (inr grows) = (f, is, inr grows)

pub sends_some : (old new : Option World) (f : List ℕ) (result : Result Unit Failed) → Sends old new f result → (events : World) × GrowsBy old new events
sends_some old new f (Ok done) grows = (Sent f ∷ [], grows)
sends_some old new f (Err failed) (inl grows) = (Sent f ∷ [], grows)
sends_some old new f (Err failed) (inr grows) = ([], grows)

-- ---- where steps lead

pub leads_flood : (first : station.State) (goal : ℕ) (new : Kept) (w : World) (link : Link) (waiting : List ℕ) (r : Option End) → Stands first new w waiting → new.goal ≡ goal → MatchOption r (new.since < 1048576) (λ end. (end ≡ Flooded) × (new.since ≡ 1048576))
    → Leads first goal w link link r new waiting
leads_flood first goal new w link waiting None s same h = record { more = []; grows = GrowsBy-nil link.world; leads = subst (λ v. Stands first new v waiting) (sym (append-nil w)) s }
leads_flood first goal new w link waiting (Some end) s same h = record {
  more = [];
  grows = GrowsBy-nil link.world;
  leads = subst (λ v. Ends first goal v end) (sym (append-nil w)) (subst (Ends first goal w) (sym h.0) (subst (λ (g : ℕ). Ends first g w Flooded) same (moment_of new s.judged waiting s.state, s.serving, h.1)));
}

pub miss_leads : (k : Kept) (hearing : ear.Hearing) (byte : ℕ) (vs : List Verdict) (link : Link) (r : Option End) → IsGoing k → ear.Follows k.ear (byte ∷ []) vs hearing → flat_map content_shown vs ≡ []
    → MatchOption r (k.since + 1 < 1048576) (λ end. (end ≡ Flooded) × (k.since + 1 ≡ 1048576)) → LeadsByte byte k link link r (passed hearing 1 k)
miss_leads k hearing byte vs link r going follows none h first w rest s =
    leads_flood first k.goal (passed hearing 1 k) w link rest r
    (stands_pass first k hearing w 1 (byte ∷ rest) (byte ∷ []) rest vs s going refl refl follows none (omega (arith, going.not_flooded))) refl h

pub done_leads : (k : Kept) (hearing : ear.Hearing) (kept : station.KeptStation) (byte : ℕ) (content : List ℕ) (vs : List Verdict) (old new : Link) (r : Option End) → IsGoing k → ear.Follows k.ear (byte ∷ []) vs hearing
    → flat_map content_shown vs ≡ content ∷ [] → ((state : station.State) → station.StandsFor k.station state → station.StandsFor kept (owed state content).state)
    → ((state : station.State) → station.StandsFor k.station state → GrowsBy old.world new.world (map Sent (owed state content).frames))
    → MatchOption r (k.good + 1 < k.goal) (λ end. (end ≡ Done) × (k.good + 1 ≡ k.goal)) → LeadsByte byte k old new r (answered hearing kept k)
done_leads k hearing kept byte content vs old new None going follows one leaves sends h first w rest s =
    record { more = map Sent (owed s.state content).frames; grows = sends s.state s.station; leads = stands_answer first k hearing kept w byte rest content vs s going follows one (leaves s.state s.station) }
done_leads k hearing kept byte content vs old new (Some end) going follows one leaves sends h first w rest s =
    let after = stands_answer first k hearing kept w byte rest content vs s going follows one (leaves s.state s.station) in
    let events = map Sent (owed s.state content).frames in
    record {
      more = events;
      grows = sends s.state s.station;
      leads = subst (Ends first k.goal (w ++ events)) (sym h.0) (moment_of (answered hearing kept k) after.judged rest after.state, after.serving, h.1);
    }

pub fail_leads : (k new : Kept) (hearing : ear.Hearing) (byte : ℕ) (content : List ℕ) (vs : List Verdict) (old now : Link) (e : Failed) → IsGoing k → ear.Follows k.ear (byte ∷ []) vs hearing
    → flat_map content_shown vs ≡ content ∷ [] → ((state : station.State) → station.StandsFor k.station state → SendsOwed (owed state content).frames old.world now.world (Err e))
    → LeadsByte byte k old now (Some LinkFault) new
fail_leads k new hearing byte content vs old now e going follows one sends first w rest s =
    let f = sends s.state s.station in
    unsent f.0 f.1 f.2
  where
    unserved : (f : List ℕ) (events : World) → (owed s.state content).frames ≡ f ∷ [] → (events ≡ w ++ Sent f ∷ []) ⊎ (events ≡ w) → SendFails first k.goal events
    unserved f events is happened = record {
      before = w;
      moment = moment_of k s.judged (byte ∷ rest) s.state;
      serving = s.serving;
      goes_on = goes_on k s.judged (byte ∷ rest) s.state going;
      byte = byte;
      rest = rest;
      content = content;
      frame = f;
      next = refl;
      ends_frame = ends_frame s.judged byte content vs (follows.shows s.judged s.ear) one;
      is_owed = is;
      events = happened;
    }

    unsent : (f : List ℕ) → (owed s.state content).frames ≡ f ∷ [] → GrowsBy old.world now.world (Sent f ∷ []) ⊎ GrowsBy old.world now.world [] → Leads first k.goal w old now (Some LinkFault) new rest
    unsent f is (inl grows) = record { more = Sent f ∷ []; grows = grows; leads = inr (unserved f (w ++ Sent f ∷ []) is (inl refl)) }
    unsent f is (inr grows) = record { more = []; grows = grows; leads = inr (unserved f (w ++ []) is (inr (append-nil w))) }

-- ---- bytes of one call

pub head_tail : (bytes : List ℕ) (byte : ℕ) → 0 < length bytes → byte ≡ get_or bytes 0 byte → bytes ≡ byte ∷ drop 1 bytes
head_tail [] byte some is = absurd (omega arith)
head_tail (x ∷ bytes) byte some is = ap (λ (y : ℕ). y ∷ bytes) (sym is)

-- a run, and then where it leads
pub run_leads : (k new : Kept) (n : ℕ) (bytes : List ℕ) (link : Link) (r : Option End) → IsGoing k → n ≤ length bytes → ear.Follows k.ear (take n bytes) [] new.ear → k.since + n ≤ 1048576 → new ≡ passed new.ear n k
    → MatchOption r (new.since < 1048576) (λ end. (end ≡ Flooded) × (new.since ≡ 1048576))
    → (first : station.State) (w : World) → Stands first k w bytes → Leads first k.goal w link link r new (drop n bytes)
run_leads k new n bytes link r going few follows room is h first w s =
    leads_flood first k.goal new w link (drop n bytes) r
    (subst (λ (x : Kept). Stands first x w (drop n bytes)) (sym is)
    (stands_pass first k new.ear w n bytes (take n bytes) (drop n bytes) [] s going (sym (take-append-drop n bytes)) (long n bytes few) follows refl room))
    (ap (λ (x : Kept). x.goal) is) h
  where
    long : (n : ℕ) (l : List ℕ) → n ≤ length l → n ≡ length (take n l)
    long n l le = omega (arith, length-take n l)

-- no run, and then one byte
pub byte_leads : (k mid new : Kept) (bytes : List ℕ) (byte : ℕ) (old now : Link) (r : Option End) → IsGoing k → 0 < length bytes → byte ≡ get_or bytes 0 byte → ear.Follows k.ear (take 0 bytes) [] mid.ear → k.since + 0 ≤ 1048576
    → mid ≡ passed mid.ear 0 k → LeadsByte byte mid old now r new → (first : station.State) (w : World) → Stands first k w bytes → Leads first k.goal w old now r new (drop 1 bytes)
byte_leads k mid new bytes byte old now r going some is follows room same leads first w s =
    let one = stands_pass first k mid.ear w 0 bytes [] bytes [] s going refl refl follows refl room in
    subst (λ (n : ℕ). Leads first n w old now r new (drop 1 bytes)) (ap (λ (x : Kept). x.goal) same)
    (leads first w (drop 1 bytes) (subst (λ l. Stands first mid w l) (head_tail bytes byte some is) (subst (λ (x : Kept). Stands first x w bytes) (sym same) one)))

-- one step after another
pub leads_on : (first : station.State) (goal : ℕ) (w more : World) (old mid now : Link) (r : Option End) (k new : Kept) (rest waiting : List ℕ) → GrowsBy old.world mid.world more → k.goal ≡ goal → Stands first k (w ++ more) rest
    → ((w : World) → Stands first k w rest → Leads first k.goal w mid now r new waiting) → Leads first goal w old now r new waiting
leads_on first goal w more old mid now r k new rest waiting grew same s leads =
    let l = leads (w ++ more) s in
    record {
      more = more ++ l.more;
      grows = GrowsBy-trans old.world mid.world now.world more l.more grew l.grows;
      leads = turned r l.leads;
    }
  where
    l : Leads first k.goal (w ++ more) mid now r new waiting
    l = leads (w ++ more) s

    turned : (r : Option End) → MatchOption r (Stands first new ((w ++ more) ++ l.more) waiting) (λ end. Ends first k.goal ((w ++ more) ++ l.more) end)
        → MatchOption r (Stands first new (w ++ (more ++ l.more)) waiting) (λ end. Ends first goal (w ++ (more ++ l.more)) end)
    turned None h = subst (λ v. Stands first new v waiting) (append_assoc w more l.more) h
    turned (Some end) h = subst (λ (n : ℕ). Ends first n (w ++ (more ++ l.more)) end) same (subst (λ v. Ends first k.goal v end) (append_assoc w more l.more) h)

-- ---- where one ended, nothing is said of what waits
pub any_waiting : (first : station.State) (goal : ℕ) (w : World) (old now : Link) (end : End) (new : Kept) (a b : List ℕ) → Leads first goal w old now (Some end) new a → Leads first goal w old now (Some end) new b
any_waiting first goal w old now end new a b l = record { more = l.more; grows = l.grows; leads = l.leads }

pub no_bytes : (l : List ℕ) (b : Bool) → b ≡ (length l == 0) → b ≡ true → l ≡ []
no_bytes [] b is empty = refl
no_bytes (x ∷ l) b is empty = absurd (true≢false (sym empty ∙ is ∙ ne_eqb (length (x ∷ l)) 0 (λ e. omega (arith, e))))

pub some_bytes : (l : List ℕ) (b : Bool) → b ≡ (length l == 0) → b ≡ false → 0 < length l
some_bytes [] b is filled = absurd (true≢false (sym is ∙ filled))
some_bytes (x ∷ l) b is filled = omega arith

pub none_left : (l : List ℕ) → length l ≡ 0 → l ≡ []
none_left [] is = refl
none_left (x ∷ l) is = absurd (omega (arith, is))

-- ---- what one call gives

arrived : (bytes : List ℕ) → 0 < length bytes → arrival bytes ≡ all_heard bytes
arrived [] some = absurd (omega arith)
arrived (x ∷ bytes) some = refl

pub tick_takes : (first : station.State) (k new : Kept) (w : World) (bytes : List ℕ) (link : Link) (r : Option End) → bytes ≡ [] → IsGoing k → new ≡ record k { quiets = k.quiets + 1 } → MatchOption r (IsGoing new) (λ end. (end ≡ Idle) × (new.quiets ≡ 600))
    → Stands first k w [] → IsHandled first k.goal w bytes link link r new
tick_takes first k new w bytes link r none going is h s =
    let after = subst (λ (x : Kept). Stands first x (w ++ Quiet ∷ []) []) (sym is) (stands_tick first k w s going) in
    record {
      more = [];
      grows = GrowsBy-nil link.world;
      leads = turned r h after (sym (ap (λ l. w ++ (arrival l ++ [])) none));
    }
  where
    turned : (r : Option End) → MatchOption r (IsGoing new) (λ end. (end ≡ Idle) × (new.quiets ≡ 600)) → Stands first new (w ++ Quiet ∷ []) [] → w ++ (Quiet ∷ []) ≡ w ++ (arrival bytes ++ [])
        → MatchOption r (Stands first new (w ++ (arrival bytes ++ [])) []) (λ end. Ends first k.goal (w ++ (arrival bytes ++ [])) end)
    turned None h after events = subst (λ v. Stands first new v []) events after
    turned (Some end) h after events =
        subst (λ v. Ends first k.goal v end) events (subst (Ends first k.goal (w ++ Quiet ∷ [])) (sym h.0)
        (subst (λ (n : ℕ). Ends first n (w ++ Quiet ∷ []) Idle) (ap (λ (x : Kept). x.goal) is) (moment_of new after.judged [] after.state, after.serving, h.1)))

pub chunk_takes : (first : station.State) (k new : Kept) (w : World) (bytes : List ℕ) (old now : Link) (r : Option End) → 0 < length bytes → length bytes ≤ 4096 → IsGoing k
    → ((first : station.State) (w : World) → Stands first (record k { quiets = 0 }) w bytes → Leads first k.goal w old now r new []) → Stands first k w [] → IsHandled first k.goal w bytes old now r new
chunk_takes first k new w bytes old now r some few going leads s =
    let l = leads first (w ++ all_heard bytes) (stands_chunk first k w bytes s going some few) in
    record {
      more = l.more;
      grows = l.grows;
      leads = subst (λ v. MatchOption r (Stands first new v []) (λ end. Ends first k.goal v end)) (append_assoc w (all_heard bytes) l.more ∙ ap (λ a. w ++ (a ++ l.more)) (sym (arrived bytes some))) l.leads;
    }

pub arrives : (old new : Option World) (given : List ℕ) (n : ℕ) → n ≤ length given → (0 < n → GrowsBy old new (all_heard (take n given))) × (n ≡ 0 → GrowsBy old new (Quiet ∷ [])) → GrowsBy old new (arrival (take n given))
arrives old new given zero few h = h.1 refl
arrives old new [] (suc n) few h = absurd (omega arith)
arrives old new (x ∷ given) (suc n) few h = h.0 (omega arith)

-- ---- one call after another

pub takes_on : (first : station.State) (goal : ℕ) (w : World) (bytes : List ℕ) (old mid got now : Link) (r : Option End) (k new : Kept) → GrowsBy old.world mid.world w → GrowsBy mid.world got.world (arrival bytes) → k.goal ≡ goal
    → IsHandled first k.goal w bytes got now r new → (v : World) × GrowsBy old.world now.world v × MatchOption r (Stands first new v []) (λ end. Ends first goal v end)
takes_on first goal w bytes old mid got now r k new grew came same t = (
  w ++ (arrival bytes ++ t.more),
  GrowsBy-trans old.world mid.world now.world w (arrival bytes ++ t.more) grew (GrowsBy-trans mid.world got.world now.world (arrival bytes) t.more came t.grows),
  subst (λ (n : ℕ). MatchOption r (Stands first new (w ++ (arrival bytes ++ t.more)) []) (λ end. Ends first n (w ++ (arrival bytes ++ t.more)) end)) same t.leads,
)

pub receive_fails : (first : station.State) (goal : ℕ) (w : World) (old mid now : Link) (k : Kept) → GrowsBy old.world mid.world w → GrowsBy mid.world now.world [] → k.goal ≡ goal → IsGoing k → Stands first k w []
    → (v : World) × GrowsBy old.world now.world v × Ends first goal v LinkFault
receive_fails first goal w old mid now k grew still same going s = (
  w,
  subst (GrowsBy old.world now.world) (append-nil w) (GrowsBy-trans old.world mid.world now.world w [] grew still),
  subst (λ (n : ℕ). Ends first n w LinkFault) same (inl (moment_of k s.judged [] s.state, s.serving, goes_on k s.judged [] s.state going, refl)),
)

-- a slice that goes to the end
pub whole_tail : (n : ℕ) (l : List ℕ) → take (length l - n) (drop n l) ≡ drop n l
whole_tail n l = take_all (length l - n) (drop n l) (omega (arith, length-drop n l))
