-- A table that is collected in an undisturbed world: each request is answered fully, up to the one that ends it.
use Rattle.std.proofs.Common.{max, ◌-◌, ◌≡◌, inl, inr, ⊎_elim, ℕ, zero, suc, ◌+◌, ◌<◌, ◌≤◌, Bool, true, false, List, [], ◌∷◌, ◌++◌, length, drop, Some, refl, sym, ◌∙◌, ap, subst, append_assoc, length-append, arith}
use Rattle.std.specs.Prelude.{if◌then◌else◌}
use Rattle.std.specs.List.{AllByRecursion, Contains}
use Rattle.std.proofs.lemmas.Option.{same_Some}
use Rattle.std.proofs.Math.Nat.{mul-le-mul_right}
use Rattle.pb_base.specs.declared.layout.Layout.{Layout}
use Rattle.pb_base.specs.World.{World, Sent, TableDefinition}
use Rattle.pb_base.specs.History.{TableKey, History, GoesOn, history}
use Rattle.pb_base.specs.Request.{Request}
use Rattle.pb_base.specs.Request as base
use Rattle.pb_io.proofs.WorldLemmas.{history-later}
use Rattle.pb_bmp5.specs.Asking.{asked_mode}
use Rattle.pb_bmp5.specs.CollectReply.{SeenReply, CollectReads}
use Rattle.pb_bmp5.specs.TrueReply.{Stage}
use Rattle.pb_bmp5.proofs.TrueLemmas.{StaysFull, says-stays}
use Rattle.pb_trans.specs.declared.asked.Limits.{Limits}
use Rattle.pb_archive.specs.Archive.{front}
use Rattle.pb_archive.specs.Plan.{Plan}
use Rattle.pb_archive.specs.declared.held.Held.{Held}
use Rattle.pb_ask.specs.declared.question.Conclusion.{Conclusion}
use Rattle.pb_ask.specs.declared.question.Conclusion.TheVariants as conclusion
use Rattle.pb_truth.specs.Bound.{AnswersOf, Ends, FullAnswer, GoesThrough, IsNotBefore, Unasked, Further, bound, mode_of, next_known, parts_max}
use Rattle.pb_truth.specs.Bound as truth
use Rattle.pb_truth.specs.Learning.{Known, learned}
use Rattle.pb_truth.specs.Undisturbed.{IsExchange, IsStageSince, Undisturbed}
use Rattle.pb_truth.proofs.AnswerLemmas.{ends-within, goes-within}
use Rattle.pb_truth.proofs.LearningLemmas.{fragments_in}
use Rattle.pb_truth.proofs.UndisturbedLemmas.{IsUnsent}
use Rattle.pb_collect.specs.Commands.{IsCommandTo}
use Rattle.pb_collect.specs.Complete.{HeardAt, key_of}
use Rattle.pb_collect.specs.Ends as ends
use Rattle.pb_collect.specs.Ends.{Comes, asked_once_more, has_part, kept_partial}
use Rattle.pb_collect.specs.Exchanges.{Exchanged, Took, TookBy}
use Rattle.pb_collect.specs.Progress.{Progress, CanTakeAll, Suits, IsAt, after_all, partial_bytes}
use Rattle.pb_collect.specs.Question.{command_request}
use Rattle.pb_collect.specs.Tables.{Asked, EndedBy, Point, Requested, Requests}
use Rattle.pb_collect.specs.declared.answer.Said.{Said}
use Rattle.pb_collect.specs.declared.ending.End.{End}
use Rattle.pb_collect.specs.declared.ending.End.TheVariants.{Done, NoAnswer, Flooded, Undelivered, Refused, Redefined, Budget}
use Rattle.pb_collect.specs.declared.ending.Next.{Next}
use Rattle.pb_collect.specs.declared.ending.Next.TheVariants as next
use Rattle.pb_collect.proofs.AnsweredLemmas.{Answered, FramingLaws, Settled, answered}
use Rattle.pb_collect.proofs.FullLemmas.{FullAt, IsAsking, and_left, asked_after, asking_next, at_next, full_at, known_all, layout_after, mode_known, partial_some}
use Rattle.pb_collect.proofs.TakeLemmas.{all_can}

-- a stage at or before this moment of a table
pub record IsPast (stage : Stage) (h : History) : Type 0 where
  pub next : stage.next ≤ length h.records
  pub oldest : stage.oldest ≤ h.oldest

pub past_later : (stage : Stage) (w more : World) (key : TableKey) → IsPast stage (history w key) → IsPast stage (history (w ++ more) key)
past_later stage w more key p =
    let later = history-later w more key in
    record {
      next = omega (arith, p.next, ap (λ (l : List _). length l) later.records.1, length-append (history w key).records later.records.0);
      oldest = omega (arith, p.oldest, later.oldest);
    }

-- the command asks for the table
table_is : (plan : Plan) (held : Held) (p : Progress) (c : _) → IsCommandTo plan held p c → (command_request c).table ≡ key_of plan held
table_is plan held p c of = cc (of.station, of.table, of.sig)

-- what is kept of how far a table came is so far, with as many requests
kept_same : (p : Progress) → ((kept_partial p).asked ≡ p.asked) × ((kept_partial p).layout ≡ p.layout)
kept_same p = by (has_part p)
  where
    by : (b : Bool) → ((if b then p else record p { is_partial = false }).asked ≡ p.asked) × ((if b then p else record p { is_partial = false }).layout ≡ p.layout)
    by true = (refl, refl)
    by false = (refl, refl)

-- the more records are stored, the more requests there may be
bound_more : (layout : Layout) (front oldest less more : ℕ) → less ≤ more → bound layout front oldest less ≤ bound layout front oldest more
bound_more layout front oldest less more le =
    omega (arith, mul-le-mul_right {m = less - max front oldest} {n = more - max front oldest} (parts_max layout + 1) (omega (arith, le)))

-- an answer with response code 0 isn't another conclusion
not_refused : (said : Said) (code : ℕ) → said.resp ≡ 0 → ends.WasRefused (conclusion.Answer said) code → code ≡ 0
not_refused said code complete refused = let same : said.resp ≡ code = cc refused.1 in sym same ∙ complete

said_more : (said : Said) (more : Bool) → ends.WasAnswered (conclusion.Answer said) more → said.more ≡ more
said_more said more is = cc is

module _ (first last : World) (undisturbed : Undisturbed first last) (laws : FramingLaws) (limits : Limits) (some : 1 ≤ limits.quiets) (plan : Plan) (held : Held) (layout : Layout)
    (only : (d : TableDefinition) → Contains (history last (key_of plan held)).definitions d → d.layout ≡ layout) where
  abbrev key : TableKey
  key = key_of plan held

  abbrev h : History
  h = history last (key_of plan held)

  -- the next request finds the stage passed
  abbrev Passed : World → Stage → Type 0
  Passed w stage =
      (p r : World) (f : List ℕ) → last ≡ (w ++ p) ++ Sent f ∷ r → AllByRecursion IsUnsent p → IsPast stage (history (w ++ p) (key_of plan held))

  -- one request, from what is known before it
  pub record Step (now : Known) (before : Stage) (from to : Point) (next : Next) (v : World) : Type 0 where
    pub reply : SeenReply
    pub a : FullAnswer layout (history last (key_of plan held)) now
    pub reply_is : a.reply ≡ reply
    pub later : IsNotBefore before a.answer.stage
    pub mid : Progress
    pub said : Said
    pub complete : said.resp ≡ 0
    pub more : reply.more ≡ said.more
    pub comes : Comes limits.budget mid (conclusion.Answer said) next to.progress
    pub mid_is : mid ≡ after_all from.progress reply.fragments
    pub at_mid : IsAt mid (learned layout now reply.fragments)
    pub at_next : IsAt (asked_once_more (kept_partial mid)) (next_known layout now reply.fragments)
    pub partial_some : mid.is_partial ≡ true → 0 < length mid.joined
    pub settled : Settled first last to.channel.listener v
    pub heard : HeardAt first last (key_of plan held) a.answer.stage
    pub passed : Passed v a.answer.stage

  module _ (now : Known) (before : Stage) (from to : Point) (next : Next) (w v e : World) (q : Requested limits plan held from next to) (from_is : from.channel.link.world ≡ Some w)
      (to_is : to.channel.link.world ≡ Some v) (last_is : last ≡ v ++ e) (settled : Settled first last from.channel.listener w) (at : IsAt from.progress now) (asking : IsAsking from.progress)
      (layout_is : from.progress.layout ≡ layout) (passed : Passed w before) where
    x : Exchanged q.command limits from.channel.listener from.channel.link from.progress next to.channel.listener to.channel.link to.progress
    x = q.exchanged

    ans : Answered first last q.command to.channel.listener w v q.exchanged.conclusion
    ans =
        answered first last undisturbed laws q.command q.exchanged.once limits some from.channel.listener to.channel.listener from.channel.link to.channel.link w v e
        q.exchanged.conclusion from_is to_is last_is settled q.exchanged.asks

    took : Took q.command to.channel.listener ans.said from.progress q.exchanged.mid
    took = subst (λ (o : Conclusion Said). TookBy q.command to.channel.listener o from.progress q.exchanged.mid) ans.is q.exchanged.took

    -- the reply that was taken is the one that was sent
    resp_is : took.reply.resp ≡ 0
    resp_is =
        let sent = ans.exchange.reply.is_true in
        let e : 0x89 ∷ ans.exchange.request.tran ∷ sent.resp ∷ sent.body ≡ 0x89 ∷ took.reply.tran ∷ took.reply.resp ∷ took.reads.body = sym sent.parts ∙ ans.message ∙ took.reads.parts in
        let same : sent.resp ≡ took.reply.resp = cc e in
        sym same ∙ ans.exchange.complete

    command_layout : q.command.layout ≡ layout
    command_layout = q.of.layout ∙ layout_is

    its_table : ans.exchange.request.table ≡ key_of plan held
    its_table = ap (λ (r : Request). r.table) ans.request ∙ table_is plan held from.progress q.command q.of

    abbrev before_events : World
    before_events = (w ++ ans.pre) ++ ans.events

    says : StaysFull ans.exchange.request ans.exchange.packet (history ((w ++ ans.pre) ++ ans.events)) (history last) ans.exchange.reply ans.exchange.complete
    says =
        says-stays ans.exchange.request ans.exchange.packet (history ((w ++ ans.pre) ++ ans.events)) (history last) ans.exchange.reply ans.exchange.complete
        (λ k. subst (λ (l : World). GoesOn (history ((w ++ ans.pre) ++ ans.events) k) (history l k)) (sym ans.whole) (history-later ((w ++ ans.pre) ++ ans.events) ans.after k))

    stage : Stage
    stage = says.truth.answer.stage

    reads_message : CollectReads ans.exchange.request.table.number layout took.reply ans.exchange.packet.message
    reads_message =
        subst (λ l. CollectReads ans.exchange.request.table.number layout took.reply l) (sym ans.message)
        (subst (λ n. CollectReads n layout took.reply (drop 8 to.channel.listener.ear.content)) (sym (ap (λ (r : Request). r.table.number) ans.request))
        (subst (λ (l : Layout). CollectReads q.command.table.0 l took.reply (drop 8 to.channel.listener.ear.content)) command_layout took.reads))

    full : FullAt layout ans.exchange.request.mode (history last ans.exchange.request.table) took.reply says.truth.answer.stage
    full =
        full_at ans.exchange.request ans.exchange.packet.message (history last ans.exchange.request.table) layout took.reply says.truth says.full
        (λ d there. only d (subst (λ (k : TableKey). Contains (history last k).definitions d) its_table there)) reads_message

    mode_is : ans.exchange.request.mode ≡ mode_of now
    mode_is = ap (λ (r : Request). r.mode) ans.request ∙ ap asked_mode q.of.mode ∙ mode_known from.progress now at asking

    fitting : FullAt layout (mode_of now) (history last (key_of plan held)) took.reply says.truth.answer.stage
    fitting =
        subst (λ (m : base.Mode). FullAt layout m (history last (key_of plan held)) took.reply says.truth.answer.stage) mode_is
        (subst (λ (k : TableKey). FullAt layout ans.exchange.request.mode (history last k) took.reply says.truth.answer.stage) its_table full)

    stage_is : fitting.answer.stage ≡ (ans.exchange.reply.is_true.says ans.exchange.complete).answer.stage
    stage_is = fitting.stage_is ∙ says.stage

    since : IsStageSince (history (w ++ ans.pre) (key_of plan held)) fitting.answer.stage
    since =
        subst (λ (s : Stage). IsStageSince (history (w ++ ans.pre) (key_of plan held)) s) (sym stage_is)
        (subst (λ (k : TableKey). IsStageSince (history (w ++ ans.pre) k) (ans.exchange.reply.is_true.says ans.exchange.complete).answer.stage) its_table ans.exchange.stage)

    within : IsPast fitting.answer.stage (history ((w ++ ans.pre) ++ ans.events) (key_of plan held))
    within =
        let lies = (ans.exchange.reply.is_true.says ans.exchange.complete).answer.lies in
        subst (λ (s : Stage). IsPast s (history ((w ++ ans.pre) ++ ans.events) (key_of plan held))) (sym stage_is)
        (subst (λ (k : TableKey). IsPast (ans.exchange.reply.is_true.says ans.exchange.complete).answer.stage (history ((w ++ ans.pre) ++ ans.events) k)) its_table
        (record { next = lies.stored; oldest = lies.overwritten }))

    the_answer : FullAnswer layout (history last (key_of plan held)) now
    the_answer = record {
      table = q.command.table.0;
      message = drop 8 to.channel.listener.ear.content;
      reply = took.reply;
      reads = subst (λ (l : Layout). CollectReads q.command.table.0 l took.reply (drop 8 to.channel.listener.ear.content)) command_layout took.reads;
      complete = resp_is;
      answer = fitting.answer;
      full = fitting.full;
      held = since.held;
    }

    was_before : IsPast before (history (w ++ ans.pre) (key_of plan held))
    was_before =
        passed ans.pre (ans.exchange.rest ++ ans.after) ans.exchange.sent
        (ans.whole ∙ ap (λ (l : World). ((w ++ ans.pre) ++ l) ++ ans.after) ans.exchange.is ∙ append_assoc (w ++ ans.pre) (Sent ans.exchange.sent ∷ ans.exchange.rest) ans.after)
        ans.unsent

    mid_taken : q.exchanged.mid ≡ after_all from.progress took.reply.fragments
    mid_taken = took.taken (sym took.resp ∙ resp_is)

    its_reads : CollectReads q.command.table.0 from.progress.layout took.reply (drop 8 to.channel.listener.ear.content)
    its_reads = subst (λ (l : Layout). CollectReads q.command.table.0 l took.reply (drop 8 to.channel.listener.ear.content)) q.of.layout took.reads

    can : CanTakeAll from.progress took.reply.fragments
    can = all_can from.progress q.command.table.0 took.reply (drop 8 to.channel.listener.ear.content) its_reads resp_is (subst (λ m. Suits m took.reply) q.of.mode took.fits)

    -- an exchange that begins after this world gives the answer
    Heard : World → Type 0
    Heard l =
        (whole : last ≡ (l ++ ans.events) ++ ans.after) (exchange : IsExchange l ans.events) → exchange.request.table ≡ key_of plan held
        → fitting.answer.stage ≡ (exchange.reply.is_true.says exchange.complete).answer.stage → HeardAt first last (key_of plan held) fitting.answer.stage

    pub step : Step now before from to next v
    unfolding the_answer Heard
    step =
        let are = fragments_in q.command.table.0 from.progress.layout took.reply.resp took.reply.more took.reply.fragments its_reads.body resp_is its_reads.has in
        record {
          reply = took.reply;
          a = the_answer;
          reply_is = refl;
          later = record { next = omega (arith, was_before.next, since.stored); oldest = omega (arith, was_before.oldest, since.oldest) };
          mid = q.exchanged.mid;
          said = ans.said;
          complete = sym took.resp ∙ resp_is;
          more = took.more;
          comes = subst (λ (o : Conclusion Said). Comes limits.budget q.exchanged.mid o next to.progress) ans.is q.exchanged.comes;
          mid_is = mid_taken;
          at_mid =
              subst (λ (p : Progress). IsAt p (learned layout now took.reply.fragments)) (sym mid_taken)
              (subst (λ (l : Layout). IsAt (after_all from.progress took.reply.fragments) (learned l now took.reply.fragments)) layout_is (known_all from.progress now took.reply.fragments can at));
          at_next =
              subst (λ (p : Progress). IsAt (asked_once_more (kept_partial p)) (next_known layout now took.reply.fragments)) (sym mid_taken)
              (subst (λ (l : Layout). IsAt (asked_once_more (kept_partial (after_all from.progress took.reply.fragments))) (next_known l now took.reply.fragments)) layout_is
              (at_next q.command.table.0 from.progress now took.reply.fragments are.0 its_reads.body are.1 can at asking));
          partial_some =
              subst (λ (p : Progress). p.is_partial ≡ true → 0 < length p.joined) (sym mid_taken)
              (partial_some q.command.table.0 from.progress now took.reply.fragments are.0 its_reads.body are.1 can at asking);
          settled = ans.settled;
          heard = subst (λ (l : World). Heard l) (sym (ap (λ (l : World). l ++ ans.pre) settled.is_from ∙ append_assoc first settled.from ans.pre)) (λ whole exchange table stage. record {
            from = settled.from ++ ans.pre;
            events = ans.events;
            after = ans.after;
            whole = whole;
            exchange = exchange;
            table = table;
            stage_is = stage;
          }) ans.whole ans.exchange its_table stage_is;
          passed = λ p r f is unsent. subst (λ (l : World). IsPast fitting.answer.stage (history l (key_of plan held))) (ans.next p r f is unsent) within;
        }

  -- ---- one request after another

  -- Where the table stands when the next request is made.
  pub record Here (start : Known) (first_stage : Stage) (n : ℕ) (q : Point) (w : World) : Type 0 where
    pub settled : Settled first last q.channel.listener w
    pub stage : Stage
    pub now : Known
    pub through : GoesThrough layout (history last (key_of plan held)) first_stage start n stage now
    pub at : IsAt q.progress now
    pub asking : IsAsking q.progress
    pub asked : q.progress.asked ≡ n + 1
    pub layout_is : q.progress.layout ≡ layout
    pub passed : Passed w stage

  module _ (start : Known) (first_stage : Stage) where
    module _ (n : ℕ) (from to : Point) (next : Next) (w v e : World) (here : Here start first_stage n from w) (q : Requested limits plan held from next to)
        (from_is : from.channel.link.world ≡ Some w) (to_is : to.channel.link.world ≡ Some v) (last_is : last ≡ v ++ e) where
      now_step : Step here.now here.stage from to next v
      now_step = step here.now here.stage from to next w v e q from_is to_is last_is here.settled here.at here.asking here.layout_is here.passed

      mid_asked : now_step.mid.asked ≡ n + 1
      mid_asked = ap (λ (p : Progress). p.asked) now_step.mid_is ∙ asked_after from.progress now_step.reply.fragments ∙ here.asked

      mid_layout : now_step.mid.layout ≡ layout
      mid_layout = ap (λ (p : Progress). p.layout) now_step.mid_is ∙ layout_after from.progress now_step.reply.fragments ∙ here.layout_is

      partial_known : now_step.mid.is_partial ≡ true → 0 < length (learned layout here.now now_step.reply.fragments).partial
      partial_known partial =
          let all : length (partial_bytes now_step.mid) ≡ length now_step.mid.joined = rw partial refl in
          omega (arith, now_step.partial_some partial, all, ap (λ (l : List ℕ). length l) now_step.at_mid.partial)

      goes_on : (more : Bool) → ends.WasAnswered (conclusion.Answer now_step.said) more → ends.GoesOn now_step.mid more → truth.GoesOn layout here.now now_step.a.reply
      goes_on more answered goes =
          subst (λ (r : SeenReply). truth.GoesOn layout here.now r) (sym now_step.reply_is)
          (⊎_elim (λ is. inl (now_step.more ∙ said_more now_step.said more answered ∙ is)) (λ partial. inr (partial_known partial)) goes)

      -- the table goes on after the answer
      further : (more : Bool) → ends.WasAnswered (conclusion.Answer now_step.said) more → ends.GoesOn now_step.mid more
          → GoesThrough layout (history last (key_of plan held)) first_stage start (suc n) now_step.a.answer.stage (next_known layout here.now now_step.reply.fragments)
      further more answered goes =
          subst (λ (r : SeenReply). GoesThrough layout (history last (key_of plan held)) first_stage start (suc n) now_step.a.answer.stage (next_known layout here.now r.fragments)) now_step.reply_is
          (Further n here.stage here.now here.through now_step.a now_step.later (goes_on more answered goes))

    pub goes_on_here : (n : ℕ) (from to : Point) (mode : _) (w v e : World) → Here start first_stage n from w → Requested limits plan held from (next.Ask mode) to
        → from.channel.link.world ≡ Some w → to.channel.link.world ≡ Some v → last ≡ v ++ e → Here start first_stage (suc n) to v
    goes_on_here n from to mode w v e here q from_is to_is last_is =
        let st = now_step n from to (next.Ask mode) w v e here q from_is to_is last_is in
        let comes = st.comes in
        let same = kept_same st.mid in
        record {
          settled = st.settled;
          stage = st.a.answer.stage;
          now = next_known layout here.now st.reply.fragments;
          through = further n from to (next.Ask mode) w v e here q from_is to_is last_is comes.0 comes.1 comes.2;
          at = subst (λ (p : Progress). IsAt p (next_known layout here.now st.reply.fragments)) (sym comes.4) st.at_next;
          asking = subst (λ (p : Progress). IsAsking p) (sym comes.4) (asking_next st.mid (λ goes. st.partial_some (and_left st.mid.is_partial _ goes)));
          asked =
              omega (arith, ap (λ (p : Progress). p.asked) comes.4, same.0, mid_asked n from to (next.Ask mode) w v e here q from_is to_is last_is);
          layout_is = ap (λ (p : Progress). p.layout) comes.4 ∙ same.1 ∙ mid_layout n from to (next.Ask mode) w v e here q from_is to_is last_is;
          passed = st.passed;
        }

    pub requests : (n : ℕ) (from to : Point) (w v e : World) → Here start first_stage 0 from w → Requests limits plan held n from to → from.channel.link.world ≡ Some w
        → to.channel.link.world ≡ Some v → last ≡ v ++ e → Here start first_stage n to v
    requests zero from to w v e here is from_is to_is last_is =
        let same : w ≡ v = same_Some w v (sym from_is ∙ ap (λ (q : Point). q.channel.link.world) (sym is) ∙ to_is) in
        subst (λ (l : World). Here start first_stage 0 to l) same (subst (λ (q : Point). Here start first_stage 0 q w) (sym is) here)
    requests (suc n) from to w v e here (mid, mode, before, q) from_is to_is last_is =
        let back = q.exchanged.asks.grows.back v to_is in
        let earlier = requests n from mid w back.0 (back.1 ++ e) here before from_is back.2 (last_is ∙ ap (λ (l : World). l ++ e) back.3 ∙ append_assoc back.0 back.1 e) in
        goes_on_here n mid to mode back.0 v e earlier q back.2 to_is last_is

    -- ---- the last request

    -- The table is done: within the bound of the last answer's stage, and its front is that stage's next number.
    pub record IsDoneAt (asked : ℕ) (end : End) (to : Point) (v : World) : Type 0 where
      pub done : end ≡ Done
      pub settled : Settled first last to.channel.listener v
      pub stage : Stage
      pub stored : stage.next ≤ length (history last (key_of plan held)).records
      pub within : asked ≤ bound layout (front start.table) first_stage.oldest stage.next
      pub front_is : to.progress.front ≡ stage.next
      pub heard : HeardAt first last (key_of plan held) stage

    module _ (none : start.partial ≡ []) (low : front start.table ≤ first_stage.next)
        (enough : bound layout (front start.table) first_stage.oldest (length (history last (key_of plan held)).records) ≤ limits.budget) where
      ends_here : (n : ℕ) (from to : Point) (end : End) (w v e : World) → Here start first_stage n from w → Requested limits plan held from (next.Ends end) to
          → from.channel.link.world ≡ Some w → to.channel.link.world ≡ Some v → last ≡ v ++ e → IsDoneAt (suc n) end to v
      ends_here n from to end w v e here q from_is to_is last_is = by end st.comes.0
        where
          st : Step here.now here.stage from to (next.Ends end) v
          st = now_step n from to (next.Ends end) w v e here q from_is to_is last_is

          by : (which : End) → ends.EndsAs limits.budget st.mid (conclusion.Answer st.said) which → IsDoneAt (suc n) which to v
          by Done (answered, closed) =
              let over : Ends layout here.now st.a.reply = subst (λ (r : SeenReply). Ends layout here.now r) (sym st.reply_is) (record {
                no_more = st.more ∙ said_more st.said false answered;
                none = sym st.at_mid.partial ∙ (rw closed refl);
              }) in
              let all = ends-within layout (history last (key_of plan held)) first_stage start n here.stage here.now here.through none low st.a st.later over in
              record {
                done = refl;
                settled = st.settled;
                stage = st.a.answer.stage;
                stored = st.a.answer.lies.stored;
                within = all.0;
                front_is = ap (λ (p : Progress). p.front) st.comes.1 ∙ st.at_mid.front ∙ ap (λ (r : SeenReply). front (learned layout here.now r.fragments).table) (sym st.reply_is) ∙ all.1;
                heard = st.heard;
              }
          by Budget (more, answered, goes, spent) =
              let through = further n from to (next.Ends end) w v e here q from_is to_is last_is more answered goes in
              let few = goes-within layout (history last (key_of plan held)) first_stage start (suc n) st.a.answer.stage (next_known layout here.now st.reply.fragments) through none low in
              absurd (omega (
                arith,
                few,
                enough,
                bound_more layout (front start.table) first_stage.oldest st.a.answer.stage.next (length (history last (key_of plan held)).records) st.a.answer.lies.stored,
                spent,
                mid_asked n from to (next.Ends end) w v e here q from_is to_is last_is,
              ))
          by (Refused code) (refused, some_code, other) = absurd (some_code (not_refused st.said code st.complete refused))
          by (Undelivered code) is = absurd (cc is)
          by Flooded is = absurd (cc is)
          by NoAnswer is = absurd (cc is)
          by (Redefined old told) is = absurd is

      stops_not_here : (n : ℕ) (from to : Point) (w v e : World) → Here start first_stage n from w → Requested limits plan held from next.Stop to → from.channel.link.world ≡ Some w
          → to.channel.link.world ≡ Some v → last ≡ v ++ e → ⊥
      stops_not_here n from to w v e here q from_is to_is last_is =
          let st = now_step n from to next.Stop w v e here q from_is to_is last_is in
          omega (arith, not_refused st.said ends.redefined st.complete st.comes.0)

      -- a table that ended
      pub ended_by : (asked : ℕ) (from to : Point) (end : End) (w v e : World) → Here start first_stage 0 from w → EndedBy limits plan held asked from end to
          → from.channel.link.world ≡ Some w → to.channel.link.world ≡ Some v → last ≡ v ++ e → IsDoneAt asked end to v
      ended_by asked from to end w v e here by from_is to_is last_is = ⊎_elim
          (λ (a : Asked limits plan held asked from (next.Ends end) to).
          let back = a.last.exchanged.asks.grows.back v to_is in
          let rest : last ≡ back.0 ++ (back.1 ++ e) = last_is ∙ ap (λ (l : World). l ++ e) back.3 ∙ append_assoc back.0 back.1 e in
          let before = requests a.before from a.mid w back.0 (back.1 ++ e) here a.requests from_is back.2 rest in
          subst (λ n. IsDoneAt n end to v) (omega (arith, a.count)) (ends_here a.before a.mid to end back.0 v e before a.last back.2 to_is last_is))
          (λ stopped.
          let a = stopped.0 in
          let back = a.last.exchanged.asks.grows.back v to_is in
          let rest : last ≡ back.0 ++ (back.1 ++ e) = last_is ∙ ap (λ (l : World). l ++ e) back.3 ∙ append_assoc back.0 back.1 e in
          let before = requests a.before from a.mid w back.0 (back.1 ++ e) here a.requests from_is back.2 rest in
          absurd (stops_not_here a.before a.mid to back.0 v e before a.last back.2 to_is last_is)) by
