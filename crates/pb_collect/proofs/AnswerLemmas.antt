-- What an answer that was heard teaches, at a moment at which all that a crash leaves is good.
use Rattle.std.proofs.Common.{◌≡◌, ℕ, zero, suc, ◌-◌, ◌≤◌, List, [], ◌∷◌, ◌++◌, length, map, drop, Some, None, sym, ◌∙◌, ap, subst, arith, length-append, length-drop}
use Rattle.std.specs.Prelude.{Option, slice_get}
use Rattle.std.proofs.lemmas.Option.{same_Some}
use Rattle.pb_base.specs.declared.layout.Layout.{Layout}
use Rattle.pb_base.specs.declared.numbers.TableNo.{TableNo}
use Rattle.pb_base.specs.Fields.{IsBytes}
use Rattle.pb_base.specs.World.{World}
use Rattle.pb_base.specs.History.{TableKey}
use Rattle.pb_base.proofs.FieldLaws.{IsBytes-drop}
use Rattle.pb_io.specs.View.{View}
use Rattle.pb_bmp5.specs.CollectReply.{SeenFragment, whole, part, SeenReply, fragment_bytes, rest_of, next_of, Begins, AreFragments, CollectReads}
use Rattle.pb_journal.proofs.EntryLemmas.{rests_entries}
use Rattle.pb_journal.proofs.LawLemmas.{one_list}
use Rattle.pb_archive.specs.Archive.{Table, Archive, front, record_layout}
use Rattle.pb_archive.specs.Entry.{address_of, advance_bytes_max}
use Rattle.pb_archive.specs.Held.{HasArchive}
use Rattle.pb_archive.specs.Opened.{Register, OpenArchive, IsOpen, held_of}
use Rattle.pb_archive.specs.Plan.{Plan}
use Rattle.pb_archive.specs.declared.held.Held.{Held}
use Rattle.pb_archive.proofs.LeadsLemmas.{one_archive}
use Rattle.pb_archive.proofs.RegisterLemmas.{at_before}
use Rattle.pb_ask.specs.Listening.{Listening}
use Rattle.pb_bmp5.specs.Asking.{asked_mode}
use Rattle.pb_truth.specs.Asked.{HasContent, AsksFromAtMost}
use Rattle.pb_truth.specs.Honest.{EndsGoodPiece, Honest}
use Rattle.pb_truth.specs.Learning.{Known}
use Rattle.pb_truth.specs.Pairs.{AreGood}
use Rattle.pb_truth.proofs.HearingLemmas.{heard_sound}
use Rattle.pb_truth.proofs.KeepingLemmas.{rest_bytes, run_bytes}
use Rattle.pb_truth.proofs.LearningLemmas.{fragments_in}
use Rattle.pb_truth.proofs.PairLemmas.{good_of}
use Rattle.pb_truth.proofs.TableLemmas.{each_once, is_kept}
use Rattle.pb_collect.specs.Commands.{IsCommandOf}
use Rattle.pb_collect.specs.Heard.{IsAllowedIn, HasHeard}
use Rattle.pb_collect.specs.Kept.{KnowsTrue}
use Rattle.pb_collect.specs.Progress.{Progress, partial_bytes, Suits}
use Rattle.pb_collect.specs.Taking.{bytes_in, IsBrief, AreBrief, IsReady}
use Rattle.pb_collect.specs.declared.answer.Said.{Said}
use Rattle.pb_collect.specs.declared.question.CollectCommand.{CollectCommand}
use Rattle.pb_collect.proofs.KeptLemmas.{same_archive}
use Rattle.pb_collect.proofs.ProgressLemmas.{fits_known, question_low}
use Rattle.pb_collect.proofs.TakingLemmas.{table_at}

-- ---- fragments are brief

no_bytes : IsBytes []
no_bytes i = omega arith

length-rest : (f : SeenFragment) (l : List ℕ) → length (rest_of f l) ≤ length l
length-rest (whole first zero bytes) l = omega (arith, length-drop (length l - 1) l)
length-rest (whole first (suc n) bytes) l = omega arith
length-rest (part number offset bytes) l = omega arith

length-in : (table : ℕ) (f : SeenFragment) (l : List ℕ) → length (bytes_in f) ≤ length (fragment_bytes table f ++ l)
length-in table (whole first count bytes) l = omega (arith, length-append (fragment_bytes table (whole first count bytes)) l)
length-in table (part number offset bytes) l = omega (arith, length-append (fragment_bytes table (part number offset bytes)) l)

brief_one : (table : ℕ) (layout : Layout) (before : Option ℕ) (f : SeenFragment) (body rest : List ℕ) → Begins table layout before f body rest → IsBytes body → length body ≤ advance_bytes_max → IsBrief f
brief_one table layout before (whole first n bytes) body rest b fits few = record {
  bytes = run_bytes table layout before first n bytes body rest b fits;
  few = omega (arith, few, ap length b.leads.parts, length-in table (whole first n bytes) b.after);
}
brief_one table layout before (part number offset bytes) body rest b fits few = record {
  bytes = no_bytes;
  few = omega (arith, few, ap length b.leads.parts, length-in table (part number offset bytes) b.after);
}

all_brief : (table : ℕ) (layout : Layout) (before : Option ℕ) (fs : List SeenFragment) (last : ℕ) (body : List ℕ) → AreFragments table layout before fs last body → IsBytes body → length body ≤ advance_bytes_max → AreBrief fs
all_brief table layout before [] last body are fits few = tt
all_brief table layout before (f ∷ fs) last body are fits few = (
  brief_one table layout before f body are.0 are.1 fits few,
  all_brief table layout (Some (next_of f)) fs last are.0 are.2 (rest_bytes table layout before f body are.0 are.1 fits)
      (omega (arith, few, ap length are.1.leads.parts, ap length are.1.goes, length-rest f are.1.after, length-append (fragment_bytes table f) are.1.after)),
)

pub reply_brief : (table : ℕ) (layout : Layout) (reply : SeenReply) (message : List ℕ) → CollectReads table layout reply message → reply.resp ≡ 0 → IsBytes message → length message ≤ advance_bytes_max → AreBrief reply.fragments
reply_brief table layout reply message reads complete fits few =
    let are = fragments_in table layout reply.resp reply.more reply.fragments reads.body complete reads.has in
    all_brief table layout None reply.fragments are.0 reads.body are.1 (IsBytes-drop 3 (0x89 ∷ reply.tran ∷ reply.resp ∷ reads.body) (subst IsBytes reads.parts fits)) (omega (arith, few, ap length reads.parts))

-- ---- the table that a command is for

abbrev pub ContentEnds : Type 0
ContentEnds = (stream content : List ℕ) → HasContent stream content → (prefix rest : List ℕ) × (stream ≡ prefix ++ rest) × EndsGoodPiece prefix content

key_is : (station number signature : ℕ) (key : TableKey) → station ≡ key.station → number ≡ key.number → signature ≡ key.signature → let k : TableKey = record { station = station; number = number; signature = signature } in k ≡ key
key_is station number signature key a b c =
    let first : ℕ → TableKey = λ n. record { station = n; number = number; signature = signature } in
    let second : ℕ → TableKey = λ n. record { station = key.station; number = n; signature = signature } in
    let third : ℕ → TableKey = λ n. record { station = key.station; number = key.number; signature = n } in
    ap first a ∙ ap second b ∙ ap third c

module _ (o : OpenArchive) (now : View) (id : ℕ) (p : Progress) (opened : IsOpen o now) (ready : IsReady o id p) (c : CollectCommand) (of : IsCommandOf o id p c) where
  pub record IsAsked (a : Archive) (t : Table) : Type 0 where
    pub me : c.me ≡ t.me
    pub station : c.station ≡ t.key.station
    pub number : c.table.0 ≡ t.key.number
    pub signature : c.sig ≡ t.key.signature

  pub asked_at : (image : List ℕ) (a : Archive) (t : Table) → now.image image → HasArchive image a → slice_get a.tables id ≡ Some t → IsAsked a t
  asked_at image a t is has at =
      let stands = opened.stands image (opened.settled image is) in
      let here : HasArchive image stands.archive = record { bodies = stands.bodies; entries = rests_entries o.journal.gate stands.bodies image stands.rests; archive = stands.entries } in
      let same = same_archive image a stands.archive has here in
      let tables : o.tables ≡ map held_of stands.archive.tables = ap (λ (r : Register). r.tables) stands.same in
      let x = at_before held_of stands.archive.tables id of.held (subst (λ (l : List Held). slice_get l id ≡ Some of.held) tables of.there) in
      let one : x.0 ≡ t = same_Some x.0 t (sym x.1 ∙ ap (λ (y : Archive). slice_get y.tables id) (sym same) ∙ at) in
      let held : of.held ≡ held_of t = x.2 ∙ ap held_of one in
      let plan : o.plan ≡ a.plan = ap (λ (r : Register). r.plan) stands.same ∙ ap (λ (y : Archive). y.plan) (sym same) in
      let kept = (is_kept has.bodies a has.archive).each id t at in
      record {
        me = of.to.me ∙ ap (λ (q : Plan). q.me) plan ∙ sym kept.me;
        station = of.to.station ∙ ap (λ (q : Plan). address_of (slice_get q.stations of.held.station)) plan ∙ ap (λ (h : Held). address_of (slice_get a.plan.stations h.station)) held ∙ sym kept.address;
        number = ap (λ (n : TableNo). n.0) of.to.table ∙ ap (λ (h : Held). h.number.0) held;
        signature = of.to.sig ∙ ap (λ (h : Held). h.table.signature) held ∙ sym kept.signature;
      }

  -- some table is there
  table_there : (image : List ℕ) (a : Archive) → now.image image → HasArchive image a → (t : Table) × (slice_get a.tables id ≡ Some t)
  table_there image a is has =
      let stands = opened.stands image (opened.settled image is) in
      let here : HasArchive image stands.archive = record { bodies = stands.bodies; entries = rests_entries o.journal.gate stands.bodies image stands.rests; archive = stands.entries } in
      let same = same_archive image a stands.archive has here in
      let tables : o.tables ≡ map held_of stands.archive.tables = ap (λ (r : Register). r.tables) stands.same in
      let x = at_before held_of stands.archive.tables id of.held (subst (λ (l : List Held). slice_get l id ≡ Some of.held) tables of.there) in
      (x.0, ap (λ (y : Archive). slice_get y.tables id) same ∙ x.1)

  pub allowed_in : IsAllowedIn now c
  allowed_in image a is has =
      let t = table_there image a is has in
      let asked = asked_at image a t.0 is has t.1 in
      let far = table_at o now id p opened ready image a t.0 is has t.1 in
      record {
        id = id;
        table = t.0;
        there = t.1;
        me = asked.me;
        key = key_is c.station c.table.0 c.sig t.0.key asked.station asked.number asked.signature;
        below = subst (λ m. AsksFromAtMost (front t.0) (asked_mode m)) (sym of.to.mode) (question_low p (record { table = t.0; partial = partial_bytes p }) far);
      }

  -- what is known of the table once the answer is taken in
  pub knows_heard : ContentEnds → (said : Said) (l : Listening) (reply : SeenReply) → AreGood now → ((w : World) (image : List ℕ) (a : Archive) → now.link.world ≡ Some w → now.image image → HasArchive image a → Honest w a)
      → KnowsTrue now id (partial_bytes p) [] → HasHeard c said l now.link → CollectReads c.table.0 c.layout reply (drop 8 l.ear.content) → reply.resp ≡ 0 → Suits c.mode reply → KnowsTrue now id (partial_bytes p) reply.fragments
  knows_heard ends said l reply good honest knows h reads complete fits w image a t world is has at =
      let k : Known = record { table = t; partial = partial_bytes p } in
      let asked = asked_at image a t is has at in
      let far = table_at o now id p opened ready image a t is has at in
      let of_image = good_of one_list one_archive w image a (good w image world is) has in
      heard_sound ends w a id k h.packet reply (honest w image a world is has) of_image.1 (each_once has.bodies a has.archive) at
      (knows w image a t world is has at) (h.heard w world)
      (record {
        src = h.src ∙ asked.station;
        dst = h.dst ∙ asked.me;
        proto = h.proto;
        reads = subst (λ m. CollectReads t.key.number (record_layout t.definition) reply m) (sym h.message)
            (subst (λ (lay : Layout). CollectReads t.key.number lay reply (drop 8 l.ear.content)) (of.to.layout ∙ far.layout)
            (subst (λ n. CollectReads n c.layout reply (drop 8 l.ear.content)) asked.number reads));
        complete = complete;
      })
      (fits_known p k reply far (subst (λ m. Suits m reply) of.to.mode fits) complete)
