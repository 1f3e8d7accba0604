-- What a station answers to a collect command is a full reply.
use Rattle.std.proofs.Common.{◌≡◌, ℕ, zero, suc, ◌+◌, ◌-◌, ◌^◌, ◌≤◌, ◌<◌, Bool, true, false, not, eqb, List, [], ◌∷◌, ◌++◌, length, drop, slice_get, Option, Some, None, refl, sym, ap, ap₂, subst, ◌∙◌, length-drop, length-take, arith}
use Rattle.std.specs.List.{AllByRecursion, Contains, prefix_len}
use Rattle.std.proofs.lemmas.Bool.{eq-eqb, ne_eqb, eqb-true}
use Rattle.std.proofs.lemmas.List.Sums.{prefix_len-le-length}
use Rattle.pb_base.specs.declared.nsec.Nsec.{Nsec}
use Rattle.pb_base.specs.declared.layout.Layout.{Layout}
use Rattle.pb_base.specs.World.{StoredRecord, TableDefinition}
use Rattle.pb_base.specs.History.{TableKey, History}
use Rattle.pb_base.specs.Request as asked
use Rattle.pb_base.specs.Request.{Request}
use Rattle.pb_layout.specs.Layout.{AllFit}
use Rattle.pb_layout.proofs.LayoutLaws.{reading-only}
use Rattle.pb_packet.specs.declared.headers.Header.{Header}
use Rattle.pb_bmp5.specs.declared.message.Mode.{Mode}
use Rattle.pb_bmp5.specs.declared.message.Mode.TheVariants as mode
use Rattle.pb_bmp5.specs.Message as bmp5
use Rattle.pb_bmp5.specs.Message.{CollectKeys, collect_keys}
use Rattle.pb_bmp5.specs.TrueReply.{Stage, IsStage, run_of, is_between, held, skipped}
use Rattle.pb_ring.specs.Ring.{IsRecord}
use Rattle.pb_station.specs.State.{KeptTable, KeptStation, Table, State, StandsFor, TablesStandFor, TableStandsFor, stage_of}
use Rattle.pb_bmp5.specs.Asking.{asked_mode}
use Rattle.pb_station.specs.Collect.{Collected, Refused, Sends, answer_mode, numbered, of_table, reply_of, body}
use Rattle.pb_station.specs.Answer.{Answer, Said, InBmp5, heard, to_bmp5, stays, answer_of, answer_collect, is_wrong, broadcast}
use Rattle.pb_station.specs.Truth.{Tells, TellsTable, IsCollect, request_of, IsPresent, AnswersFully}
use Rattle.pb_station.proofs.TruthLemmas.{IsSound, IsAllGood, told_table, part-good, run-good}

-- ---- the run that a mode asks for is held

within-held : (from to : Nsec) (rs : List StoredRecord) → skipped from to rs + prefix_len (is_between from to) (drop (skipped from to rs) rs) ≤ length rs
within-held from to rs =
    let first = prefix_len-le-length (λ r. not (is_between from to r)) rs in
    let many = prefix_len-le-length (is_between from to) (drop (skipped from to rs) rs) in
    omega (arith, first, many, length-drop (skipped from to rs) rs)

run-low : (m : asked.Mode) (h : History) (stage : Stage) → stage.oldest ≤ (run_of m h stage).from
run-low asked.All h stage = omega arith
run-low (asked.From n) h stage = omega arith
run-low (asked.Newest n) h stage = omega arith
run-low (asked.Range from to) h stage = omega arith
run-low (asked.Times from to) h stage = omega arith
run-low (asked.Part n offset) h stage = omega arith

run-high : (m : asked.Mode) (h : History) (stage : Stage) → stage.oldest ≤ stage.next → (run_of m h stage).to ≤ stage.next
run-high asked.All h stage le = omega arith
run-high (asked.From n) h stage le = omega arith
run-high (asked.Newest n) h stage le = omega arith
run-high (asked.Range from to) h stage le = omega arith
run-high (asked.Times from to) h stage le =
    omega (arith, le, within-held from to (held h stage), length-take (stage.next - stage.oldest) (drop stage.oldest h.records))
run-high (asked.Part n offset) h stage le = omega arith

-- ---- each mode

mode-good : (h : History) (d : TableDefinition) (stood : Contains h.definitions d) (sig cap me : ℕ) (key : TableKey) (tran : ℕ) (m : Mode) → IsSound (told_table h d stood sig cap) → IsStage h (stage_of (told_table h d stood sig cap))
    → key.number < 2 ^ 16 → IsAllGood h d stood sig cap (record { me = me; table = key; tran = tran; mode = asked_mode m }) tran (answer_mode (told_table h d stood sig cap) m)
mode-good h d stood sig cap me key tran mode.All sound lies number =
    run-good h d stood sig cap (record { me = me; table = key; tran = tran; mode = asked.All }) tran sound lies (λ reply a. a) number (run-low asked.All h (stage_of (told_table h d stood sig cap))) (run-high asked.All h (stage_of (told_table h d stood sig cap)) (omega arith))
mode-good h d stood sig cap me key tran (mode.From n) sound lies number =
    run-good h d stood sig cap (record { me = me; table = key; tran = tran; mode = asked.From n }) tran sound lies (λ reply a. a) number (run-low (asked.From n) h (stage_of (told_table h d stood sig cap))) (run-high (asked.From n) h (stage_of (told_table h d stood sig cap)) (omega arith))
mode-good h d stood sig cap me key tran (mode.Newest n) sound lies number =
    run-good h d stood sig cap (record { me = me; table = key; tran = tran; mode = asked.Newest n }) tran sound lies (λ reply a. a) number (run-low (asked.Newest n) h (stage_of (told_table h d stood sig cap))) (run-high (asked.Newest n) h (stage_of (told_table h d stood sig cap)) (omega arith))
mode-good h d stood sig cap me key tran (mode.Range from to) sound lies number =
    run-good h d stood sig cap (record { me = me; table = key; tran = tran; mode = asked.Range from to }) tran sound lies (λ reply a. a) number (run-low (asked.Range from to) h (stage_of (told_table h d stood sig cap))) (run-high (asked.Range from to) h (stage_of (told_table h d stood sig cap)) (omega arith))
mode-good h d stood sig cap me key tran (mode.Times from to) sound lies number =
    run-good h d stood sig cap (record { me = me; table = key; tran = tran; mode = asked.Times from to }) tran sound lies (λ reply a. a) number (run-low (asked.Times from to) h (stage_of (told_table h d stood sig cap))) (run-high (asked.Times from to) h (stage_of (told_table h d stood sig cap)) (omega arith))
mode-good h d stood sig cap me key tran (mode.Part n offset) sound lies number =
    part-good h d stood sig cap me key tran n offset sound lies number

-- ---- a table that the history tells

told-is : (h : History) (t : Table) (tells : Tells h t) → told_table h tells.definition tells.stood t.signature t.capacity ≡ t
told-is h t tells =
    ap₂ (λ (l : Layout) (rs : List StoredRecord). record { signature = t.signature; layout = l; capacity = t.capacity; stored = rs }) tells.layout tells.records

lies-now : (h : History) (t : Table) (tells : Tells h t) → IsStage h (stage_of (told_table h tells.definition tells.stood t.signature t.capacity))
lies-now h t tells = record {
  held = omega arith;
  stored = omega arith;
  overwritten = subst (λ (u : Table). (stage_of u).oldest ≤ h.oldest) (sym (told-is h t tells)) tells.oldest;
}

table-good : (h : History) (t : Table) (tells : Tells h t) (me : ℕ) (key : TableKey) (tran : ℕ) (m : Mode) → IsSound t → key.number < 2 ^ 16
    → IsAllGood h tells.definition tells.stood t.signature t.capacity (record { me = me; table = key; tran = tran; mode = asked_mode m }) tran (answer_mode t m)
table-good h t tells me key tran m sound number =
    subst (λ (u : Table). IsAllGood h tells.definition tells.stood t.signature t.capacity (record { me = me; table = key; tran = tran; mode = asked_mode m }) tran (answer_mode u m)) (told-is h t tells)
    (mode-good h tells.definition tells.stood t.signature t.capacity me key tran m (subst IsSound (sym (told-is h t tells)) sound) (lies-now h t tells) number)

sound-table : (k : KeptTable) (h : History) (t : Table) → TableStandsFor k t → Tells h t → IsSound t
sound-table k h t stands tells = record {
  short = stands.short;
  each = subst (λ n. AllByRecursion (IsRecord n) t.stored) stands.record_len stands.stored.each;
  few = stands.stored.few;
  interval = stands.interval;
  regular = tells.regular;
}

record Stood (t : Table) : Type 0 where
  kept : KeptTable
  stands : TableStandsFor kept t

stood-at : (kept : List KeptTable) (tables : List Table) (n : ℕ) (t : Table) → TablesStandFor kept tables → slice_get tables n ≡ Some t → Stood t
stood-at [] [] n t all e = absurd cc
stood-at [] (y ∷ tables) n t all e = absurd all
stood-at (x ∷ kept) [] n t all e = absurd all
stood-at (x ∷ kept) (y ∷ tables) zero t all e = let same : y ≡ t = cc in record { kept = x; stands = subst (TableStandsFor x) same all.0 }
stood-at (x ∷ kept) (y ∷ tables) (suc n) t all e = stood-at kept tables n t all.1 e

stood-numbered : (kept : List KeptTable) (tables : List Table) (n : ℕ) (t : Table) → TablesStandFor kept tables → numbered tables n ≡ Some t → Stood t
stood-numbered kept tables zero t all e = absurd cc
stood-numbered kept tables (suc n) t all e = stood-at kept tables n t all e

-- ---- the answer is full

module _ (s : State) (header : Header) (tran : ℕ) (c : CollectKeys) (history : TableKey → History) where
  refused-full : (resp : ℕ) (answer : Answer) → 0 < resp → answer.says ≡ InBmp5 (bmp5.CollectReply tran resp []) → AnswersFully s header tran c history answer
  refused-full zero answer some says = absurd (omega (arith, some))
  refused-full (suc resp) answer some says = record {
    resp = suc resp;
    bytes = [];
    says = says;
    full = record {
      is_true = record { src = refl; dst = refl; proto = refl; resp = suc resp; body = []; parts = refl; says = λ e. absurd cc };
      full = λ e. absurd cc;
    };
    present = λ e. absurd cc;
  }

  abbrev key : TableKey
  key = (request_of header tran c).table

  all-full : (t : Table) (tells : Tells (history key) t) (x : Collected) (answer : Answer) → numbered s.tables c.table ≡ Some t
      → IsAllGood (history key) tells.definition tells.stood t.signature t.capacity (request_of header tran c) tran x
      → answer.says ≡ InBmp5 (reply_of tran c.table x) → AnswersFully s header tran c history answer
  all-full t tells (Refused resp) answer at good says = refused-full resp answer good says
  all-full t tells (Sends fs more) answer at good says = record {
    resp = 0;
    bytes = body c.table fs more;
    says = says;
    full = record {
      is_true = record { src = refl; dst = refl; proto = refl; resp = 0; body = body c.table fs more ++ []; parts = refl; says = λ e. good.says };
      full = λ e. good.full;
    };
    present = λ e. subst (λ (o : Option Table). IsPresent o good.says.answer.stage) (sym at) (good.present ∙ ap stage_of (told-is (history key) t tells));
  }

  abbrev answered : Said → Answer
  answered says = stays s.device says

  by-table : (kept : KeptStation) → StandsFor kept s → c.table < 2 ^ 16 → (o : Option Table) → numbered s.tables c.table ≡ o → TellsTable o c.sig (history key)
      → AnswersFully s header tran c history (answered (InBmp5 (reply_of tran c.table (of_table o c))))
  by-table kept stands number None at tells = refused-full 7 _ (omega arith) refl
  by-table kept stands number (Some t) at tells = by (eqb t.signature c.sig) (eqb (length c.fields) 0) refl refl
    where
      by : (a b : Bool) → eqb t.signature c.sig ≡ a → eqb (length c.fields) 0 ≡ b → AnswersFully s header tran c history (answered (InBmp5 (reply_of tran c.table (of_table (Some t) c))))
      by false b ea eb = rw ea (refused-full 7 _ (omega arith) refl)
      by true false ea eb = rw (ea, eb) (refused-full 2 _ (omega arith) refl)
      by true true ea eb =
          let told = tells (eqb-true t.signature c.sig ea) in
          let x = stood-numbered kept.tables s.tables c.table t stands.tables at in
          rw (ea, eb) (all-full t told (answer_mode t c.mode) (answered (InBmp5 (reply_of tran c.table (answer_mode t c.mode)))) at
          (table-good (history key) t told header.src key tran c.mode (sound-table x.kept (history key) t x.stands told) number) refl)

  collect-full : (kept : KeptStation) → StandsFor kept s → c.table < 2 ^ 16 → TellsTable (numbered s.tables c.table) c.sig (history key)
      → AnswersFully s header tran c history (answer_collect s tran c)
  collect-full kept stands number tells = by (is_wrong s.device c.code) refl
    where
      by : (b : Bool) → is_wrong s.device c.code ≡ b → AnswersFully s header tran c history (answer_collect s tran c)
      by true e = rw e (refused-full 1 _ (omega arith) refl)
      by false e = rw e (by-table kept stands number (numbered s.tables c.table) refl tells)

-- ---- the packet is heard as the command

table-fits : (tran code table sig : ℕ) (m : Mode) (fields : List ℕ) → AllFit bmp5.layout (collect_keys code m table sig fields tran) → table < 2 ^ 16
table-fits tran code table sig mode.All fields fits = fits.1.1.1.1.0
table-fits tran code table sig (mode.From n) fields fits = fits.1.1.1.1.0
table-fits tran code table sig (mode.Newest n) fields fits = fits.1.1.1.1.0
table-fits tran code table sig (mode.Range from to) fields fits = fits.1.1.1.1.0
table-fits tran code table sig (mode.Times from to) fields fits = fits.1.1.1.1.0
table-fits tran code table sig (mode.Part n offset) fields fits = fits.1.1.1.1.0

collect-heard : (s : State) (header : Header) (message : List ℕ) (tran : ℕ) (c : CollectKeys) → IsCollect s header message tran c → answer_of s header message ≡ answer_collect s tran c
collect-heard s header message tran c is =
    let e1 = ne_eqb header.dst broadcast is.alone in
    let e2 = eq-eqb header.dst s.device.address is.to in
    let e3 : eqb header.proto 0 ≡ false = ap (λ (p : ℕ). eqb p 0) is.proto in
    let e4 : eqb header.proto 1 ≡ true = ap (λ (p : ℕ). eqb p 1) is.proto in
    let e5 = reading-only bmp5.layout bmp5.keys message (bmp5.Collect tran c) is.reads in
    rw (e1, e2, e3, e4) (ap (heard s.device header message (to_bmp5 s)) e5)

pub answered-fully : (kept : KeptStation) (s : State) (header : Header) (message : List ℕ) (tran : ℕ) (c : CollectKeys) (history : TableKey → History)
    → StandsFor kept s → IsCollect s header message tran c → TellsTable (numbered s.tables c.table) c.sig (history (request_of header tran c).table)
    → AnswersFully s header tran c history (answer_of s header message)
answered-fully kept s header message tran c history stands is tells =
    subst (AnswersFully s header tran c history) (sym (collect-heard s header message tran c is))
    (collect-full s header tran c history kept stands (table-fits tran c.code c.table c.sig c.mode c.fields is.reads.fits) tells)
