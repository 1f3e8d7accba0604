-- What is sent to a collect command is true, and full.
use Rattle.std.proofs.Common.{◌≡◌, ◌⊎◌, inl, inr, ℕ, zero, suc, ◌+◌, ◌-◌, ◌^◌, ◌≤◌, ◌<◌, min, Bool, true, false, cond, not, ◌&&◌, eqb, ltb, leb, List, [], ◌∷◌, ◌++◌, length, take, drop, slice_get, Option, Some, None, refl, sym, ap, ◌∙◌, append-nil, length-drop, length-take, arith}
use Rattle.std.specs.List.{AllByRecursion, Contains}
use Rattle.std.proofs.lemmas.Bool.{ltb-true, ltb-false, le-ltb, leb-true, leb-false, eqb-true, eq-eqb, cases_lt, and_parts, and_from, not-false, not_from_true}
use Rattle.std.proofs.lemmas.List.{take-append-drop}
use Rattle.pb_base.specs.declared.layout.Layout.{Layout}
use Rattle.pb_base.specs.Time.{IsNormal}
use Rattle.pb_base.specs.Record.{content, content_len, run_len, cut_records}
use Rattle.pb_base.specs.World.{StoredRecord, TableDefinition}
use Rattle.pb_base.specs.History.{TableKey, History}
use Rattle.pb_base.specs.Request as asked
use Rattle.pb_base.specs.Request.{Request}
use Rattle.pb_bmp5.specs.CollectReply.{SeenFragment, whole, part, SeenReply, fragment_bytes, FitsFields, HasItsBytes, IsWellFormed, MayFollow, rest_of, CollectReads}
use Rattle.pb_bmp5.specs.TrueReply.{Stage, IsStage, Run, run_of, AnswersRun, Answers, IsTrueOf, IsFull}
use Rattle.pb_ring.specs.Ring.{IsRecord, last_next}
use Rattle.pb_station.specs.State.{Table, stage_of}
use Rattle.pb_station.specs.Collect.{Collected, Refused, Sends, answer_run, answer_part, room_of, run_bytes, content_in, body}
use Rattle.pb_station.specs.Truth.{AreRegular}
use Rattle.pb_station.proofs.RunLemmas.{all-drop, all-take, content-len}
use Rattle.pb_station.proofs.CutLemmas.{run-cut}
use Rattle.pb_station.proofs.SentLemmas.{run-len, room-is, run-later, run-timed}
use Rattle.pb_station.proofs.TimesLemmas.{IsLater}

-- what holds of each table that a station stands for
pub record IsSound (t : Table) : Type 0 where
  pub short : t.layout.record_len ≤ 16384
  pub each : AllByRecursion (IsRecord t.layout.record_len) t.stored
  pub few : length t.stored ≤ last_next
  pub interval : IsNormal t.layout.interval
  pub regular : t.layout.event ≡ false → AreRegular t.layout.interval t.stored

-- ---- a reply of one fragment, and one of none

flag-says : (more : Bool) → more ≡ not (eqb (cond more 1 0) 0)
flag-says true = refl
flag-says false = refl

reads-one : (tran table : ℕ) (layout : Layout) (f : SeenFragment) (more : Bool) → table < 2 ^ 16 → FitsFields f → HasItsBytes layout f (cond more 1 0 ∷ []) → MayFollow f (cond more 1 0 ∷ [])
    → IsWellFormed layout None f → cond more 1 0 ∷ [] ≡ rest_of f (cond more 1 0 ∷ [])
    → CollectReads table layout (record { tran = tran; resp = 0; more = more; fragments = f ∷ [] }) (0x89 ∷ tran ∷ 0 ∷ (body table (f ∷ []) more ++ []))
reads-one tran table layout f more number fits its ends formed goes = record {
  body = fragment_bytes table f ++ cond more 1 0 ∷ [];
  parts = ap (λ (x : List ℕ). 0x89 ∷ tran ∷ 0 ∷ x) (append-nil (body table (f ∷ []) more) ∙ ap (λ (x : List ℕ). x ++ cond more 1 0 ∷ []) (append-nil (fragment_bytes table f)));
  has = (cond more 1 0, (cond more 1 0 ∷ [], record { after = cond more 1 0 ∷ []; leads = record { parts = refl; number = number; fits = fits; its_bytes = its; some = omega arith }; ends = ends; formed = formed; goes = goes }, refl), flag-says more);
}

reads-none : (tran table : ℕ) (layout : Layout) (more : Bool) → CollectReads table layout (record { tran = tran; resp = 0; more = more; fragments = [] }) (0x89 ∷ tran ∷ 0 ∷ (body table [] more ++ []))
reads-none tran table layout more = record { body = cond more 1 0 ∷ []; parts = refl; has = (cond more 1 0, refl, flag-says more) }

-- ---- one record that is held

record Held (all : List StoredRecord) (n len : ℕ) : Type 0 where
  r : StoredRecord
  is : slice_get all n ≡ Some r
  fits : IsRecord len r
  size : length (content r) ≡ 8 + len

held-at : (all : List StoredRecord) (n len : ℕ) → AllByRecursion (IsRecord len) all → n < length all → Held all n len
held-at [] n len each lt = absurd (omega (arith, lt))
held-at (r ∷ all) zero len each lt = record { r = r; is = refl; fits = each.0; size = content-len len r each.0.0 }
held-at (r ∷ all) (suc n) len each lt =
    let h = held-at all n len each.1 (omega (arith, lt)) in
    record { r = h.r; is = h.is; fits = h.fits; size = h.size }

-- ---- a table of a history

module _ (h : History) (d : TableDefinition) (stood : Contains h.definitions d) (sig cap : ℕ) where
  abbrev pub told_table : Table
  told_table = record { signature = sig; layout = d.layout; capacity = cap; stored = h.records }

  -- what is sent is true and full, at the table's present stage
  pub record IsGood (r : Request) (bytes : List ℕ) : Type 0 where
    pub says : IsTrueOf r bytes h
    pub full : IsFull says
    pub present : says.answer.stage ≡ stage_of told_table

  abbrev pub stage_now : Stage
  stage_now = stage_of told_table

  abbrev pub run_for : Request → Run
  run_for r = run_of r.mode h stage_now

  -- the run's answers answer the mode
  abbrev pub IsRunMode : Request → Type 0
  IsRunMode r = (reply : SeenReply) → AnswersRun d.layout (run_for r) reply → Answers d.layout r.mode h stage_now reply

  -- ---- a run without records

  pub good-empty : (r : Request) (tran : ℕ) → IsStage h stage_now → IsRunMode r → (run_for r).to ≤ (run_for r).from
      → IsGood r (0x89 ∷ tran ∷ 0 ∷ (body r.table.number [] false ++ []))
  good-empty r tran lies mode none = record {
    says = record {
      definition = d;
      stood = stood;
      reply = record { tran = tran; resp = 0; more = false; fragments = [] };
      reads = reads-none tran r.table.number d.layout false;
      answer = record {
        stage = stage_now;
        lies = lies;
        holds = tt;
        answers = mode _ (record { begins = tt; below = tt; ends = (λ e. inr (tt, none), λ ends. refl) });
      };
    };
    full = record { some = λ lt nothing. omega (arith, lt, none); uncut = λ short. tt; long = tt };
    present = refl;
  }

  -- ---- the beginning of a long content

  pub good-long : (r : Request) (tran : ℕ) → IsSound told_table → IsStage h stage_now → IsRunMode r → r.table.number < 2 ^ 16 → 960 < content_len d.layout
      → (run_for r).from < (run_for r).to → stage_now.oldest ≤ (run_for r).from → (run_for r).to ≤ length h.records
      → IsGood r (0x89 ∷ tran ∷ 0 ∷ (body r.table.number (part (run_for r).from 0 (take 960 (content_in (slice_get h.records (run_for r).from))) ∷ []) true ++ []))
  good-long r tran sound lies mode number long lt low high =
      let from = (run_for r).from in
      let x = held-at h.records from d.layout.record_len sound.each (omega (arith, lt, high)) in
      let bytes = take 960 (content_in (slice_get h.records from)) in
      let same : bytes ≡ take 960 (content x.r) = ap (λ (o : Option StoredRecord). take 960 (content_in o)) x.is in
      let size : length bytes ≡ 960 = ap length same ∙ omega (arith, length-take 960 (content x.r), x.size, long) in
      record {
        says = record {
          definition = d;
          stood = stood;
          reply = record { tran = tran; resp = 0; more = true; fragments = part from 0 bytes ∷ [] };
          reads = reads-one tran r.table.number d.layout (part from 0 bytes) true number (omega (arith, lt, high, sound.few), omega arith) refl tt
              (record { goes_on = tt; of_layout = (omega (arith, size), omega (arith, size, long)); numbered = omega (arith, lt, high, sound.few) }) refl;
          answer = record {
            stage = stage_now;
            lies = lies;
            holds = (
              record {
                not_lost = low;
                there = omega (arith, lt, high);
                stored = x.r;
                is = x.is;
                sized = x.fits.0;
                before = [];
                after = drop 960 (content x.r);
                parts = sym (ap (λ (y : List ℕ). y ++ drop 960 (content x.r)) same ∙ take-append-drop 960 (content x.r));
                place = refl;
              },
              tt,
            );
            answers = mode _ (record {
              begins = (refl, refl);
              below = (lt, tt);
              ends = (
                λ e. absurd cc,
                λ ends. elim ends [
                  | inl e ↦ elim e [
                    | inl is_end ↦ absurd (omega (arith, is_end.0.1, size, long))
                    | inr nothing ↦ absurd nothing
                  ]
                  | inr none ↦ absurd none.0
                ],
              );
            });
          };
        };
        full = record { some = λ l nothing. nothing; uncut = λ short. absurd (omega (arith, short, long)); long = (inl (omega (arith, size)), tt) };
        present = refl;
      }

  -- ---- whole records

  pub good-whole : (r : Request) (tran n : ℕ) → IsSound told_table → IsStage h stage_now → IsRunMode r → r.table.number < 2 ^ 16
      → suc n ≤ 32767 → stage_now.oldest ≤ (run_for r).from → (run_for r).from + suc n ≤ (run_for r).to → (run_for r).to ≤ length h.records
      → IsGood r (0x89 ∷ tran ∷ 0 ∷ (body r.table.number (whole (run_for r).from (suc n) (run_bytes d.layout (take (suc n) (drop (run_for r).from h.records))) ∷ []) (ltb ((run_for r).from + suc n) (run_for r).to) ++ []))
  good-whole r tran n sound lies mode number few low within high =
      let from = (run_for r).from in
      let to = (run_for r).to in
      let all = h.records in
      let layout = d.layout in
      let rs = take (suc n) (drop from all) in
      let bytes = run_bytes layout rs in
      let more = ltb (from + suc n) to in
      let each : AllByRecursion (IsRecord layout.record_len) rs = all-take (IsRecord layout.record_len) (suc n) (drop from all) (all-drop (IsRecord layout.record_len) from all sound.each) in
      let many : length rs ≡ suc n = omega (arith, length-take (suc n) (drop from all), length-drop from all, within, high) in
      let later : layout.event ≡ false → (first : StoredRecord) → slice_get rs 0 ≡ Some first → (k : ℕ) (q : StoredRecord) → slice_get rs k ≡ Some q → IsLater first.time layout.interval q.time k =
      λ event. run-later layout all from (suc n) sound.each sound.interval (sound.regular event) in
      record {
        says = record {
          definition = d;
          stood = stood;
          reply = record { tran = tran; resp = 0; more = more; fragments = whole from (suc n) bytes ∷ [] };
          reads = reads-one tran r.table.number layout (whole from (suc n) bytes) more number (omega (arith, within, high, sound.few), omega (arith, few)) (run-len layout rs each ∙ ap (run_len layout) many) tt
              (record {
                goes_on = tt;
                of_layout = λ event k lt. run-timed layout rs event each (later event) k (omega (arith, lt, many));
                numbered = omega (arith, within, high, sound.few);
              }) refl;
          answer = record {
            stage = stage_now;
            lies = lies;
            holds = (
              record {
                not_lost = low;
                there = omega (arith, within, high);
                same = ap (λ (k : ℕ). cut_records layout k bytes) (sym many) ∙ run-cut layout rs each later;
              },
              tt,
            );
            answers = mode _ (record {
              begins = refl;
              below = (within, tt);
              ends = (
                λ e. let le = ltb-false (from + suc n) to e in inl (inl (omega (arith, le, within), tt)),
                λ ends. elim ends [
                  | inl e ↦ elim e [
                    | inl is_end ↦ le-ltb (from + suc n) to (omega (arith, is_end.0))
                    | inr nothing ↦ absurd nothing
                  ]
                  | inr none ↦ absurd none.0
                ],
              );
            });
          };
        };
        full = record { some = λ lt nothing. nothing; uncut = λ short. (tt, tt); long = (tt, tt) };
        present = refl;
      }

  -- ---- a part that was asked for

  abbrev pub part_request : (me : ℕ) → TableKey → (tran number offset : ℕ) → Request
  part_request me key tran number offset = record { me = me; table = key; tran = tran; mode = asked.Part number offset }

  good-lost : (me : ℕ) (key : TableKey) (tran number offset : ℕ) → IsStage h stage_now → number < stage_now.oldest
      → IsGood (part_request me key tran number offset) (0x89 ∷ tran ∷ 0 ∷ (body key.number [] true ++ []))
  good-lost me key tran number offset lies lost = record {
    says = record {
      definition = d;
      stood = stood;
      reply = record { tran = tran; resp = 0; more = true; fragments = [] };
      reads = reads-none tran key.number d.layout true;
      answer = record { stage = stage_now; lies = lies; holds = tt; answers = inr (tt, lost) };
    };
    full = record { some = λ lt nothing. omega (arith, lt, lost); uncut = λ short. tt; long = tt };
    present = refl;
  }

  good-not-yet : (me : ℕ) (key : TableKey) (tran number offset : ℕ) → IsStage h stage_now → stage_now.next ≤ number
      → IsGood (part_request me key tran number offset) (0x89 ∷ tran ∷ 0 ∷ (body key.number [] false ++ []))
  good-not-yet me key tran number offset lies later = record {
    says = record {
      definition = d;
      stood = stood;
      reply = record { tran = tran; resp = 0; more = false; fragments = [] };
      reads = reads-none tran key.number d.layout false;
      answer = record { stage = stage_now; lies = lies; holds = tt; answers = inr (tt, later) };
    };
    full = record { some = λ lt nothing. omega (arith, lt, later); uncut = λ short. tt; long = tt };
    present = refl;
  }

  many-or-all : (n k c : ℕ) → n ≡ min 960 (c - k) → k < c → (256 ≤ n) ⊎ (k + n ≡ c)
  many-or-all n k c e lt = elim (cases_lt 959 (c - k)) [
    | inl big ↦ inl (omega (arith, e, big))
    | inr small ↦ inr (omega (arith, e, small, lt))
  ]

  good-part : (me : ℕ) (key : TableKey) (tran number offset : ℕ) → IsSound told_table → IsStage h stage_now → key.number < 2 ^ 16
      → stage_now.oldest ≤ number → number < stage_now.next → offset < content_len d.layout
      → IsGood (part_request me key tran number offset) (0x89 ∷ tran ∷ 0 ∷ (body key.number (part number offset (take 960 (drop offset (content_in (slice_get h.records number)))) ∷ [])
      (not (eqb (number + 1) stage_now.next && eqb (offset + length (take 960 (drop offset (content_in (slice_get h.records number))))) (content_len d.layout))) ++ []))
  good-part me key tran number offset sound lies is_number low high place =
      let x = held-at h.records number d.layout.record_len sound.each high in
      let bytes = take 960 (drop offset (content_in (slice_get h.records number))) in
      let c = content_len d.layout in
      let last = eqb (number + 1) stage_now.next && eqb (offset + length bytes) c in
      let same : bytes ≡ take 960 (drop offset (content x.r)) = ap (λ (o : Option StoredRecord). take 960 (drop offset (content_in o))) x.is in
      let size : length bytes ≡ min 960 (c - offset) = ap length same ∙ omega (arith, length-take 960 (drop offset (content x.r)), length-drop offset (content x.r), x.size) in
      record {
        says = record {
          definition = d;
          stood = stood;
          reply = record { tran = tran; resp = 0; more = not last; fragments = part number offset bytes ∷ [] };
          reads = reads-one tran key.number d.layout (part number offset bytes) (not last) is_number (omega (arith, high, sound.few), omega (arith, place, sound.short)) refl tt
              (record { goes_on = tt; of_layout = (omega (arith, size, place), omega (arith, size, place)); numbered = omega (arith, high, sound.few) }) refl;
          answer = record {
            stage = stage_now;
            lies = lies;
            holds = (
              record {
                not_lost = low;
                there = high;
                stored = x.r;
                is = x.is;
                sized = x.fits.0;
                before = take offset (content x.r);
                after = drop 960 (drop offset (content x.r));
                parts = sym (take-append-drop offset (content x.r))
                    ∙ ap (λ (y : List ℕ). take offset (content x.r) ++ y)
                    (sym (take-append-drop 960 (drop offset (content x.r))) ∙ ap (λ (y : List ℕ). y ++ drop 960 (drop offset (content x.r))) (sym same));
                place = omega (arith, length-take offset (content x.r), x.size, place);
              },
              tt,
            );
            answers = inl (record {
              bytes = bytes;
              one = refl;
              ends = (
                λ e. let both = and_parts (eqb (number + 1) stage_now.next) (eqb (offset + length bytes) c) (not-false last e) in (eqb-true (number + 1) stage_now.next both.0, eqb-true (offset + length bytes) c both.1),
                λ ends. not_from_true last (and_from (eqb (number + 1) stage_now.next) (eqb (offset + length bytes) c) (eq-eqb (number + 1) stage_now.next ends.0) (eq-eqb (offset + length bytes) c ends.1)),
              );
            });
          };
        };
        full = record {
          some = λ lt nothing. nothing;
          uncut = λ short. (omega (arith, size, short, place), tt);
          long = (many-or-all (length bytes) offset c size place, tt);
        };
        present = refl;
      }

  -- ---- each answer

  abbrev pub IsAllGood : Request → ℕ → Collected → Type 0
  IsAllGood r tran (Refused resp) = 0 < resp
  IsAllGood r tran (Sends fs more) = IsGood r (0x89 ∷ tran ∷ 0 ∷ (body r.table.number fs more ++ []))

  pub part-good : (me : ℕ) (key : TableKey) (tran number offset : ℕ) → IsSound told_table → IsStage h stage_now → key.number < 2 ^ 16
      → IsAllGood (part_request me key tran number offset) tran (answer_part told_table number offset)
  part-good me key tran number offset sound lies is_number =
      by (ltb number stage_now.oldest) (leb stage_now.next number) (leb (content_len d.layout) offset) refl refl refl
    where
      by : (a b c : Bool) → ltb number stage_now.oldest ≡ a → leb stage_now.next number ≡ b → leb (content_len d.layout) offset ≡ c
          → IsAllGood (part_request me key tran number offset) tran (answer_part told_table number offset)
      by true b c ea eb ec = rw ea (good-lost me key tran number offset lies (ltb-true number stage_now.oldest ea))
      by false true c ea eb ec = rw (ea, eb) (good-not-yet me key tran number offset lies (leb-true stage_now.next number eb))
      by false false true ea eb ec = rw (ea, eb, ec) (omega arith)
      by false false false ea eb ec =
          rw (ea, eb, ec) (good-part me key tran number offset sound lies is_number (ltb-false number stage_now.oldest ea) (leb-false stage_now.next number eb) (leb-false (content_len d.layout) offset ec))

  pub run-good : (r : Request) (tran : ℕ) → IsSound told_table → IsStage h stage_now → IsRunMode r → r.table.number < 2 ^ 16 → stage_now.oldest ≤ (run_for r).from → (run_for r).to ≤ length h.records
      → IsAllGood r tran (answer_run told_table (run_for r))
  run-good r tran sound lies mode number low high =
      by (leb (run_for r).to (run_for r).from) (ltb 960 (content_len d.layout)) refl refl
    where
      some : (k : ℕ) → min ((run_for r).to - (run_for r).from) (room_of d.layout) ≡ k → (run_for r).from < (run_for r).to → content_len d.layout ≤ 960
          → IsGood r (0x89 ∷ tran ∷ 0 ∷ (body r.table.number (whole (run_for r).from k (run_bytes d.layout (take k (drop (run_for r).from h.records))) ∷ []) (ltb ((run_for r).from + k) (run_for r).to) ++ []))
      some zero e lt short = let room = room-is d.layout short in absurd (omega (arith, e, lt, room.some))
      some (suc n) e lt short =
          let room = room-is d.layout short in
          good-whole r tran n sound lies mode number (omega (arith, e, room.few)) low (omega (arith, e, lt)) high

      by : (a b : Bool) → leb (run_for r).to (run_for r).from ≡ a → ltb 960 (content_len d.layout) ≡ b → IsAllGood r tran (answer_run told_table (run_for r))
      by true b ea eb = rw ea (good-empty r tran lies mode (leb-true (run_for r).to (run_for r).from ea))
      by false true ea eb =
          rw (ea, eb) (good-long r tran sound lies mode number (ltb-true 960 (content_len d.layout) eb) (leb-false (run_for r).to (run_for r).from ea) low high)
      by false false ea eb =
          rw (ea, eb) (some (min ((run_for r).to - (run_for r).from) (room_of d.layout)) refl (leb-false (run_for r).to (run_for r).from ea) (ltb-false 960 (content_len d.layout) eb))
