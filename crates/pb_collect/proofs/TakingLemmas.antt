-- What is appended for a fragment, and what it makes of the table in memory and in each file.
use Rattle.std.proofs.Common.{◌≡◌, inl, inr, ℕ, zero, suc, ◌+◌, ◌*◌, ◌<◌, ◌≤◌, Bool, true, false, List, [], ◌∷◌, ◌++◌, length, map, Some, None, Ok, refl, sym, ◌∙◌, ap, subst, append_assoc, arith}
use Rattle.std.specs.Prelude.{slice_get, nat_lt, ◌==◌, if◌then◌else◌}
use Rattle.std.proofs.lemmas.Bool.{eqb-true, ltb-true, ltb-false}
use Rattle.std.proofs.lemmas.Option.{same_Some, none-some}
use Rattle.pb_base.specs.declared.layout.Layout.{Layout}
use Rattle.pb_base.specs.declared.nsec.Nsec.{Nsec}
use Rattle.pb_base.specs.declared.numbers.RecNo.{RecNo}
use Rattle.pb_base.specs.Record.{content_len, run_len}
use Rattle.pb_base.specs.World.{World}
use Rattle.pb_base.specs.History.{TableKey, history}
use Rattle.pb_io.specs.Crash.{AriseBy}
use Rattle.pb_io.specs.View.{View, IsLawful}
use Rattle.pb_io.proofs.RunLemmas.{world_before}
use Rattle.pb_tdf.specs.Definition.{Definition}
use Rattle.pb_tdf.specs.View.{TableView}
use Rattle.pb_bmp5.specs.CollectReply.{SeenFragment, whole, part, seen_of}
use Rattle.pb_bmp5.specs.declared.fragment.Fragment.{Fragment}
use Rattle.pb_bmp5.specs.declared.fragment.Fragment.TheVariants.{Whole, Part}
use Rattle.pb_record.specs.Cut.{IsRun}
use Rattle.pb_archive.specs.Archive.{Table, Archive, record_layout, changed_at, grown}
use Rattle.pb_archive.specs.Entry.{Advance, Advanced, HasForm, contents, archive_after, records_max, advance_bytes_max}
use Rattle.pb_archive.specs.Held.{HasArchive, Makes, Writes}
use Rattle.pb_archive.specs.Opened.{Register, OpenArchive, IsOpen, register_of, held_of, CanAdvanceHere, advanced, register_after}
use Rattle.pb_archive.proofs.RegisterLemmas.{at_before, has_layout}
use Rattle.pb_journal.proofs.EntryLemmas.{rests_entries}
use Rattle.pb_archive.specs.Truth.{SoundTable}
use Rattle.pb_archive.specs.declared.held.Held.{Held}
use Rattle.pb_truth.specs.Keeping.{run_advance, gap_advance, content_advance, table_after, advances, CanBeKept}
use Rattle.pb_truth.specs.Learning.{Known, without_partial, SoundKnown, taken, learned}
use Rattle.pb_truth.proofs.KeepingLemmas.{after_further, fragment_kept, first_true}
use Rattle.pb_collect.specs.Kept.{KeepsWhere, KnowsTrue}
use Rattle.pb_collect.specs.Progress.{Progress, IsAt, partial_bytes, IsNextRun, CanTake, after, advance_in, advances_in}
use Rattle.pb_collect.specs.Inside.{effects_of}
use Rattle.pb_collect.specs.Taking.{IsAsFar, IsReady, registers_after, held_after, CanFollow, IsBrief, AdvancesTrue, AllCameOf}
use Rattle.pb_collect.specs.declared.effect.Effect.TheVariants.{Gap, Content}
use Rattle.pb_collect.proofs.KeptLemmas.{same_archive, keeps_written, taken_key}
use Rattle.pb_collect.proofs.ProgressLemmas.{known_taken}

-- ---- a change at a place

changed_here : {A : Type 0} (id : ℕ) (f : A → A) (xs : List A) (u : A) → slice_get (changed_at id f xs) id ≡ Some u → (t : A) × (slice_get xs id ≡ Some t) × (u ≡ f t)
changed_here id f [] u is = absurd (none-some u is)
changed_here zero f (x ∷ xs) u is = (x, refl, sym (same_Some (f x) u is))
changed_here (suc n) f (x ∷ xs) u is = changed_here n f xs u is

held_here : (id : ℕ) (f : Held → Held) (xs : List Held) (h : Held) → slice_get xs id ≡ Some h → slice_get (changed_at id f xs) id ≡ Some (f h)
held_here id f [] h is = absurd (none-some h is)
held_here zero f (x ∷ xs) h is = ap (λ y. Some (f y)) (same_Some x h is)
held_here (suc n) f (x ∷ xs) h is = held_here n f xs h is

-- ---- the table in each file

after_definition : (layout : Layout) (t : Table) (todo : List Advance) → (table_after layout t todo).definition ≡ t.definition
after_definition layout t [] = refl
after_definition layout t (a ∷ rest) = after_definition layout (grown a.first (contents layout a) t) rest

after_key : (layout : Layout) (t : Table) (todo : List Advance) → (table_after layout t todo).key ≡ t.key
after_key layout t [] = refl
after_key layout t (a ∷ rest) = after_key layout (grown a.first (contents layout a) t) rest

pub came_one : (old new : View) (id : ℕ) (adv : Advance) → AriseBy (Makes (Advanced id adv)) old.image new.image → AllCameOf old new id (adv ∷ [])
came_one old new id adv follows image a u is has at =
    let m = follows image is in
    let made = m.2 in
    let same = same_archive image (archive_after made.archive (Advanced id adv)) a made.after has in
    let here = changed_here id (λ t. grown adv.first (contents (record_layout t.definition) adv) t) made.archive.tables u (subst (λ (x : Archive). slice_get x.tables id ≡ Some u) (sym same) at) in
    record { image = m.0; archive = made.archive; table = here.0; was = m.1; has = made.before; there = here.1; is = here.2 }

pub came_none : (d : View) (id : ℕ) → AllCameOf d d id []
came_none d id image a u is has at = record { image = image; archive = a; table = u; was = is; has = has; there = at; is = refl }

pub came_trans : (a b c : View) (id : ℕ) (xs ys : List Advance) → AllCameOf a b id xs → AllCameOf b c id ys → AllCameOf a c id (xs ++ ys)
came_trans a b c id xs ys p q image x u is has at =
    let second = q image x u is has at in
    let first = p second.image second.archive second.table second.was second.has second.there in
    let s = first.table in
    let layout = record_layout s.definition in
    let same : second.table.definition ≡ s.definition = ap (λ (t : Table). t.definition) first.is ∙ after_definition layout s xs in
    record {
      image = first.image;
      archive = first.archive;
      table = s;
      was = first.was;
      has = first.has;
      there = first.there;
      is = second.is ∙ ap (λ d. table_after (record_layout d) second.table ys) same ∙ ap (λ t. table_after layout t ys) first.is ∙ sym (after_further layout xs ys s);
    }

-- what was true with some advances done and others to come
sound_after : (w : World) (t u : Table) (xs some : List Advance) → u ≡ table_after (record_layout t.definition) t xs → SoundTable (table_after (record_layout t.definition) t (xs ++ some)) (history w t.key)
    → SoundTable (table_after (record_layout u.definition) u some) (history w u.key)
sound_after w t u xs some is sound =
    let layout = record_layout t.definition in
    let v = table_after layout t xs in
    let base : SoundTable (table_after layout v some) (history w t.key) = subst (λ x. SoundTable x (history w t.key)) (after_further layout xs some t) sound in
    let defined : SoundTable (table_after (record_layout v.definition) v some) (history w t.key) =
    subst (λ d. SoundTable (table_after (record_layout d) v some) (history w t.key)) (sym (after_definition layout t xs)) base in
    let keyed : SoundTable (table_after (record_layout v.definition) v some) (history w v.key) =
    subst (λ (k : TableKey). SoundTable (table_after (record_layout v.definition) v some) (history w k)) (sym (after_key layout t xs)) defined in
    subst (λ (x : Table). SoundTable (table_after (record_layout x.definition) x some) (history w x.key)) (sym is) keyed

pub true_next : (old new : View) (id : ℕ) (xs ys : List Advance) → new.link ≡ old.link → AllCameOf old new id xs → AdvancesTrue old id (xs ++ ys) → AdvancesTrue new id ys
true_next old new id xs ys link came truth w image a u world is has at some more split =
    let c = came image a u is has at in
    sound_after w c.table u xs some c.is
    (truth w c.image c.archive c.table (world_before old new w link world) c.was c.has c.there (xs ++ some) more (ap (λ l. xs ++ l) split ∙ sym (append_assoc xs some more)))

-- one advance, failed or not
pub keeps_appended : (old new : View) (id : ℕ) (adv : Advance) (rest : List Advance) → IsLawful new → Writes (Advanced id adv) old new → KeepsWhere (AdvancesTrue old id (adv ∷ rest)) old new
keeps_appended old new id adv rest lawful writes =
    keeps_written (AdvancesTrue old id (adv ∷ rest)) (Advanced id adv) old new tt lawful
    (λ truth w image a world is has t at. truth w image a t world is has at (adv ∷ []) rest refl) writes

-- ---- the table in memory

pub registers_held : (todo : List Advance) (r : Register) (id : ℕ) (h : Held) → slice_get r.tables id ≡ Some h → slice_get (registers_after r id todo).tables id ≡ Some (held_after h todo)
registers_held [] r id h is = is
registers_held (a ∷ rest) r id h is = registers_held rest (register_after r (Advanced id a)) id (advanced a h) (held_here id (advanced a) r.tables h is)

held_table : (todo : List Advance) (h : Held) → (held_after h todo).table ≡ h.table
held_table [] h = refl
held_table (a ∷ rest) h = held_table rest (advanced a h)

pub held_stop : (todo : List Advance) (h : Held) → (held_after h todo).stop ≡ h.stop
held_stop [] h = refl
held_stop (a ∷ rest) h = held_stop rest (advanced a h)

pub registers_further : (xs ys : List Advance) (r : Register) (id : ℕ) → registers_after r id (xs ++ ys) ≡ registers_after (registers_after r id xs) id ys
registers_further [] ys r id = refl
registers_further (x ∷ xs) ys r id = registers_further xs ys (register_after r (Advanced id x)) id

pub follow_split : (xs ys : List Advance) (h : Held) → CanFollow h (xs ++ ys) → CanFollow h xs × CanFollow (held_after h xs) ys
follow_split [] ys h can = (tt, can)
follow_split (x ∷ xs) ys h can = let rest = follow_split xs ys (advanced x h) can.1 in ((can.0, rest.0), rest.1)

-- ---- what may follow

form_run : (size : ℕ) (event : Bool) (interval : Nsec) (first n : ℕ) (bytes : List ℕ) → IsRun (record { record_len = size; event = event; interval = interval }) first (suc n) bytes
    → HasForm (record { record_len = size; event = event; interval = interval }) (run_advance (record { record_len = size; event = event; interval = interval }) first (suc n) bytes)
form_run size true interval first n bytes run = inl (record { form = refl; len = run.len })
form_run size false interval first n bytes run = inr (record { form = refl; interval = refl; some = omega arith; run = run })

follow_run : (h : Held) (p : Progress) (first n : ℕ) (bytes : List ℕ) → IsAsFar h p → IsNextRun p first (suc n) bytes → length bytes ≤ advance_bytes_max → CanAdvanceHere h (run_advance p.layout first (suc n) bytes)
follow_run h p first n bytes far next few = record {
  first = omega (arith, far.front, next.low);
  rises = omega (arith, far.front, next.low);
  numbers = next.run.numbers;
  layout = p.layout;
  has_layout = far.layout;
  form = form_run p.layout.record_len p.layout.event p.layout.interval first n bytes next.run;
  few = few;
}

none_times : (n : ℕ) → 0 ≡ 0 * n
none_times n = grind arith

once : (m n : ℕ) → m ≡ n → m ≡ 1 * n
once m n is = grind (arith, is)

follow_gap : (h : Held) (p : Progress) (number : ℕ) → IsAsFar h p → p.front < number → number + 1 ≤ records_max → CanAdvanceHere h (gap_advance number)
follow_gap h p number far above low = record {
  first = omega (arith, far.front, above);
  rises = omega (arith, far.front, above);
  numbers = omega (arith, low);
  layout = p.layout;
  has_layout = far.layout;
  form = inl (record { form = refl; len = none_times (content_len p.layout) });
  few = omega arith;
}

follow_content : (h : Held) (layout : Layout) (number : ℕ) (bytes : List ℕ) → h.table.layout ≡ Ok layout → h.front ≤ number → number + 1 ≤ records_max → length bytes ≡ content_len layout → content_len layout ≤ advance_bytes_max
    → CanAdvanceHere h (content_advance number bytes)
follow_content h layout number bytes has low max len few = record {
  first = low;
  rises = omega (arith, low);
  numbers = max;
  layout = layout;
  has_layout = has;
  form = inl (record { form = refl; len = once (length bytes) (content_len layout) len });
  few = omega (arith, len, few);
}

-- the advances of a fragment may follow one after the other, and lead to this front
record Leads (h : Held) (todo : List Advance) (front : ℕ) : Type 0 where
  follow : CanFollow h todo
  reach : (held_after h todo).front ≡ front

leads_part : (h : Held) (p : Progress) (number : RecNo) (all : List ℕ) → IsAsFar h p → p.front ≤ number.0 → number.0 + 1 ≤ records_max → content_len p.layout ≤ advance_bytes_max
    → (above is_whole : Bool) → (above ≡ true → p.front < number.0) → (above ≡ false → number.0 ≤ p.front) → (is_whole ≡ true → length all ≡ content_len p.layout)
    → Leads h (advance_in p.layout all (if above then Some (Gap number) else None) ++ advance_in p.layout all (if is_whole then Some (Content number) else None)) (if is_whole then number.0 + 1 else number.0)
leads_part h p number all far low max few true true is_above not_above len = record {
  follow = (
    follow_gap h p number.0 far (is_above refl) max,
    (follow_content (advanced (gap_advance number.0) h) p.layout number.0 all far.layout (omega arith) max (len refl) few, tt),
  );
  reach = refl;
}
leads_part h p number all far low max few true false is_above not_above len = record { follow = (follow_gap h p number.0 far (is_above refl) max, tt); reach = omega arith }
leads_part h p number all far low max few false true is_above not_above len = record {
  follow = (follow_content h p.layout number.0 all far.layout (omega (arith, far.front, low)) max (len refl) few, tt);
  reach = refl;
}
leads_part h p number all far low max few false false is_above not_above len = record { follow = tt; reach = omega (arith, far.front, low, not_above refl) }

leads_fragment : (h : Held) (p : Progress) (f : Fragment) → IsAsFar h p → CanTake p (seen_of f) → IsBrief (seen_of f) → content_len p.layout ≤ advance_bytes_max
    → Leads h (advances_in p.layout (after p (seen_of f)).joined (effects_of p f)) (after p (seen_of f)).front
leads_fragment h p (Whole first zero bytes) far can brief few = record { follow = tt; reach = far.front }
leads_fragment h p (Whole first (suc n) bytes) far can brief few = record { follow = (follow_run h p first.0 n bytes.now far can brief.few, tt); reach = refl }
leads_fragment h p (Part number offset bytes) far can brief few =
    let all = partial_bytes p ++ bytes.now in
    leads_part h p number all far can.low can.numbered few (nat_lt p.front number.0) (length all == content_len p.layout) (λ e. ltb-true p.front number.0 e) (λ e. ltb-false p.front number.0 e) (λ e. eqb-true (length all) (content_len p.layout) e)

pub fragment_follows : (o : OpenArchive) (id : ℕ) (p : Progress) (f : Fragment) → IsReady o id p → CanTake p (seen_of f) → IsBrief (seen_of f) → content_len p.layout ≤ advance_bytes_max
    → (held : Held) → slice_get o.tables id ≡ Some held → CanFollow held (advances_in p.layout (after p (seen_of f)).joined (effects_of p f))
fragment_follows o id p f ready can brief few held is =
    subst (λ (h : Held). CanFollow h (advances_in p.layout (after p (seen_of f)).joined (effects_of p f))) (same_Some ready.held held (sym ready.there ∙ is)) (leads_fragment ready.held p f ready.far can brief few).follow

pub after_layout : (p : Progress) (f : SeenFragment) → (after p f).layout ≡ p.layout
after_layout p (whole first zero bytes) = refl
after_layout p (whole first (suc n) bytes) = refl
after_layout p (part number offset bytes) = refl

pub ready_after : (o new : OpenArchive) (id : ℕ) (p : Progress) (f : Fragment) → IsReady o id p → CanTake p (seen_of f) → IsBrief (seen_of f) → content_len p.layout ≤ advance_bytes_max
    → register_of new ≡ registers_after (register_of o) id (advances_in p.layout (after p (seen_of f)).joined (effects_of p f)) → IsReady new id (after p (seen_of f))
ready_after o new id p f ready can brief few same =
    let todo = advances_in p.layout (after p (seen_of f)).joined (effects_of p f) in
    record {
      held = held_after ready.held todo;
      there = subst (λ (r : Register). slice_get r.tables id ≡ Some (held_after ready.held todo)) (sym same) (registers_held todo (register_of o) id ready.held ready.there);
      far = record {
        front = (leads_fragment ready.held p f ready.far can brief few).reach;
        layout = ap (λ (t : TableView). t.layout) (held_table todo ready.held) ∙ ready.far.layout ∙ ap (λ (l : Layout). Ok l) (sym (after_layout p (seen_of f)));
        going_on = held_stop todo ready.held ∙ ready.far.going_on;
      };
    }

-- ---- the table in a file and the table in memory

pub table_at : (o : OpenArchive) (now : View) (id : ℕ) (p : Progress) → IsOpen o now → IsReady o id p
    → (image : List ℕ) (a : Archive) (t : Table) → now.image image → HasArchive image a → slice_get a.tables id ≡ Some t → IsAt p (record { table = t; partial = partial_bytes p })
table_at o now id p opened ready image a t is has at =
    let stands = opened.stands image (opened.settled image is) in
    let here : HasArchive image stands.archive = record { bodies = stands.bodies; entries = rests_entries o.journal.gate stands.bodies image stands.rests; archive = stands.entries } in
    let same = same_archive image a stands.archive has here in
    let tables : o.tables ≡ map held_of stands.archive.tables = ap (λ (r : Register). r.tables) stands.same in
    let x = at_before held_of stands.archive.tables id ready.held (subst (λ (l : List Held). slice_get l id ≡ Some ready.held) tables ready.there) in
    let one : x.0 ≡ t = same_Some x.0 t (sym x.1 ∙ ap (λ (y : Archive). slice_get y.tables id) (sym same) ∙ at) in
    let held : ready.held ≡ held_of t = x.2 ∙ ap held_of one in
    record {
      layout = (has_layout t.definition p.layout (sym (ap (λ (h : Held). h.table.layout) held) ∙ ready.far.layout)).1;
      front = sym ready.far.front ∙ ap (λ (h : Held). h.front) held;
      partial = refl;
    }

-- ---- what is known

abbrev definition_in : Known → Definition
definition_in k = k.table.definition

taken_definition : (layout : Layout) (k : Known) (f : SeenFragment) → (taken layout k f).table.definition ≡ k.table.definition
taken_definition layout k (whole first zero bytes) = refl
taken_definition layout k (whole first (suc n) bytes) = refl
taken_definition layout k (part number offset bytes) = cases (length (k.partial ++ bytes) == content_len layout)
  where
    cases : (b : Bool) → definition_in (if b then without_partial (grown number ((k.partial ++ bytes) ∷ []) k.table) else record { table = grown number [] k.table; partial = k.partial ++ bytes }) ≡ k.table.definition
    cases true = refl
    cases false = refl

-- the same, by the table's own layout and key
known_as : (w : World) (k : Known) (u : Table) (partial : List ℕ) (layout : Layout) (key : TableKey) (fs : List SeenFragment) → u ≡ k.table → partial ≡ k.partial → record_layout k.table.definition ≡ layout → k.table.key ≡ key
    → SoundKnown (learned layout k fs) (history w key) → SoundKnown (learned (record_layout u.definition) (record { table = u; partial = partial }) fs) (history w u.key)
known_as w k u partial layout key fs table bytes defined keyed sound =
    subst (λ (x : Table). SoundKnown (learned (record_layout x.definition) (record { table = x; partial = partial }) fs) (history w x.key)) (sym table)
    (subst (λ (b : List ℕ). SoundKnown (learned (record_layout k.table.definition) (record { table = k.table; partial = b }) fs) (history w k.table.key)) (sym bytes)
    (subst (λ (x : TableKey). SoundKnown (learned (record_layout k.table.definition) k fs) (history w x)) (sym keyed)
    (subst (λ (l : Layout). SoundKnown (learned l k fs) (history w key)) (sym defined) sound)))

can_keep : (p : Progress) (t : Table) (f : SeenFragment) → IsAt p (record { table = t; partial = partial_bytes p }) → CanTake p f → IsBrief f → CanBeKept (record_layout t.definition) t f
can_keep p t (whole first zero bytes) at can brief = tt
can_keep p t (whole first (suc n) bytes) at can brief = (omega (arith, can.low, at.front), subst (λ l. length bytes ≡ run_len l (suc n)) at.layout can.run.len, brief.bytes)
can_keep p t (part number offset bytes) at can brief = omega (arith, can.low, at.front)

module _ (o : OpenArchive) (now : View) (id : ℕ) (p : Progress) (opened : IsOpen o now) (ready : IsReady o id p) (f : SeenFragment) (can : CanTake p f) (brief : IsBrief f) (todo : List Advance) (adds : (k : Known) → IsAt p k → todo ≡ advances p.layout k f) where
  pub advances_true : (fs : List SeenFragment) → KnowsTrue now id (partial_bytes p) (f ∷ fs) → AdvancesTrue now id todo
  advances_true fs knows w image a t world is has at some more split =
      let k : Known = record { table = t; partial = partial_bytes p } in
      let far = table_at o now id p opened ready image a t is has at in
      first_true (record_layout t.definition) k f fs some more (history w t.key) (can_keep p t f far can brief)
      (ap (λ l. advances l k f) (sym far.layout) ∙ sym (adds k far) ∙ split) (knows w image a t world is has at).table

  pub knows_after : (new : View) (fs : List SeenFragment) → new.link ≡ now.link → AllCameOf now new id todo → KnowsTrue now id (partial_bytes p) (f ∷ fs) → KnowsTrue new id (partial_bytes (after p f)) fs
  knows_after new fs link came knows w image a u world is has at =
      let c = came image a u is has at in
      let t = c.table in
      let layout = record_layout t.definition in
      let k : Known = record { table = t; partial = partial_bytes p } in
      let far = table_at o now id p opened ready c.image c.archive t c.was c.has c.there in
      let kept : u ≡ (taken layout k f).table =
      c.is ∙ ap (λ l. table_after layout t l) (adds k far ∙ ap (λ l. advances l k f) far.layout) ∙ fragment_kept layout k f (can_keep p t f far can brief) in
      let joined : partial_bytes (after p f) ≡ (taken layout k f).partial = (known_taken p k f can far).partial ∙ ap (λ l. (taken l k f).partial) far.layout in
      let sound : SoundKnown (learned layout (taken layout k f) fs) (history w t.key) = knows w c.image c.archive t (world_before now new w link world) c.was c.has c.there in
      known_as w (taken layout k f) u (partial_bytes (after p f)) layout t.key fs kept joined
      (ap record_layout (taken_definition layout k f)) (taken_key layout k f) sound
