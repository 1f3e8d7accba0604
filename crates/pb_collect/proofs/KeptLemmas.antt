-- How what calls keep goes on from call to call.
use Rattle.std.proofs.Common.{◌≡◌, inl, inr, ℕ, zero, suc, Bool, true, false, List, [], ◌∷◌, ◌++◌, length, Some, refl, sym, ◌∙◌, ap, subst, append_assoc, append-nil}
use Rattle.std.specs.Prelude.{Option, slice_get, ◌==◌, if◌then◌else◌}
use Rattle.std.specs.List.{Contains}
use Rattle.std.proofs.lemmas.Option.{same_Some}
use Rattle.pb_base.specs.World.{World}
use Rattle.pb_base.specs.History.{TableKey, history}
use Rattle.pb_base.specs.declared.layout.Layout.{Layout}
use Rattle.pb_base.specs.Record.{content_len}
use Rattle.pb_bmp5.specs.CollectReply.{SeenFragment, whole, part}
use Rattle.pb_io.specs.Crash.{Changes, Within}
use Rattle.pb_io.specs.Site.{GrowsBy}
use Rattle.pb_io.specs.Settled.{IsSettled, LeftBy, Leaves}
use Rattle.pb_journal.specs.Changes.{SameEntries, Keeps as KeepsEntries}
use Rattle.pb_journal.specs.Entries.{Entries}
use Rattle.pb_io.specs.View.{View, Link, IsLawful, LeavesOnly}
use Rattle.pb_io.proofs.Moments.{started, LeavesOnly-trans, LeavesOnly-weaker}
use Rattle.pb_journal.proofs.LawLemmas.{one_list}
use Rattle.pb_archive.specs.Archive.{Table, Archive, Extends, told_definition, record_layout, grown}
use Rattle.pb_archive.specs.Entry.{Change, Added, Advanced, Stopped, IsArchive, archive_after}
use Rattle.pb_archive.specs.Held.{HasArchive, KeepsOrMakes, Writes}
use Rattle.pb_archive.proofs.HeldLemmas.{length-changed_at}
use Rattle.pb_archive.proofs.LeadsLemmas.{one_archive}
use Rattle.pb_archive.proofs.WritingLemmas.{Extends-refl, Extends-trans, Extends-after}
use Rattle.pb_truth.specs.Honest.{Honest}
use Rattle.pb_truth.specs.Image.{Good}
use Rattle.pb_truth.specs.Learning.{Known, without_partial, SoundKnown, taken, learned}
use Rattle.pb_truth.specs.Pairs.{AreGood, StaysTrueIn}
use Rattle.pb_truth.proofs.GrowthLemmas.{honest_prefix, known_later}
use Rattle.pb_truth.proofs.ViewLemmas.{good_start, good_then, good_writes}
use Rattle.pb_collect.specs.Kept.{AllGoOnBy, GoesOnBy, Grows, HonestFrom, Keeps, KeepsBy, KeepsHonest, KeepsWhere, KnowsTrue, StaysOrCollects, Step}

-- ---- one archive in a file

pub same_archive : (file : List ℕ) (a b : Archive) → HasArchive file a → HasArchive file b → a ≡ b
same_archive file a b x y =
    one_archive y.bodies a b (subst (λ bodies. IsArchive bodies a) (one_list file x.bodies y.bodies x.entries y.entries) x.archive) y.archive

-- ---- the same entries

same_list : (y : List ℕ) (x z : List ℕ) → SameEntries x y → SameEntries y z → SameEntries x z
same_list y x z p q = (p.0, p.1, subst (λ bodies. Entries z bodies) (sym (one_list y p.0 q.0 p.2 q.1)) q.2)

pub keeps_list : (x y z : List ℕ) → KeepsEntries x y → KeepsEntries y z → KeepsEntries x z
keeps_list x y z (inl p) q = subst (λ f. KeepsEntries f z) p q
keeps_list x y z (inr p) (inl q) = inr (subst (λ f. SameEntries x f) (sym q) p)
keeps_list x y z (inr p) (inr q) = inr (same_list y x z p q)

pub has_before : (x y : List ℕ) (a : Archive) → KeepsEntries x y → HasArchive y a → HasArchive x a
has_before x y a (inl same) has = subst (λ f. HasArchive f a) same has
has_before x y a (inr same) has = record { bodies = same.0; entries = same.1; archive = subst (λ bodies. IsArchive bodies a) (one_list y has.bodies same.0 has.entries same.2) has.archive }

pub has_after : (x y : List ℕ) (a : Archive) → KeepsEntries x y → HasArchive x a → HasArchive y a
has_after x y a (inl same) has = subst (λ f. HasArchive f a) (sym same) has
has_after x y a (inr same) has = record { bodies = same.0; entries = same.2; archive = subst (λ bodies. IsArchive bodies a) (one_list x has.bodies same.0 has.entries same.1) has.archive }

-- ---- archives go on

pub collects_trans : (x y z : List ℕ) → StaysOrCollects x y → StaysOrCollects y z → StaysOrCollects x z
collects_trans x y z (inl p) (inl q) = inl (keeps_list x y z p q)
collects_trans x y z (inl p) (inr q) = inr (record { one = q.one; other = q.other; before = has_before x y q.one p q.before; after = q.after; extends = q.extends; tables = q.tables })
collects_trans x y z (inr p) (inl q) = inr (record { one = p.one; other = p.other; before = p.before; after = has_after y z p.other q p.after; extends = p.extends; tables = p.tables })
collects_trans x y z (inr p) (inr q) =
    let same = same_archive y p.other q.one p.after q.before in
    inr (record {
      one = p.one;
      other = q.other;
      before = p.before;
      after = q.after;
      extends = Extends-trans p.one p.other q.other p.extends (subst (λ a. Extends a q.other) (sym same) q.extends);
      tables = q.tables ∙ ap (λ (a : Archive). length a.tables) (sym same) ∙ p.tables;
    })

pub collects_kept : (x y : List ℕ) → KeepsEntries x y → StaysOrCollects x y
collects_kept x y kept = inl kept

-- ---- worlds

pub grows_same : (a : Option World) → Grows a a
grows_same a = record {
  on = λ w is. ([], is ∙ ap (λ l. Some l) (sym (append-nil w)));
  back = λ v is. (v, [], is, sym (append-nil v));
}

pub grows_link : (old new : Link) → new ≡ old → Grows old.world new.world
grows_link old new is = subst (λ (l : Link). Grows old.world l.world) (sym is) (grows_same old.world)

pub grows_by : (old new : Option World) (events : World) → GrowsBy old new events → Grows old new
grows_by old new events g = record {
  on = λ w is. let x = g.on w is in (x.0, x.1);
  back = λ v is. let x = g.back v is in (x.0, x.1, x.2, x.3);
}

pub grows_trans : (a b c : Option World) → Grows a b → Grows b c → Grows a c
grows_trans a b c p q = record {
  on = λ w is.
      let x = p.on w is in
      let y = q.on (w ++ x.0) x.1 in
      (x.0 ++ y.0, y.1 ∙ ap (λ l. Some l) (append_assoc w x.0 y.0));
  back = λ v is.
      let y = q.back v is in
      let x = p.back y.0 y.2 in
      (x.0, x.1 ++ y.1, x.2, y.3 ∙ ap (λ l. l ++ y.1) x.3 ∙ append_assoc x.0 x.1 y.1);
}

-- ---- calls go on by a step

abbrev pub KeptIn : Step → Type 0
KeptIn S = (x y : List ℕ) → KeepsEntries x y → S x y

abbrev pub Transitive : Step → Type 0
Transitive S = (x y z : List ℕ) → S x y → S y z → S x z

-- what a crash leaves now goes on from what it left then
pub now_from : (S : Step) (old new : View) → IsLawful new → LeavesOnly old new (GoesOnBy S old) → (w : World) (image : List ℕ) → new.link.world ≡ Some w → new.image image → GoesOnBy S old w image
now_from S old new lawful leaves w image world is = leaves.each w image (lawful.counts_now old.moment w image leaves.later world is)

from_trans : (S : Step) → Transitive S → (a b : View) → IsLawful b → LeavesOnly a b (GoesOnBy S a) → (w : World) (image : List ℕ) → GoesOnBy S b w image → GoesOnBy S a w image
from_trans S trans a b lawful leaves w image q =
    let p = now_from S a b lawful leaves q.before q.first q.known q.was in
    record {
      first = p.first;
      was = p.was;
      goes_on = trans p.first q.first image p.goes_on q.goes_on;
      before = p.before;
      more = p.more ++ q.more;
      known = p.known;
      is = q.is ∙ ap (λ l. l ++ q.more) p.is ∙ append_assoc p.before p.more q.more;
    }

-- a file of before in the world of then
pub from_left : (S T : Step) (old : View) (w : World) (image : List ℕ) → ((first : List ℕ) → S first image → T first image) → LeftBy S old w image → GoesOnBy T old w image
from_left S T old w image step left = record {
  first = left.1.0;
  was = left.1.1;
  goes_on = step left.1.0 left.1.2;
  before = w;
  more = [];
  known = left.0;
  is = sym (append-nil w);
}

pub by_none : (S : Step) → KeptIn S → (P : Type 0) (d : View) → IsLawful d → KeepsBy S P d d
by_none S kept P d lawful = record {
  grows = grows_same d.link.world;
  leaves = started d (GoesOnBy S d) lawful (λ w image world is. record {
    first = image;
    was = is;
    goes_on = kept image image (inl refl);
    before = w;
    more = [];
    known = world;
    is = sym (append-nil w);
  });
  good = λ good p. good_start d lawful good;
}

pub by_trans : (S : Step) → Transitive S → (P Q R : Type 0) (a b c : View) → IsLawful b → (p : KeepsBy S P a b) → KeepsBy S Q b c
    → (AreGood a → R → P) → (AreGood a → AreGood b → R → Q) → KeepsBy S R a c
by_trans S trans P Q R a b c lawful p q first second = record {
  grows = grows_trans a.link.world b.link.world c.link.world p.grows q.grows;
  leaves = LeavesOnly-trans a b c (GoesOnBy S a) (GoesOnBy S b) (GoesOnBy S a) p.leaves q.leaves (λ w image from. from) (λ w image from. from_trans S trans a b lawful p.leaves w image from);
  good = λ good r.
      let middle = p.good good (first good r) in
      good_then a b c middle (q.good middle.here (second good middle.here r));
}

pub by_weaker : (S : Step) (P Q : Type 0) (a b : View) → (AreGood a → P → Q) → KeepsBy S Q a b → KeepsBy S P a b
by_weaker S P Q a b so q = record { grows = q.grows; leaves = q.leaves; good = λ good p. q.good good (so good p) }

-- an opening leaves the entries as they are
pub by_opened : (S : Step) → KeptIn S → (P : Type 0) (old new : View) → IsLawful new → Leaves KeepsEntries old new → new.link ≡ old.link → KeepsBy S P old new
by_opened S kept P old new lawful leaves link =
    let goods : AreGood old → (w : World) (image : List ℕ) → LeftBy KeepsEntries old w image → Good w image = λ good w image left.
    let first = good w left.1.0 left.0 left.1.1 in
    record { archive = first.archive; has = has_after left.1.0 image first.archive left.1.2 first.has; sound = first.sound; asked = first.asked } in
    record {
      grows = grows_link old.link new.link link;
      leaves = LeavesOnly-weaker old new (LeftBy KeepsEntries old) (GoesOnBy S old) leaves (λ w image left. from_left KeepsEntries S old w image (λ first. kept first image) left);
      good = λ good p. record {
        leaves = LeavesOnly-weaker old new (LeftBy KeepsEntries old) Good leaves (goods good);
        here = λ w image world is. goods good w image (leaves.each w image (lawful.counts_now old.moment w image leaves.later world is));
      };
    }

-- once an archive is opened, whatever a crash leaves goes on from the file as it read before
pub all_go_on : (S : Step) → KeptIn S → Transitive S → (file : Option (List ℕ)) (mid new : View) → IsLawful new → Changes SameEntries file mid.file → IsSettled mid → LeavesOnly mid new (GoesOnBy S mid) → AllGoOnBy S file new
all_go_on S kept trans file mid new lawful same settled leaves w image first world is was =
    let from = now_from S mid new lawful leaves w image world is in
    let g = same.on first was in
    let one : g.0 ≡ from.first = same_Some g.0 from.first (sym g.1 ∙ settled from.first from.was) in
    trans first from.first image (kept first from.first (inr (subst (λ f. SameEntries first f) one g.2))) from.goes_on

-- ---- honest worlds

-- each table of the longer list is one of the other's places
at_place : (xs ys : List Table) (id : ℕ) (u : Table) → length ys ≡ length xs → slice_get ys id ≡ Some u → (t : Table) × (slice_get xs id ≡ Some t)
at_place [] [] id u same is = (u, is)
at_place [] (y ∷ ys) id u same is = absurd cc
at_place (x ∷ xs) [] id u same is = absurd cc
at_place (x ∷ xs) (y ∷ ys) zero u same is = (x, refl)
at_place (x ∷ xs) (y ∷ ys) (suc id) u same is = at_place xs ys id u (cc) is

honest_on : (w : World) (a b : Archive) → Extends a b → length b.tables ≡ length a.tables → Honest w a → Honest w b
honest_on w a b extends same honest = record {
  answers = λ before after byte m split hears is own. honest.answers before after byte m split hears is (own ∙ ap (λ p. p.me) extends.plan);
  defined = λ id u d is has.
      let t = at_place a.tables b.tables id u same is in
      let e = extends.tables id t.0 t.1 in
      let one : e.0 ≡ u = same_Some e.0 u (sym e.1 ∙ is) in
      let key : u.key ≡ t.0.key = ap (λ (x : Table). x.key) (sym one) ∙ e.2.key in
      let definition : u.definition ≡ t.0.definition = ap (λ (x : Table). x.definition) (sym one) ∙ e.2.definition in
      honest.defined id t.0 d t.1 (subst (λ (k : TableKey). Contains (history w k).definitions d) key has) ∙ ap told_definition (sym definition);
  few = honest.few;
}

honest_file : (w : World) (x y : List ℕ) (b : Archive) → StaysOrCollects x y → HasArchive y b → ((a : Archive) → HasArchive x a → Honest w a) → Honest w b
honest_file w x y b (inl kept) has honest = honest b (has_before x y b kept has)
honest_file w x y b (inr c) has honest =
    subst (λ z. Honest w z) (same_archive y c.other b c.after has) (honest_on w c.one c.other c.extends c.tables (honest c.one c.before))

-- honest then for what was left first
pub honest_first : (a b c : View) → Grows b.link.world c.link.world → HonestFrom a c → HonestFrom a b
honest_first a b c grows honest w image x world is has =
    let g = grows.on w world in
    honest_prefix w g.0 x (honest (w ++ g.0) image x g.1 is has)

-- honest now for what was left meanwhile
pub honest_then : (a b c : View) → IsLawful b → Grows b.link.world c.link.world → LeavesOnly a b (GoesOnBy StaysOrCollects a) → HonestFrom a c → HonestFrom b c
honest_then a b c lawful grows leaves honest w image x world is has =
    let g = grows.back w world in
    let from = now_from StaysOrCollects a b lawful leaves g.0 image g.2 is in
    honest_file w from.first image x from.goes_on has (λ y first. honest w from.first y world from.was first)

-- ---- runs of calls that collect

pub where_none : (P : Type 0) (d : View) → IsLawful d → KeepsWhere P d d
where_none = by_none StaysOrCollects collects_kept

pub where_trans : (P Q : Type 0) (a b c : View) → IsLawful b → (P → Q) → KeepsWhere P a b → KeepsWhere Q b c → KeepsWhere P a c
where_trans P Q a b c lawful so p q = by_trans StaysOrCollects collects_trans P Q P a b c lawful p q (λ good is. is) (λ good after is. so is)

pub where_weaker : (P Q : Type 0) (a b : View) → (P → Q) → KeepsWhere Q a b → KeepsWhere P a b
where_weaker P Q a b so q = by_weaker StaysOrCollects P Q a b (λ good. so) q

pub keeps_none : (d : View) → IsLawful d → Keeps d d
keeps_none d lawful = by_none StaysOrCollects collects_kept (HonestFrom d d) d lawful

pub keeps_by : (P : Type 0) (a b : View) → (AreGood a → HonestFrom a b → P) → KeepsWhere P a b → Keeps a b
keeps_by P a b so q = by_weaker StaysOrCollects (HonestFrom a b) P a b so q

pub keeps_trans : (a b c : View) → IsLawful b → Keeps a b → Keeps b c → Keeps a c
keeps_trans a b c lawful p q =
    by_trans StaysOrCollects collects_trans (HonestFrom a b) (HonestFrom b c) (HonestFrom a c) a b c lawful p q (λ good. honest_first a b c q.grows)
    (λ good after. honest_then a b c lawful q.grows p.leaves)

pub keeps_opened : (old new : View) → IsLawful new → Leaves KeepsEntries old new → new.link ≡ old.link → Keeps old new
keeps_opened old new = by_opened StaysOrCollects collects_kept (HonestFrom old new) old new

pub all_collect_on : (file : Option (List ℕ)) (mid new : View) → IsLawful new → Changes SameEntries file mid.file → IsSettled mid → Keeps mid new → AllGoOnBy StaysOrCollects file new
all_collect_on file mid new lawful same settled keeps = all_go_on StaysOrCollects collects_kept collects_trans file mid new lawful same settled keeps.leaves

-- ---- runs of calls in an honest world

pub honest_weaker : (P : Type 0) (a b : View) → KeepsHonest P a b → (AreGood a → HonestFrom a b → P) → Keeps a b
honest_weaker P a b q so = by_weaker StaysOrCollects (HonestFrom a b) (P × HonestFrom a b) a b (λ good honest. (so good honest, honest)) q

pub honest_keeps : (P : Type 0) (a b : View) → Keeps a b → KeepsHonest P a b
honest_keeps P a b q = by_weaker StaysOrCollects (P × HonestFrom a b) (HonestFrom a b) a b (λ good is. is.1) q

pub honest_where : (P Q : Type 0) (a b c : View) → IsLawful b → KeepsHonest P a b → (P → AreGood a → AreGood b → HonestFrom a b → Q) → KeepsWhere Q b c → KeepsHonest P a c
honest_where P Q a b c lawful p so q =
    by_trans StaysOrCollects collects_trans (P × HonestFrom a b) Q (P × HonestFrom a c) a b c lawful p q (λ good is. (is.0, honest_first a b c q.grows is.1))
    (λ good after is. so is.0 good after (honest_first a b c q.grows is.1))

pub honest_then_honest : (P Q : Type 0) (a b c : View) → IsLawful b → KeepsHonest P a b → (P → AreGood a → AreGood b → HonestFrom a b → Q) → KeepsHonest Q b c → KeepsHonest P a c
honest_then_honest P Q a b c lawful p so q =
    by_trans StaysOrCollects collects_trans (P × HonestFrom a b) (Q × HonestFrom b c) (P × HonestFrom a c) a b c lawful p q (λ good is. (is.0, honest_first a b c q.grows is.1))
    (λ good after is. (so is.0 good after (honest_first a b c q.grows is.1), honest_then a b c lawful q.grows p.leaves is.1))

-- ---- a writing call

-- a change of a table that is there
abbrev pub IsOfTable : Change → Type 0
IsOfTable (Added station number definition) = ⊥
IsOfTable (Advanced id advance) = Unit {0}
IsOfTable (Stopped id stop) = Unit {0}

same_count : (a : Archive) (change : Change) → IsOfTable change → length (archive_after a change).tables ≡ length a.tables
same_count a (Added station number definition) is = absurd is
same_count a (Advanced id advance) is = length-changed_at _ a.tables id
same_count a (Stopped id stop) is = length-changed_at _ a.tables id

step_collects : (change : Change) → IsOfTable change → (x y : List ℕ) → KeepsOrMakes change x y → StaysOrCollects x y
step_collects change is x y (inl same) = inl (inl same)
step_collects change is x y (inr (inl kept)) = inr (record {
  one = kept.0;
  other = kept.0;
  before = kept.1;
  after = kept.2;
  extends = Extends-refl kept.0;
  tables = refl;
})
step_collects change is x y (inr (inr made)) = inr (record {
  one = made.archive;
  other = archive_after made.archive change;
  before = made.before;
  after = made.after;
  extends = Extends-after made.archive change made.allowed;
  tables = same_count made.archive change is;
})

pub keeps_written : (P : Type 0) (change : Change) (old new : View) → IsOfTable change → IsLawful new → (P → StaysTrueIn old change) → Writes change old new → KeepsWhere P old new
keeps_written P change old new is lawful stays writes = record {
  grows = grows_link old.link new.link writes.link;
  leaves = LeavesOnly-weaker old new (LeftBy (KeepsOrMakes change) old) (GoesOnBy StaysOrCollects old) writes.leaves
      (λ w image left. from_left (KeepsOrMakes change) StaysOrCollects old w image (λ first. step_collects change is first image) left);
  good = λ good p. good_writes one_list one_archive (λ a c allowed. Extends-after a c allowed) change old new lawful good (stays p) writes;
}

-- ---- what is known of a table

abbrev key_of : Known → TableKey
key_of k = k.table.key

-- an answer is of one table
pub taken_key : (layout : Layout) (k : Known) (f : SeenFragment) → (taken layout k f).table.key ≡ k.table.key
taken_key layout k (whole first zero bytes) = refl
taken_key layout k (whole first (suc n) bytes) = refl
taken_key layout k (part number offset bytes) = cases (length (k.partial ++ bytes) == content_len layout)
  where
    cases : (b : Bool) → key_of (if b then without_partial (grown number ((k.partial ++ bytes) ∷ []) k.table) else record { table = grown number [] k.table; partial = k.partial ++ bytes }) ≡ k.table.key
    cases true = refl
    cases false = refl

pub learned_key : (layout : Layout) (k : Known) (fs : List SeenFragment) → (learned layout k fs).table.key ≡ k.table.key
learned_key layout k [] = refl
learned_key layout k (f ∷ fs) = learned_key layout (taken layout k f) fs ∙ taken_key layout k f

sound_later : (v more : World) (k : Known) (key : TableKey) → k.table.key ≡ key → SoundKnown k (history v key) → SoundKnown k (history (v ++ more) key)
sound_later v more k key is sound =
    subst (λ (x : TableKey). SoundKnown k (history (v ++ more) x)) is (known_later v more k (subst (λ (x : TableKey). SoundKnown k (history v x)) (sym is) sound))

pub knows_grown : (old new : View) (id : ℕ) (partial : List ℕ) (fs : List SeenFragment) → Grows old.link.world new.link.world → Within old.image new.image → KnowsTrue old id partial fs → KnowsTrue new id partial fs
knows_grown old new id partial fs grows within knows w image a t world is has at =
    let g = grows.back w world in
    let k : Known = record { table = t; partial = partial } in
    let later = learned (record_layout t.definition) k fs in
    subst (λ v. SoundKnown later (history v t.key)) (sym g.3)
    (sound_later g.0 g.1 later t.key (learned_key (record_layout t.definition) k fs) (knows g.0 image a t g.2 (within image is) has at))
