-- How what calls keep that read definitions goes on from call to call.
use Rattle.std.proofs.Common.{◌≡◌, ◌⊎◌, inl, inr, ℕ, List, All, refl, sym, ◌∙◌, ap, subst}
use Rattle.std.specs.Prelude.{Option}
use Rattle.std.proofs.lemmas.List.Elements.{All-contains}
use Rattle.pb_base.specs.World.{World, sent}
use Rattle.pb_base.specs.Request.{Request}
use Rattle.pb_io.specs.View.{View, IsLawful, LeavesOnly}
use Rattle.pb_io.specs.Disk.{ReadsOnly}
use Rattle.pb_io.specs.Crash.{Changes}
use Rattle.pb_io.specs.Settled.{IsSettled, LeftBy, Leaves}
use Rattle.pb_io.proofs.Moments.{LeavesOnly-weaker}
use Rattle.pb_journal.specs.Changes.{SameEntries, Keeps as KeepsEntries}
use Rattle.pb_journal.proofs.EntryLemmas.{rests_entries}
use Rattle.pb_journal.proofs.LawLemmas.{one_list}
use Rattle.pb_archive.specs.Archive.{Archive, Extends}
use Rattle.pb_archive.specs.Entry.{Change, Added, Advanced, Stopped, archive_after}
use Rattle.pb_archive.specs.Held.{HasArchive, KeepsOrMakes, StaysOrGoesOn, Writes}
use Rattle.pb_archive.specs.Opened.{OpenArchive, Register, IsOpen, kept_of, register_after, register_of}
use Rattle.pb_archive.proofs.LeadsLemmas.{one_archive}
use Rattle.pb_archive.proofs.RegisterLemmas.{kept_after}
use Rattle.pb_archive.proofs.WritingLemmas.{Extends-trans, Extends-after}
use Rattle.pb_ask.specs.Events.{Resending, Passes}
use Rattle.pb_truth.specs.Asked.{IsIn, WasAsked}
use Rattle.pb_truth.specs.Image.{StaysTrue}
use Rattle.pb_truth.specs.Pairs.{AsksAllowed}
use Rattle.pb_truth.proofs.ViewLemmas.{good_asks, good_writes}
use Rattle.pb_collect.specs.Adding.{Adds, HoldsAtLeast, StaysOrGrows}
use Rattle.pb_collect.specs.Defining.{DiskKeeps}
use Rattle.pb_collect.specs.Kept.{AllGoOnBy, GoesOnBy}
use Rattle.pb_collect.proofs.KeptLemmas.{all_go_on, by_none, by_opened, by_trans, from_left, grows_by, grows_link, has_after, has_before, keeps_list, same_archive}

-- ---- archives go on

pub grows_on_trans : (x y z : List ℕ) → StaysOrGrows x y → StaysOrGrows y z → StaysOrGrows x z
grows_on_trans x y z (inl p) (inl q) = inl (keeps_list x y z p q)
grows_on_trans x y z (inl p) (inr q) = inr (record { one = q.one; other = q.other; before = has_before x y q.one p q.before; after = q.after; extends = q.extends })
grows_on_trans x y z (inr p) (inl q) = inr (record { one = p.one; other = p.other; before = p.before; after = has_after y z p.other q p.after; extends = p.extends })
grows_on_trans x y z (inr p) (inr q) =
    let same = same_archive y p.other q.one p.after q.before in
    inr (record {
      one = p.one;
      other = q.other;
      before = p.before;
      after = q.after;
      extends = Extends-trans p.one p.other q.other p.extends (subst (λ a. Extends a q.other) (sym same) q.extends);
    })

pub grows_on_kept : (x y : List ℕ) → KeepsEntries x y → StaysOrGrows x y
grows_on_kept x y kept = inl kept

-- ---- runs of calls

pub adds_none : (d : View) → IsLawful d → Adds d d
adds_none d lawful = by_none StaysOrGrows grows_on_kept (Unit {0}) d lawful

pub adds_trans : (a b c : View) → IsLawful b → Adds a b → Adds b c → Adds a c
adds_trans a b c lawful p q =
    by_trans StaysOrGrows grows_on_trans (Unit {0}) (Unit {0}) (Unit {0}) a b c lawful p q (λ good is. tt) (λ good after is. tt)

pub adds_opened : (old new : View) → IsLawful new → Leaves KeepsEntries old new → new.link ≡ old.link → Adds old new
adds_opened = by_opened StaysOrGrows grows_on_kept (Unit {0})

pub all_grow_on : (file : Option (List ℕ)) (mid new : View) → IsLawful new → Changes SameEntries file mid.file → IsSettled mid → Adds mid new → AllGoOnBy StaysOrGrows file new
all_grow_on file mid new lawful same settled adds = all_go_on StaysOrGrows grows_on_kept grows_on_trans file mid new lawful same settled adds.leaves

-- ---- a request for no records

abbrev AsksNone : List ℕ → Type 0
AsksNone frame = (r : Request) → IsIn r frame → ⊥

none_asked : (frame : List ℕ) (more : World) (r : Request) → AsksNone frame → All (λ (f : List ℕ). f ≡ frame) (sent more) → WasAsked more r → ⊥
none_asked frame more r none all asked =
    none r (subst (λ (f : List ℕ). IsIn r f) (All-contains (λ (f : List ℕ). f ≡ frame) (sent more) asked.0 all asked.1) asked.2)

pub adds_asked : (frame : List ℕ) (most : ℕ) (old new : View) → IsLawful new → AsksNone frame → Passes frame most old new → Adds old new
adds_asked frame most old new lawful none passes = record {
  grows = grows_by old.link.world new.link.world passes.events passes.grows;
  leaves = LeavesOnly-weaker old new (Resending frame most old) (GoesOnBy StaysOrGrows old) passes.leaves (λ w image r. record {
    first = image;
    was = r.image;
    goes_on = inl (inl refl);
    before = r.before;
    more = r.more;
    known = r.known;
    is = r.is;
  });
  good = λ good is. good_asks old new lawful good
      (LeavesOnly-weaker old new (Resending frame most old) (AsksAllowed old) passes.leaves (λ w image r. record {
        was = r.image;
        before = r.before;
        more = r.more;
        known = r.known;
        is = r.is;
        allowed = λ a request has asked own. absurd (none_asked frame r.more request none r.frames.each asked);
      }));
}

-- ---- a writing call

-- a change that adds no rows
abbrev pub AddsNoRows : Change → Type 0
AddsNoRows (Added station number definition) = Unit {0}
AddsNoRows (Advanced id advance) = ⊥
AddsNoRows (Stopped id stop) = Unit {0}

stays_true : (change : Change) → AddsNoRows change → (w : World) (a : Archive) → StaysTrue w a change
stays_true (Added station number definition) is w a = tt
stays_true (Advanced id advance) is w a = absurd is
stays_true (Stopped id stop) is w a = tt

step_grows : (x y : List ℕ) → StaysOrGoesOn x y → StaysOrGrows x y
step_grows x y (inl same) = inl (inl same)
step_grows x y (inr goes) = inr goes

adds_written : (change : Change) (old new : View) → AddsNoRows change → IsLawful new → Writes change old new → Adds old new
adds_written change old new is lawful writes = record {
  grows = grows_link old.link new.link writes.link;
  leaves = LeavesOnly-weaker old new (LeftBy StaysOrGoesOn old) (GoesOnBy StaysOrGrows old) writes.goes_on
      (λ w image left. from_left StaysOrGoesOn StaysOrGrows old w image (λ first. step_grows first image) left);
  good = λ good none. good_writes one_list one_archive (λ a c allowed. Extends-after a c allowed) change old new lawful good (λ w image a world here has. stays_true change is w a) writes;
}

-- ---- what is held

kept_open : (o : OpenArchive) (now : View) → IsOpen o now → (image : List ℕ) (a : Archive) → now.image image → HasArchive image a → kept_of a ≡ register_of o
kept_open o now opened image a is has =
    let stands = opened.stands image (opened.settled image is) in
    let here : HasArchive image stands.archive = record { bodies = stands.bodies; entries = rests_entries o.journal.gate stands.bodies image stands.rests; archive = stands.entries } in
    ap kept_of (same_archive image a stands.archive has here) ∙ sym stands.same

pub holds_open : (o : OpenArchive) (now : View) → IsOpen o now → HoldsAtLeast (register_of o) now
holds_open o now opened = record { each = λ w image a world is has. inl (kept_open o now opened image a is has) }

abbrev IsKeptBy : Register → Archive → Type 0
IsKeptBy r a = (kept_of a ≡ r) ⊎ ((change : Change) × (kept_of a ≡ register_after r change))

kept_by : (r : Register) (change : Change) (first image : List ℕ) (a : Archive) → ((x : Archive) → HasArchive first x → kept_of x ≡ r)
    → KeepsOrMakes change first image → HasArchive image a → IsKeptBy r a
kept_by r change first image a kept (inl same) has = inl (kept a (subst (λ f. HasArchive f a) same has))
kept_by r change first image a kept (inr (inl both)) has =
    inl (subst (λ x. kept_of x ≡ r) (same_archive image both.0 a both.2 has) (kept both.0 both.1))
kept_by r change first image a kept (inr (inr made)) has =
    inr (
      change,
      ap kept_of (same_archive image a (archive_after made.archive change) has made.after) ∙ kept_after made.archive change made.allowed
          ∙ ap (λ x. register_after x change) (kept made.archive made.before),
    )

-- whether the change was made or not
holds_written : (o : OpenArchive) (change : Change) (old new : View) → IsLawful new → IsOpen o old → Writes change old new → HoldsAtLeast (register_of o) new
holds_written o change old new lawful opened writes = record {
  each = λ w image a world is has.
      let left = writes.leaves.each w image (lawful.counts_now old.moment w image writes.leaves.later world is) in
      kept_by (register_of o) change left.1.0 image a (λ x there. kept_open o old opened left.1.0 x left.1.1 there) left.1.2 has;
}

-- a call that only looks at the disk leaves an archive open
pub open_reads : (o : OpenArchive) (a b : View) → ReadsOnly a b → IsOpen o a → IsOpen o b
open_reads o a b reads opened = record {
  stands = λ f is. opened.stands f (sym reads.file ∙ is);
  settled = λ c is. reads.file ∙ opened.settled c (reads.fewer c is);
}

-- ---- calls of the disk alone

pub disk_none : (o : OpenArchive) (d : View) → IsLawful d → IsOpen o d → DiskKeeps o d d
disk_none o d lawful opened = record { holds = holds_open o d opened; adds = adds_none d lawful; link = refl }

pub disk_trans : (o p : OpenArchive) (a b c : View) → IsLawful b → DiskKeeps o a b → DiskKeeps p b c → DiskKeeps p a c
disk_trans o p a b c lawful x y = record { holds = y.holds; adds = adds_trans a b c lawful x.adds y.adds; link = y.link ∙ x.link }

pub disk_made : (o : OpenArchive) (change : Change) (old new : View) → AddsNoRows change → IsLawful new → IsOpen o new → Writes change old new → DiskKeeps o old new
disk_made o change old new is lawful opened writes = record { holds = holds_open o new opened; adds = adds_written change old new is lawful writes; link = writes.link }

-- a change whose writing failed
pub disk_failed : (before after : OpenArchive) (change : Change) (old new : View) → AddsNoRows change → IsLawful new → IsOpen before old → register_of after ≡ register_of before → Writes change old new → DiskKeeps after old new
disk_failed before after change old new is lawful opened same writes = record {
  holds = subst (λ (x : Register). HoldsAtLeast x new) (sym same) (holds_written before change old new lawful opened writes);
  adds = adds_written change old new is lawful writes;
  link = writes.link;
}
