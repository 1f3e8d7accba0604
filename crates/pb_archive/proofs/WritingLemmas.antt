-- What an entry that is added makes of the archive in a file, and of each file that a crash leaves.
use Rattle.std.proofs.Common.{◌≡◌, inl, inr, ℕ, zero, suc, List, [], ◌∷◌, ◌++◌, Some, refl, sym, ap, subst, ◌∙◌, append_assoc}
use Rattle.std.proofs.lemmas.Option.{none-some, same_Some}
use Rattle.std.proofs.lemmas.List.{append-nil}
use Rattle.std.specs.Prelude.{slice_get}
use Rattle.std.specs.Option.{ForSome}
use Rattle.pb_base.specs.History.{IsFront}
use Rattle.pb_io.specs.Crash.{Changes}
use Rattle.pb_io.specs.Settled.{IsSettled, LeftBy, Leaves}
use Rattle.pb_io.specs.View.{View, IsLawful}
use Rattle.pb_io.proofs.Moments.{LeavesOnly-weaker}
use Rattle.pb_io.proofs.CrashLemmas.{Changes-none, Changes-weaker}
use Rattle.pb_io.proofs.RunLemmas.{Runs-none}
use Rattle.pb_journal.specs.Changes.{Gains, KeepsOrGains, SameEntries}
use Rattle.pb_journal.specs.Entries.{Entries}
use Rattle.pb_journal.specs.Opened.{Rests, RestsAt}
use Rattle.pb_journal.proofs.EntryLemmas.{rests_entries}
use Rattle.pb_journal.proofs.LawLemmas.{one_list}
use Rattle.pb_archive.specs.Archive.{Archive, Table, Extends, ExtendsTable, changed_at, stopped}
use Rattle.pb_archive.specs.Entry.{Change, Added, Advanced, Stopped, IsAllowed, new_table, archive_after}
use Rattle.pb_archive.specs.Held.{HasArchive, SameArchive, Makes, KeepsOrMakes, StaysOrGoesOn, Writes, Wrote}
use Rattle.pb_archive.specs.Inside.{AllowsHere, CanWrite}
use Rattle.pb_archive.specs.Opened.{Register, Stands, register_after}
use Rattle.pb_archive.proofs.ListLemmas.{slice_get-append}
use Rattle.pb_archive.proofs.RegisterLemmas.{kept_after, allowed_here}
use Rattle.pb_archive.proofs.LeadsLemmas.{IsArchive-push}

-- ---- what is there goes on

extends_same : (t : Table) → ExtendsTable t t
extends_same t = record { me = refl; station = refl; key = refl; definition = refl; rows = ([], sym (append-nil t.rows)); stop = λ s is. is }

pub Extends-refl : (a : Archive) → Extends a a
Extends-refl a = record { plan = refl; tables = λ id t is. (t, is, extends_same t) }

IsFront-trans : {A : Type 0} (xs ys zs : List A) → IsFront xs ys → IsFront ys zs → IsFront xs zs
IsFront-trans xs ys zs (us, p) (vs, q) = (us ++ vs, q ∙ ap (λ l. l ++ vs) p ∙ append_assoc xs us vs)

pub Extends-trans : (a b c : Archive) → Extends a b → Extends b c → Extends a c
Extends-trans a b c first second = record {
  plan = second.plan ∙ first.plan;
  tables = λ id t is.
      let u = first.tables id t is in
      let v = second.tables id u.0 u.1 in (
        v.0,
        v.1,
        record {
          me = v.2.me ∙ u.2.me;
          station = v.2.station ∙ u.2.station;
          key = v.2.key ∙ u.2.key;
          definition = v.2.definition ∙ u.2.definition;
          rows = IsFront-trans t.rows u.0.rows v.0.rows u.2.rows v.2.rows;
          stop = λ s has. v.2.stop s (u.2.stop s has);
        },
      );
}

at_changed : (xs : List Table) (i : ℕ) (f : Table → Table) (j : ℕ) (t : Table) → ((u : Table) → slice_get xs i ≡ Some u → ExtendsTable u (f u)) → slice_get xs j ≡ Some t
    → (u : Table) × (slice_get (changed_at i f xs) j ≡ Some u) × ExtendsTable t u
at_changed [] i f j t holds is = absurd (none-some t is)
at_changed (x ∷ xs) zero f zero t holds is = (f x, refl, subst (λ (u : Table). ExtendsTable u (f x)) (same_Some _ _ is) (holds x refl))
at_changed (x ∷ xs) zero f (suc j) t holds is = (t, is, extends_same t)
at_changed (x ∷ xs) (suc i) f zero t holds is = (t, is, extends_same t)
at_changed (x ∷ xs) (suc i) f (suc j) t holds is = at_changed xs i f j t holds is

-- an allowed change takes nothing back
pub Extends-after : (a : Archive) (change : Change) → IsAllowed a change → Extends a (archive_after a change)
Extends-after a (Added station number d) allowed = record {
  plan = refl;
  tables = λ id t is. (t, slice_get-append a.tables (new_table a.plan station number d ∷ []) id t is, extends_same t);
}
Extends-after a (Advanced id adv) allowed = record {
  plan = refl;
  tables = λ i t is. at_changed a.tables id _ i t (λ u at. record { me = refl; station = refl; key = refl; definition = refl; rows = (_, refl); stop = λ s has. has }) is;
}
Extends-after a (Stopped id stop) allowed = record {
  plan = refl;
  tables = λ i t is. at_changed a.tables id (stopped stop) i t
      (λ u at. let none = ap (λ (x : Table). x.stop) (same_Some _ _ (sym allowed.1.there ∙ at)) in
      record { me = refl; station = refl; key = refl; definition = refl; rows = ([], sym (append-nil u.rows)); stop = λ s has. absurd (none-some s (sym allowed.1.going_on ∙ (none ∙ has))) }) is;
}

-- ---- files

module _ (r : Register) (change : Change) (gate : ℕ) (body : List ℕ) (disk : View) (can : CanWrite r change gate body disk) (f : List ℕ) (view : disk.file ≡ Some f) where
  here : Stands r gate f
  here = can.stands f view

  allowed : IsAllowed (can.stands f view).archive change
  allowed = allowed_here (can.stands f view).archive change (subst (λ (x : Register). AllowsHere x change) (can.stands f view).same can.allows) can.spelled

  pub has : HasArchive f (can.stands f view).archive
  has = record { bodies = (can.stands f view).bodies; entries = rests_entries gate (can.stands f view).bodies f (can.stands f view).rests; archive = (can.stands f view).entries }

  pub gained : (g : List ℕ) → Gains body f g → Makes change f g
  gained g gains =
      let stands = can.stands f view in
      let same = one_list f gains.0 stands.bodies gains.1 (rests_entries gate stands.bodies f stands.rests) in
      record {
        archive = stands.archive;
        before = has;
        allowed = allowed;
        after = record {
          bodies = stands.bodies ++ body ∷ [];
          entries = subst (λ (l : List (List ℕ)). Entries g (l ++ body ∷ [])) same gains.2;
          archive = IsArchive-push stands.archive stands.bodies body change stands.entries can.bytes allowed;
        };
      }

  pub kept_same : (g : List ℕ) → SameEntries f g → SameArchive f g
  kept_same g same =
      let stands = can.stands f view in
      let one = one_list f same.0 stands.bodies same.1 (rests_entries gate stands.bodies f stands.rests) in
      (stands.archive, has, record { bodies = stands.bodies; entries = subst (Entries g) one same.2; archive = stands.entries })

  pub kept_or_made : (g : List ℕ) → KeepsOrGains body f g → KeepsOrMakes change f g
  kept_or_made g (inl (inl same)) = inl same
  kept_or_made g (inl (inr same)) = inr (inl (kept_same g same))
  kept_or_made g (inr gains) = inr (inr (gained g gains))

  pub stands_after : (g : List ℕ) (new : ℕ) → Gains body f g → Rests new g → Stands (register_after r change) new g
  stands_after g new gains rests =
      let stands = can.stands f view in
      let same = one_list f gains.0 stands.bodies gains.1 (rests_entries gate stands.bodies f stands.rests) in
      let now = one_list g rests.0 (gains.0 ++ body ∷ []) (rests_entries new rests.0 g rests.1) gains.2 ∙ ap (λ (l : List (List ℕ)). l ++ body ∷ []) same in
      record {
        bodies = stands.bodies ++ body ∷ [];
        rests = subst (λ (l : List (List ℕ)). RestsAt new l g) now rests.1;
        archive = archive_after stands.archive change;
        entries = IsArchive-push stands.archive stands.bodies body change stands.entries can.bytes allowed;
        same = ap (λ (x : Register). register_after x change) stands.same ∙ sym (kept_after stands.archive change allowed);
      }

goes_on : (change : Change) (f g : List ℕ) → KeepsOrMakes change f g → StaysOrGoesOn f g
goes_on change f g (inl same) = inl same
goes_on change f g (inr (inl same)) = inr (record { one = same.0; other = same.0; before = same.1; after = same.2; extends = Extends-refl same.0 })
goes_on change f g (inr (inr makes)) = inr (record {
  one = makes.archive;
  other = archive_after makes.archive change;
  before = makes.before;
  after = makes.after;
  extends = Extends-after makes.archive change makes.allowed;
})

-- ---- what a crash leaves

module _ (change : Change) (old new : View) where
  -- of a call that leaves this of each file
  pub writes_by : new.link ≡ old.link → Changes (KeepsOrMakes change) old.file new.file → Leaves (KeepsOrMakes change) old new → Writes change old new
  writes_by link file leaves = record {
    file = file;
    link = link;
    leaves = leaves;
    goes_on = LeavesOnly-weaker old new (LeftBy (KeepsOrMakes change) old) (LeftBy StaysOrGoesOn old) leaves
        (λ w c left. (left.0, (left.1.0, left.1.1, goes_on change left.1.0 c left.1.2)));
  }

  pub leaves_made : (r : Register) (gate : ℕ) (body : List ℕ) → CanWrite r change gate body old → Leaves (KeepsOrGains body) old new → Leaves (KeepsOrMakes change) old new
  leaves_made r gate body can leaves =
      LeavesOnly-weaker old new (LeftBy (KeepsOrGains body) old) (LeftBy (KeepsOrMakes change) old) leaves
      (λ w c left. (left.0, (left.1.0, left.1.1, kept_or_made r change gate body old can left.1.0 (can.settled left.1.0 left.1.1) c left.1.2)))

  pub file_made : (r : Register) (gate : ℕ) (body : List ℕ) → CanWrite r change gate body old → Changes (KeepsOrGains body) old.file new.file → Changes (KeepsOrMakes change) old.file new.file
  file_made r gate body can =
      Changes-weaker (KeepsOrGains body) (KeepsOrMakes change) old.file new.file (λ f g is kept. kept_or_made r change gate body old can f is g kept)

  pub wrote_by : (r : Register) (gate : ℕ) (body : List ℕ) → IsLawful old → CanWrite r change gate body old → Changes (Gains body) old.file new.file → IsSettled new → Wrote change old new
  wrote_by r gate body lawful can gains settled = record {
    file = record {
      on = λ f view. let g = gains.on f view in (g.0, g.1, gained r change gate body old can f view g.0 g.2);
      back = λ g view. let f = gains.back g view in (f.0, f.1, gained r change gate body old can f.0 f.1 g f.2);
    };
    images = λ c image. let f = gains.back c (settled c image) in (f.0, lawful.reads f.0 f.1, gained r change gate body old can f.0 f.1 c f.2);
    settled = settled;
  }

  pub stands_by : (r : Register) (gate next : ℕ) (body : List ℕ) → CanWrite r change gate body old → Changes (Gains body) old.file new.file → ForSome new.file (Rests next) → ForSome new.file (Stands (register_after r change) next)
  stands_by r gate next body can gains rests g view =
      let f = gains.back g view in
      stands_after r change gate body old can f.0 f.1 g next f.2 (rests g view)

-- no call
pub writes_none : (change : Change) (disk : View) → IsLawful disk → Writes change disk disk
writes_none change disk lawful = writes_by change disk disk refl (Changes-none (KeepsOrMakes change) disk.file (λ c. inl refl)) (Runs-none (KeepsOrMakes change) disk lawful (λ c. inl refl)).leaves
