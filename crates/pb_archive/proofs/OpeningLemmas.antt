-- Entries that are read one after the other, and the archive that they are so far.
use Rattle.std.proofs.Common.{◌≡◌, inl, inr, ℕ, ◌≤◌, Bool, true, false, List, [], ◌∷◌, ◌++◌, length, get_or, refl, sym, ap, subst, ◌∙◌, arith, append_assoc, length-append, true≢false}
use Rattle.std.proofs.lemmas.List.{append-nil}
use Rattle.std.specs.Prelude.{Option}
use Rattle.std.specs.Option.{ForSome}
use Rattle.pb_journal.specs.Entries.{Entries, header, blocks, gate_place}
use Rattle.pb_journal.specs.Opened.{RestsAt}
use Rattle.pb_journal.specs.Reading.{Reading, IsReading, Read}
use Rattle.pb_journal.proofs.AheadLemmas.{blocks-append}
use Rattle.pb_archive.specs.Plan.{Plan, stations_max, IsPlan}
use Rattle.pb_archive.specs.Archive.{Archive}
use Rattle.pb_archive.specs.Entry.{Change, change_bytes, plan_bytes, archive_after, created, Leads, IsArchive}
use Rattle.pb_archive.specs.Inside.{IsSpelled, AllowsHere, IsRegister, HasRead, Begins, IsRefusalOf}
use Rattle.pb_archive.specs.Opened.{Register, Stands, kept_of, register_after}
use Rattle.pb_archive.specs.Refusals.{HasNoArchive, IsMalformed, OpenRefuses}
use Rattle.pb_archive.specs.declared.entry.EntryFault.{EntryFault}
use Rattle.pb_archive.specs.declared.entry.EntryFault.TheVariants as entry
use Rattle.pb_archive.specs.declared.fault.ArchiveFault.{ArchiveFault}
use Rattle.pb_archive.specs.declared.fault.ArchiveFault.TheVariants as archive
use Rattle.pb_io.specs.Crash.{Changes}
use Rattle.pb_io.specs.Settled.{IsSettled, LeftBy, Leaves}
use Rattle.pb_io.specs.View.{View, IsLawful}
use Rattle.pb_io.proofs.Moments.{LeavesOnly-trans}
use Rattle.pb_io.proofs.RunLemmas.{world_before}
use Rattle.pb_journal.specs.Changes.{Keeps, Same, SameEntries}
use Rattle.pb_journal.specs.Refusals.{IsVacant}
use Rattle.pb_journal.proofs.LawLemmas.{one_list, refused_none}
use Rattle.pb_archive.proofs.RegisterLemmas.{kept_after, allowed_here, here_allowed, spelled_allowed}
use Rattle.pb_archive.proofs.LeadsLemmas.{IsArchive-push, kept_allowed, same_plan, none_with}

-- ---- what is so of every archive

leads_kept : (a b : Archive) (bodies : List (List ℕ)) → IsRegister (kept_of a) → length a.plan.stations ≤ stations_max → Leads a bodies b → IsRegister (kept_of b) × (length b.plan.stations ≤ stations_max)
leads_kept a b [] kept few leads = subst (λ (x : Archive). IsRegister (kept_of x) × (length x.plan.stations ≤ stations_max)) (sym leads) (kept, few)
leads_kept a b (body ∷ bodies) kept few leads =
    leads_kept (archive_after a leads.0) b bodies (kept_allowed a leads.0 kept few leads.2)
    (subst (λ (p : Plan). length p.stations ≤ stations_max) (sym (same_plan a leads.0)) few) leads.3

pub archive_kept : (b : Archive) (bodies : List (List ℕ)) → IsArchive bodies b → IsRegister (kept_of b) × (length b.plan.stations ≤ stations_max)
archive_kept b [] is = absurd is
archive_kept b (body ∷ bodies) is = leads_kept (created is.0) b bodies (record { each = tt; few = omega arith }) is.2.begun.few is.3

-- ---- the journal

pub rests_entries : (gate : ℕ) (bodies : List (List ℕ)) (file : List ℕ) → RestsAt gate bodies file → Entries file bodies
rests_entries gate bodies file rests = record {
  tail = 0 ∷ [];
  bytes = rests.bytes;
  fit = rests.fit;
  closed = record { gate = 0; more = []; bytes = refl; closed = inr refl };
}

module _ (new : Reading) (gate : ℕ) (file : List ℕ) (bodies : List (List ℕ)) where
  pub read_none : (b : Bool) → b ≡ false → Read new gate file bodies b → bodies ≡ []
  read_none true is read = absurd (true≢false is)
  read_none false is read = read.0

  pub read_some : (b : Bool) → b ≡ true → Read new gate file bodies b → (rest : List (List ℕ)) × (bodies ≡ new.body ∷ rest) × IsReading new gate file rest
  read_some true is read = read
  read_some false is read = absurd (true≢false (sym is))

place_of : (done rest : List (List ℕ)) (reading : Reading) (gate : ℕ) (file : List ℕ) → RestsAt gate (done ++ rest) file → IsReading reading gate file rest → reading.place ≡ gate_place done
place_of done rest reading gate file rests ahead =
    omega (arith, rests.place, ahead.ahead.end, ap length (blocks-append done rest), length-append (blocks done) (blocks rest))

-- ---- refusals

pub refusal_is : (view : Option (List ℕ)) (fault : EntryFault) (at : ℕ) (answer : ArchiveFault) → IsRefusalOf fault at answer → (fault ≡ entry.Wrong → ForSome view (IsMalformed at)) → OpenRefuses view answer
refusal_is view entry.Wrong at answer is wrong = subst (OpenRefuses view) (sym is) (wrong refl)
refusal_is view entry.Memory at answer is wrong = subst (OpenRefuses view) (sym is) tt

-- ---- the plan

module _ (old new : Reading) (gate : ℕ) (file : List ℕ) (begins : Begins old gate file) where
  pub none_created : (b : Bool) → b ≡ false → Read new gate file begins.bodies b → HasNoArchive file
  none_created b is read = inr (subst (Entries file) (read_none new gate file begins.bodies b is read) (rests_entries gate begins.bodies file begins.rests))

  pub plan_breaks : (b : Bool) → b ≡ true → Read new gate file begins.bodies b → (body : List ℕ) → body ≡ new.body → ((p : Plan) → IsPlan p → body ≡ plan_bytes p → ⊥) → IsMalformed old.place file
  plan_breaks b is read body at wrong =
      let some = read_some new gate file begins.bodies b is read in
      inr (record {
        before = [];
        body = new.body;
        after = some.0;
        entries = subst (Entries file) some.1 (rests_entries gate begins.bodies file begins.rests);
        sound = inl refl;
        broken = λ a other. wrong other.0 other.2 (at ∙ other.1);
        place = place_of [] begins.bodies old gate file begins.rests begins.ahead;
      })

  pub plan_read : (b : Bool) → b ≡ true → Read new gate file begins.bodies b → (body : List ℕ) → body ≡ new.body → (p : Plan) (register : Register) → IsPlan p → body ≡ plan_bytes p → register ≡ record { plan = p; tables = [] }
      → HasRead register new gate file
  plan_read b is read body at p register planned bytes same =
      let some = read_some new gate file begins.bodies b is read in
      record {
        done = new.body ∷ [];
        rest = some.0;
        rests = subst (λ (l : List (List ℕ)). RestsAt gate l file) some.1 begins.rests;
        ahead = some.2;
        archive = created p;
        entries = (p, sym at ∙ bytes, planned, refl);
        same = same;
      }

-- ---- the next entry

module _ (register : Register) (old new : Reading) (gate : ℕ) (file : List ℕ) (so_far : HasRead register old gate file) where
  pub all_read : (b : Bool) → b ≡ false → Read new gate file so_far.rest b → Stands register gate file
  all_read b is read =
      let none = read_none new gate file so_far.rest b is read in
      record {
        bodies = so_far.done;
        rests = subst (λ (l : List (List ℕ)). RestsAt gate l file) (ap (λ (l : List (List ℕ)). so_far.done ++ l) none ∙ append-nil so_far.done) so_far.rests;
        archive = so_far.archive;
        entries = so_far.entries;
        same = so_far.same;
      }

  pub entry_breaks : (b : Bool) → b ≡ true → Read new gate file so_far.rest b → (body : List ℕ) → body ≡ new.body
      → ((said : Change) → IsSpelled said → body ≡ change_bytes said → AllowsHere register said → ⊥) → IsMalformed old.place file
  entry_breaks b is read body at wrong =
      let some = read_some new gate file so_far.rest b is read in
      let kept = archive_kept so_far.archive so_far.done so_far.entries in
      inr (record {
        before = so_far.done;
        body = new.body;
        after = some.0;
        entries = subst (λ (l : List (List ℕ)). Entries file (so_far.done ++ l)) some.1 (rests_entries gate (so_far.done ++ so_far.rest) file so_far.rests);
        sound = inr (so_far.archive, so_far.entries);
        broken = λ a other.
            none_with so_far.archive a so_far.done new.body so_far.entries
            (λ change bytes allowed.
            wrong change (spelled_allowed so_far.archive kept.0 kept.1 change allowed) (at ∙ bytes)
            (subst (λ (r : Register). AllowsHere r change) (sym so_far.same) (here_allowed so_far.archive kept.0 kept.1 change allowed)))
            other;
        place = place_of so_far.done so_far.rest old gate file so_far.rests so_far.ahead;
      })

  pub entry_read : (b : Bool) → b ≡ true → Read new gate file so_far.rest b → (body : List ℕ) → body ≡ new.body → (said : Change) (next : Register) → IsSpelled said → body ≡ change_bytes said
      → AllowsHere register said → next ≡ register_after register said → HasRead next new gate file
  entry_read b is read body at said next spelled bytes allows makes =
      let some = read_some new gate file so_far.rest b is read in
      let here = subst (λ (r : Register). AllowsHere r said) so_far.same allows in
      let allowed = allowed_here so_far.archive said here spelled in
      record {
        done = so_far.done ++ new.body ∷ [];
        rest = some.0;
        rests = subst (λ (l : List (List ℕ)). RestsAt gate l file) (ap (λ (l : List (List ℕ)). so_far.done ++ l) some.1 ∙ sym (append_assoc so_far.done (new.body ∷ []) some.0)) so_far.rests;
        ahead = some.2;
        archive = archive_after so_far.archive said;
        entries = IsArchive-push so_far.archive so_far.done new.body said so_far.entries (sym at ∙ bytes) allowed;
        same = makes ∙ ap (λ (r : Register). register_after r said) so_far.same ∙ sym (kept_after so_far.archive said allowed);
      }

-- ---- what was refused once the journal was opened

pub vacant_none : (file : List ℕ) (bodies : List (List ℕ)) → Entries file bodies → IsVacant file → ⊥
vacant_none file bodies e (inl short) =
    omega (arith, short, ap length e.bytes, length-append header (blocks bodies ++ e.tail), length-append (blocks bodies) e.tail, ap length e.closed.bytes)
vacant_none file bodies e (inr (long, other)) = other (ap (λ (l : List ℕ). get_or l 0 0) e.bytes)

no_archive : (f g : List ℕ) → SameEntries f g → HasNoArchive g → HasNoArchive f
no_archive f g same (inl vacant) = absurd (vacant_none g same.0 same.2 vacant)
no_archive f g same (inr none) = inr (subst (Entries f) (one_list g same.0 [] same.2 none) same.1)

malformed : (f g : List ℕ) (at : ℕ) → SameEntries f g → IsMalformed at g → IsMalformed at f
malformed f g at same (inl broken) = absurd (refused_none g at same.0 broken.1 same.2)
malformed f g at same (inr breaks) = inr (record {
  before = breaks.before;
  body = breaks.body;
  after = breaks.after;
  entries = subst (Entries f) (one_list g same.0 (breaks.before ++ breaks.body ∷ breaks.after) same.2 breaks.entries) same.1;
  sound = breaks.sound;
  broken = breaks.broken;
  place = breaks.place;
})

pub refused_before : (old mid : Option (List ℕ)) (fault : ArchiveFault) → Changes SameEntries old mid → OpenRefuses mid fault → OpenRefuses old fault
refused_before old mid archive.NotCreated changes refused = λ f view. let g = changes.on f view in no_archive f g.0 g.2 (refused g.0 g.1)
refused_before old mid (archive.Format at) changes refused = λ f view. let g = changes.on f view in malformed f g.0 at g.2 (refused g.0 g.1)
refused_before old mid archive.DiskFault changes refused = tt
refused_before old mid archive.Memory changes refused = tt
refused_before old mid archive.Exists changes refused = refused
refused_before old mid archive.MustReopen changes refused = refused
refused_before old mid (archive.Stopped told) changes refused = refused
refused_before old mid archive.TooMany changes refused = refused

-- what a crash leaves of an opening and of the reading after it
pub opening_leaves : (old mid new : View) → IsLawful old → Changes SameEntries old.file mid.file → IsSettled mid → mid.link ≡ old.link → Leaves Keeps old mid → Leaves Same mid new → Leaves Keeps old new
opening_leaves old mid new lawful same settled link first second =
    LeavesOnly-trans old mid new (LeftBy Keeps old) (LeftBy Same mid) (LeftBy Keeps old) first second (λ w c p. p)
    (λ w c p.
    let f = same.back p.1.0 (settled p.1.0 p.1.1) in
    let there : SameEntries f.0 c = subst (SameEntries f.0) (sym p.1.2) f.2 in
    (world_before old mid w link p.0, (f.0, lawful.reads f.0 f.1, inr there)))
