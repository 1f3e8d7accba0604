-- How an archive is made, and what a crash leaves of that.
use Rattle.std.proofs.Common.{◌≡◌, inl, inr, ℕ, ◌*◌, ◌<◌, ◌≤◌, Bool, true, false, List, [], ◌∷◌, ◌++◌, length, refl, sym, subst, ◌∙◌, arith, length-append}
use Rattle.std.specs.Prelude.{Option}
use Rattle.std.specs.Option.{ForSome}
use Rattle.std.specs.List.{AllByRecursion, flat_map}
use Rattle.pb_io.specs.Crash.{Changes}
use Rattle.pb_io.specs.Settled.{IsSettled, LeftBy, Leaves}
use Rattle.pb_io.specs.View.{View, IsLawful}
use Rattle.pb_io.proofs.CrashLemmas.{Changes-same, Changes-trans, Changes-weaker}
use Rattle.pb_io.proofs.Moments.{LeavesOnly-trans, LeavesOnly-weaker}
use Rattle.pb_journal.specs.Changes.{Gains, Keeps, KeepsOrBegins, KeepsOrGains, Same, SameEntries}
use Rattle.pb_journal.specs.Entries.{Entries, max_body_len}
use Rattle.pb_journal.specs.Opened.{RestsAt}
use Rattle.pb_journal.specs.Reading.{Reading, Read}
use Rattle.pb_journal.specs.Refusals as journal
use Rattle.pb_journal.specs.Refusals.{IsVacant, IsCreated, RefusedAt}
use Rattle.pb_journal.specs.declared.fault.JournalFault.{JournalFault}
use Rattle.pb_journal.specs.declared.fault.JournalFault.TheVariants as fault
use Rattle.pb_journal.proofs.EntryLemmas.{rests_entries}
use Rattle.pb_journal.proofs.LawLemmas.{one_list, refused_none}
use Rattle.pb_archive.specs.declared.plan.StationPlan.{StationPlan}
use Rattle.pb_archive.specs.Plan.{Plan, IsStation, IsPlan}
use Rattle.pb_archive.specs.Entry.{created, plan_bytes, station_bytes}
use Rattle.pb_archive.specs.Creation.{HasEntries, Inits, IsReady, KeepsOrEmpties, KeepsOrInits}
use Rattle.pb_archive.specs.Faults.{of_journal}
use Rattle.pb_archive.specs.Held.{HasArchive}
use Rattle.pb_archive.specs.Inside.{IsCreatedNow}
use Rattle.pb_archive.specs.Refusals.{HasNoArchive, InitRefuses}
use Rattle.pb_archive.proofs.OpeningLemmas.{vacant_none}

-- ---- one after another

pub Leaves-trans : (A B C : List ℕ → List ℕ → Type 0) (old mid new : View) → IsLawful mid → ((f c : List ℕ) → A f c → C f c) → ((f m c : List ℕ) → A f m → B m c → C f c) → Leaves A old mid → Leaves B mid new → Leaves C old new
Leaves-trans A B C old mid new lawful weaker both first second =
    LeavesOnly-trans old mid new (LeftBy A old) (LeftBy B mid) (LeftBy C old) first second
    (λ w c p. (p.0, (p.1.0, p.1.1, weaker p.1.0 c p.1.2)))
    (λ w c p.
    let q = first.each w p.1.0 (lawful.counts_now old.moment w p.1.0 first.later p.0 p.1.1) in
    (q.0, (q.1.0, q.1.1, both q.1.0 p.1.0 c q.1.2 p.1.2)))

pub Leaves-weaker : (A C : List ℕ → List ℕ → Type 0) (old new : View) → ((f c : List ℕ) → old.image f → A f c → C f c) → Leaves A old new → Leaves C old new
Leaves-weaker A C old new weaker first =
    LeavesOnly-weaker old new (LeftBy A old) (LeftBy C old) first (λ w c p. (p.0, (p.1.0, p.1.1, weaker p.1.0 c p.1.1 p.1.2)))

-- ---- steps

emptied : (m c : List ℕ) → Entries m [] → SameEntries m c → Entries c []
emptied m c none same = subst (Entries c) (one_list m same.0 [] same.1 none) same.2

pub begins_empties : (f c : List ℕ) → KeepsOrBegins f c → KeepsOrEmpties f c
begins_empties f c (inl same) = inl same
begins_empties f c (inr (vacant, inl still)) = inr (inr (inl vacant, inl still))
begins_empties f c (inr (vacant, inr begun)) = inr (inr (inl vacant, inr begun))

pub begins_keeps : (f m c : List ℕ) → KeepsOrBegins f m → Keeps m c → KeepsOrEmpties f c
begins_keeps f m c (inl same) (inl at) = inl (at ∙ same)
begins_keeps f m c (inl same) (inr entries) = inr (inl (subst (λ (x : List ℕ). SameEntries x c) same entries))
begins_keeps f m c (inr begun) (inl at) = subst (KeepsOrEmpties f) (sym at) (begins_empties f m (inr begun))
begins_keeps f m c (inr (vacant, inl still)) (inr entries) = absurd (vacant_none m entries.0 entries.1 still)
begins_keeps f m c (inr (vacant, inr begun)) (inr entries) = inr (inr (inl vacant, inr (emptied m c begun entries)))

pub ready : (f m g : List ℕ) → IsCreatedNow f m → SameEntries m g → IsReady f g
ready f m g (inl begun) same = inl (inl begun.0, emptied m g begun.1 same)
ready f m g (inr (at, created)) same = inr (subst (λ (x : List ℕ). SameEntries x g) at same)

created_vacant : (f : List ℕ) → IsCreated f → IsVacant f → ⊥
created_vacant f (inl long) (inl short) = omega arith
created_vacant f (inl long) (inr vacant) = omega (arith, vacant.0)
created_vacant f (inr here) (inl short) = omega (arith, here.0)
created_vacant f (inr here) (inr vacant) = vacant.1 here.1

pub init_refused : (old mid : Option (List ℕ)) (answer : JournalFault) → Changes IsCreatedNow old mid → journal.OpenRefuses mid answer → InitRefuses old (of_journal answer)
init_refused old mid fault.NotCreated made refused = λ f view. let m = made.on f view in vacant f m.0 m.2 (refused m.0 m.1)
  where
    vacant : (f m : List ℕ) → IsCreatedNow f m → IsVacant m → ⊥
    vacant f m (inl begun) still = vacant_none m [] begun.1 still
    vacant f m (inr here) still = created_vacant f here.1 (subst IsVacant here.0 still)
init_refused old mid (fault.Format at) made refused = λ f view. let m = made.on f view in malformed f m.0 m.2 (refused m.0 m.1)
  where
    malformed : (f m : List ℕ) → IsCreatedNow f m → IsCreated m × RefusedAt m at → IsCreated f × RefusedAt f at
    malformed f m (inl begun) broken = absurd (refused_none m at [] broken.1 begun.1)
    malformed f m (inr here) broken = subst (λ (x : List ℕ). IsCreated x × RefusedAt x at) here.0 broken
init_refused old mid fault.DiskFault made refused = tt
init_refused old mid fault.Memory made refused = tt
init_refused old mid fault.Exists made refused = absurd refused
init_refused old mid fault.MustReopen made refused = refused

-- ---- the first entry

pub has_by : (new : Reading) (gate : ℕ) (file : List ℕ) (bodies : List (List ℕ)) (more : Bool) → RestsAt gate bodies file → Read new gate file bodies more → HasEntries more file
has_by new gate file bodies true rests read = (bodies, rests_entries gate bodies file rests, λ none. let both = sym none ∙ read.1 in absurd (cc both))
has_by new gate file bodies false rests read = subst (Entries file) read.0 (rests_entries gate bodies file rests)

module _ (plan : Plan) where
  pub empties_inits : (f c : List ℕ) → KeepsOrEmpties f c → KeepsOrInits plan f c
  empties_inits f c (inl same) = inl same
  empties_inits f c (inr (inl entries)) = inr (inl entries)
  empties_inits f c (inr (inr (before, after))) = inr (inr (before, inl after))

  pub empties_file : (a b : Option (List ℕ)) → Changes KeepsOrEmpties a b → Changes (KeepsOrInits plan) a b
  empties_file a b = Changes-weaker KeepsOrEmpties (KeepsOrInits plan) a b (λ f g is. empties_inits f g)

  pub looked_file : (a b c : Option (List ℕ)) → Changes KeepsOrEmpties a b → c ≡ b → Changes (KeepsOrInits plan) a c
  looked_file a b c first same = empties_file a c (Changes-same KeepsOrEmpties a b c first same)

  pub empties_same : (f m c : List ℕ) → KeepsOrEmpties f m → Same m c → KeepsOrInits plan f c
  empties_same f m c step at = subst (KeepsOrInits plan f) (sym at) (empties_inits f m step)

  pub empties_kept : (f m c : List ℕ) → KeepsOrEmpties f m → Same m c → KeepsOrEmpties f c
  empties_kept f m c step at = subst (KeepsOrEmpties f) (sym at) step

  none_before : (f m : List ℕ) → Entries m [] → KeepsOrEmpties f m → HasNoArchive f
  none_before f m none (inl at) = inr (subst (λ (x : List ℕ). Entries x []) at none)
  none_before f m none (inr (inl same)) = inr (subst (Entries f) (one_list m same.0 [] same.2 none) same.1)
  none_before f m none (inr (inr (before, after))) = before

  module _ (body : List ℕ) (is : IsPlan plan) (bytes : body ≡ plan_bytes plan) where
    begun : (m c : List ℕ) → Entries m [] → Gains body m c → HasArchive c (created plan)
    begun m c none gains = record {
      bodies = body ∷ [];
      entries = subst (λ (l : List (List ℕ)). Entries c (l ++ body ∷ [])) (one_list m gains.0 [] gains.1 none) gains.2;
      archive = (plan, bytes, is, refl);
    }

    pub inits_step : (f m c : List ℕ) → KeepsOrEmpties f m → Entries m [] × KeepsOrGains body m c → KeepsOrInits plan f c
    inits_step f m c step (none, inl (inl at)) = subst (KeepsOrInits plan f) (sym at) (empties_inits f m step)
    inits_step f m c step (none, inl (inr same)) = inr (inr (none_before f m none step, inl (inr (emptied m c none same))))
    inits_step f m c step (none, inr gains) = inr (inr (none_before f m none step, inr (begun m c none gains)))

    pub inits_made : (f m c : List ℕ) → IsReady f m × Entries m [] → Gains body m c → Inits plan f c
    inits_made f m c (inl (before, empty), none) gains = (before, begun m c none gains)
    inits_made f m c (inr same, none) gains = (inr (subst (Entries f) (one_list m same.0 [] same.2 none) same.1), begun m c none gains)

    pub init_leaves : (a b c d : View) → IsLawful b → IsLawful c → Leaves KeepsOrEmpties a b → Leaves Same b c → Leaves (KeepsOrGains body) c d → IsSettled c → ForSome c.file (λ m. Entries m [])
        → Leaves (KeepsOrInits plan) a d
    init_leaves a b c d lb lc first second third settled none =
        Leaves-trans KeepsOrEmpties (λ m x. Entries m [] × KeepsOrGains body m x) (KeepsOrInits plan) a c d lc empties_inits inits_step
        (Leaves-trans KeepsOrEmpties Same KeepsOrEmpties a b c lb (λ f x step. step) empties_kept first second)
        (Leaves-weaker (KeepsOrGains body) (λ m x. Entries m [] × KeepsOrGains body m x) c d (λ m x image step. (none m (settled m image), step)) third)

    pub init_file : (a b c d : Option (List ℕ)) → Changes KeepsOrEmpties a b → c ≡ b → ForSome c (λ m. Entries m []) → Changes (KeepsOrGains body) c d → Changes (KeepsOrInits plan) a d
    init_file a b c d first same none =
        Changes-trans KeepsOrEmpties (KeepsOrGains body) (KeepsOrInits plan) a c d (λ f m g is now step kept. inits_step f m g step (none m now, kept))
        (Changes-same KeepsOrEmpties a b c first same)

    pub init_made : (a b c d : Option (List ℕ)) → Changes IsReady a b → c ≡ b → ForSome c (λ m. Entries m []) → Changes (Gains body) c d → Changes (Inits plan) a d
    init_made a b c d is_ready same none gains = record {
      on = λ f view.
          let m = is_ready.on f view in
          let g = gains.on m.0 (same ∙ m.1) in
          (g.0, g.1, inits_made f m.0 g.0 (m.2, none m.0 (same ∙ m.1)) g.2);
      back = λ g view.
          let m = gains.back g view in
          let f = is_ready.back m.0 (sym same ∙ m.1) in
          (f.0, f.1, inits_made f.0 m.0 g (f.2, none m.0 m.1) m.2);
    }

pub has_before : (f m : List ℕ) → IsReady f m → HasEntries true m → HasEntries true f
has_before f m (inl (before, none)) has = absurd (has.2 (one_list m has.0 [] has.1 none))
has_before f m (inr same) has = (has.0, subst (Entries f) (one_list m same.0 has.0 same.2 has.1) same.1, has.2)

-- ---- how long a plan's entry is

stations_short : (me : ℕ) (stations : List StationPlan) → AllByRecursion (IsStation me) stations → length (flat_map station_bytes stations) ≤ 37 * length stations
stations_short me [] each = omega arith
stations_short me (s ∷ stations) each =
    omega (arith, stations_short me stations each.1, each.0.name.1, length-append (station_bytes s) (flat_map station_bytes stations), length-append s.name (0 ∷ []))

pub plan_short : (p : Plan) → IsPlan p → (0 < length (plan_bytes p)) × (length (plan_bytes p) ≤ max_body_len)
plan_short p is = (omega arith, omega (arith, stations_short p.me p.stations is.begun.each, is.begun.few))
