-- The stations' files, one after the other.
use Rattle.std.proofs.Common.{◌≡◌, ⊎_elim, inl, inr, ℕ, zero, suc, ◌+◌, List, [], ◌∷◌, ◌++◌, length, map, Some, Result, Ok, Err, IfErr, OnErr, refl, sym, ◌∙◌, ap, subst, add-one, append_assoc}
use Rattle.std.specs.Prelude.{slice_get}
use Rattle.pb_io.specs.View.{View, Link}
use Rattle.pb_tdf.specs.View.{view_of}
use Rattle.pb_archive.specs.Archive.{Table, Archive}
use Rattle.pb_archive.specs.Opened.{Register, held_of, kept_of, register_after}
use Rattle.pb_archive.specs.Plan.{Plan}
use Rattle.pb_archive.specs.declared.held.Held.{Held}
use Rattle.pb_archive.proofs.RegisterLemmas.{at_before}
use Rattle.pb_trans.specs.declared.asked.Limits.{Limits}
use Rattle.pb_collect.specs.Adding.{HoldsAtLeast}
use Rattle.pb_collect.specs.Fetching.{AddedStand, ContactCame, ContactStops, Fetched, FetchedUntil, FileReads, FileStops, IsNamedBy, StationCame, StationsCame}
use Rattle.pb_collect.specs.Report.{station_line}
use Rattle.pb_collect.specs.Tables.{Channel}
use Rattle.pb_collect.specs.declared.command.Contact.{Contact}
use Rattle.pb_collect.specs.declared.fault.DefsFault.{DefsFault}
use Rattle.pb_collect.specs.declared.fault.DefsFault.TheVariants.{DiskFault, LinkFault, Memory}
use Rattle.pb_collect.specs.declared.report.DefsLine.{DefsLine}
use Rattle.pb_collect.specs.declared.report.DefsWhat.TheVariants.{Bad, Failed}
use Rattle.pb_collect.proofs.DefiningLemmas.{IsHeldBy, Stand, held_later, stand_line, stand_none, stand_tables, stand_trans, tables_after, tables_plan}

-- ---- a fault

-- what follows from want of memory, where that is the one fault
pub memory_stops : {T : Type 0} (r : Result T DefsFault) (Q : Type 0) (P : DefsFault → Type 0) → IfErr r (λ (f : DefsFault). f ≡ Memory) → OnErr r Q → (Q → P Memory) → IfErr r P
memory_stops (Ok x) Q P is none so = is
memory_stops (Err f) Q P is none so = subst P (sym is) (so none)

-- ---- the plan stays

reads_plan : (n : ℕ) (file : List ℕ) (lines : List DefsLine) (before after : Register) → FileReads n file lines before after → after.plan ≡ before.plan
reads_plan n file lines before after (inl bad) = ap (λ (r : Register). r.plan) bad.nothing
reads_plan n file lines before after (inr d) = tables_plan n (map view_of d.definitions) (length d.definitions) lines before after d.came

contact_plan : (limits : Limits) (contact : Contact) (n : ℕ) (lines : List DefsLine) (from to : Channel) (before after : Register) → ContactCame limits contact n lines from to before after → after.plan ≡ before.plan
contact_plan limits contact n lines from to before after (inl fails) = ap (λ (r : Register). r.plan) fails.nothing
contact_plan limits contact n lines from to before after (inr comes) = reads_plan n comes.file lines before after comes.reads

pub station_plan : (limits : Limits) (plan : Plan) (n : ℕ) (lines : List DefsLine) (from to : Channel) (before after : Register) → StationCame limits plan n lines from to before after → after.plan ≡ before.plan
station_plan limits plan n lines from to before after s = contact_plan limits s.contact n lines from to before after s.came

-- ---- one station more

pub next_station : (limits : Limits) (plan here : Plan) (n : ℕ) (from mid to : Channel) (before r after : Register) (old now new : List DefsLine)
    → here ≡ plan → ((lines : List DefsLine) × (now ≡ old ++ lines) × StationsCame limits plan n lines from mid before r)
    → ((lines : List DefsLine) × (new ≡ now ++ lines) × StationCame limits here n lines mid to r after)
    → (lines : List DefsLine) × (new ≡ old ++ lines) × StationsCame limits plan (n + 1) lines from to before after
next_station limits plan here n from mid to before r after old now new same came next = (
  came.0 ++ next.0,
  next.1 ∙ ap (λ l. l ++ next.0) came.1 ∙ append_assoc old came.0 next.0,
  subst (λ k. StationsCame limits plan k (came.0 ++ next.0) from to before after) (sym (add-one n))
      (came.0, next.0, mid, r, refl, came.2, subst (λ (p : Plan). StationCame limits p n next.0 mid to r after) same next.2),
)

-- ---- what stands

reads_stand : (n : ℕ) (file : List ℕ) (lines : List DefsLine) (before after : Register) → FileReads n file lines before after → Stand lines before after
reads_stand n file lines before after (inl bad) = stand_line (station_line n (Bad bad.at)) lines before after bad.line (λ is. cc) bad.nothing
reads_stand n file lines before after (inr d) = stand_tables n (map view_of d.definitions) (length d.definitions) lines before after d.came

contact_stand : (limits : Limits) (contact : Contact) (n : ℕ) (lines : List DefsLine) (from to : Channel) (before after : Register) → ContactCame limits contact n lines from to before after → Stand lines before after
contact_stand limits contact n lines from to before after (inl fails) = stand_line (station_line n (Failed fails.cause)) lines before after fails.line (λ is. cc) fails.nothing
contact_stand limits contact n lines from to before after (inr comes) = reads_stand n comes.file lines before after comes.reads

stations_stand : (limits : Limits) (plan : Plan) (n : ℕ) (lines : List DefsLine) (from to : Channel) (before after : Register) → StationsCame limits plan n lines from to before after → Stand lines before after
stations_stand limits plan zero lines from to before after came = stand_none lines before after came.0 came.2
stations_stand limits plan (suc n) lines from to before after came =
    stand_trans came.0 came.1 lines before came.3 after came.4 (stations_stand limits plan n came.0 from came.2 before came.3 came.5)
    (contact_stand limits came.6.contact n came.1 came.2 to came.3 after came.6.came)

file_stand : (fault : DefsFault) (n : ℕ) (file : List ℕ) (lines : List DefsLine) (before after : Register) → FileStops fault n file lines before after → Stand lines before after
file_stand DiskFault n file lines before after h = stand_tables n (map view_of h.definitions) h.treated lines before after h.came
file_stand Memory n file lines before after (inl h) = stand_tables n (map view_of h.definitions) h.treated lines before after h.came
file_stand Memory n file lines before after (inr idle) = stand_none lines before after idle.no_lines idle.nothing
file_stand LinkFault n file lines before after h = absurd h

stops_stand : (fault : DefsFault) (limits : Limits) (contact : Contact) (n : ℕ) (lines : List DefsLine) (from : Channel) (link : Link) (before after : Register) → ContactStops fault limits contact n lines from link before after → Stand lines before after
stops_stand LinkFault limits contact n lines from link before after h = stand_none lines before after h.idle.no_lines h.idle.nothing
stops_stand DiskFault limits contact n lines from link before after h = file_stand DiskFault n h.file lines before after h.stops
stops_stand Memory limits contact n lines from link before after (inl h) = file_stand Memory n h.file lines before after h.stops
stops_stand Memory limits contact n lines from link before after (inr h) = stand_none lines before after h.idle.no_lines h.idle.nothing

pub fetched_stand : (limits : Limits) (lines : List DefsLine) (a b : Link) (before after : Register) → Fetched limits lines a b before after → Stand lines before after
fetched_stand limits lines a b before after f = stations_stand limits before.plan (length before.plan.stations) lines _ _ before after f.came

pub until_stand : (fault : DefsFault) (limits : Limits) (lines : List DefsLine) (a b : Link) (before after : Register) → FetchedUntil fault limits lines a b before after → Stand lines before after
until_stand fault limits lines a b before after (inl none) = stand_none lines before after none.idle.no_lines none.idle.nothing
until_stand fault limits lines a b before after (inr s) =
    stand_trans s.earlier s.own lines before s.register after s.are (stations_stand limits before.plan s.station s.earlier _ _ before s.register s.came)
    (stops_stand fault limits s.stops.contact s.station s.own s.mid b s.register after s.stops.stops)

-- in each file that a crash may leave
named : (line : DefsLine) (a : Archive) → IsHeldBy line (kept_of a) → (id : ℕ) × (t : Table) × (slice_get a.tables id ≡ Some t) × IsNamedBy line t
named line a held =
    let t = at_before held_of a.tables held.id held.held held.there in (
      held.id,
      t.0,
      t.1,
      record {
        station = ap (λ (h : Held). h.station) (sym t.2) ∙ held.station;
        number = ap (λ (h : Held). h.number.0) (sym t.2) ∙ held.number;
        signature = ap (λ (h : Held). h.table.signature) (sym t.2) ∙ held.signature;
        name = ap (λ (h : Held). h.table.name) (sym t.2) ∙ held.name;
      },
    )

pub added_stand : (lines : List DefsLine) (before after : Register) (now : View) → HoldsAtLeast after now → Stand lines before after → AddedStand lines now
added_stand lines before after now holds stand w image a line world is has listed what =
    let held = stand.added line listed what in
    named line a (⊎_elim (λ (same : kept_of a ≡ after). subst (λ (r : Register). IsHeldBy line r) (sym same) held)
    (λ more. subst (λ (r : Register). IsHeldBy line r) (sym more.1) (held_later line after (register_after after more.0) (tables_after after more.0) held)) (holds.each w image a world is has))

same_rest : {A : Type 0} (xs ys zs : List A) → xs ++ ys ≡ xs ++ zs → ys ≡ zs
same_rest [] ys zs is = is
same_rest (x ∷ xs) ys zs is = same_rest xs ys zs (cc)

-- the lines that were added are these
pub new_stand : (old new lines added : List DefsLine) (before after : Register) (now : View) → HoldsAtLeast after now → new ≡ old ++ added → Stand added before after
    → new ≡ old ++ lines → AddedStand lines now
new_stand old new lines added before after now holds is stand are =
    subst (λ l. AddedStand l now) (same_rest old added lines (sym is ∙ are)) (added_stand added before after now holds stand)
