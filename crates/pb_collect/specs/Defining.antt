-- What comes of the tables that a station's file defines.
use Rattle.std.specs.Prelude.{◌≡◌, ◌≢◌, ◌⊎◌, ℕ, zero, suc, ◌<◌, List, [], ◌∷◌, ◌++◌, length, slice_get, None, Some, Result, Ok, Err, true, false}
use Rattle.std.specs.List.{AllByRecursion}
use Rattle.pb_io.specs.View.{View}
use Rattle.pb_tdf.specs.View.{TableView, no_layout}
use Rattle.pb_archive.specs.Entry.{Stopped, tables_max}
use Rattle.pb_archive.specs.Opened.{HasLayout, IsOpen, IsOther, OpenArchive, Register, register_after, register_of, with_table}
use Rattle.pb_archive.specs.Refusals.{NeedsOpening}
use Rattle.pb_archive.specs.declared.held.Held.{Held}
use Rattle.pb_archive.specs.declared.table_view.Stop.{Stop}
use Rattle.pb_collect.specs.Adding.{Adds, HoldsAtLeast}
use Rattle.pb_collect.specs.Exchanges.{Goes, RoseAlone}
use Rattle.pb_collect.specs.declared.report.DefsLine.{DefsLine}
use Rattle.pb_collect.specs.declared.report.DefsWhat.{DefsWhat}
use Rattle.pb_collect.specs.declared.report.DefsWhat.TheVariants.{Added, Same, Redefined, NotText, NotFull, Failed, Bad}
use Rattle.pb_collect.specs.declared.fault.DefsFault.{DefsFault}
use Rattle.pb_collect.specs.declared.fault.DefsFault.TheVariants.{DiskFault, LinkFault, Memory}

-- ---- one table

-- the archive has the table k of the station n at this place
pub record IsAt (r : Register) (n k id : ℕ) (held : Held) : Type 0 where
  pub there : slice_get r.tables id ≡ Some held
  pub station : held.station ≡ n
  pub number : held.number.0 ≡ k

-- the table at this place has a stop that tells this signature, or the stop that it had before
abbrev pub StopsAt : ℕ → Held → ℕ → Register → Register → Type 0
StopsAt id held signature before after =
    ((held.stop ≡ None) × (after ≡ register_after before (Stopped id (record { told = Some signature }))))
    ⊎ ((stop : Stop) × (held.stop ≡ Some stop) × (after ≡ before))

-- What is kept of the archive changes by what comes of a table: it is added where no table of the station has its number and
-- there is room; a table of its number under another signature is stopped where it has no stop; else nothing changes.
abbrev pub Treats : ℕ → ℕ → TableView → DefsWhat → Register → Register → Type 0
Treats station number t NotText before after = (t.layout ≡ Err no_layout) × (after ≡ before)
Treats station number t Same before after =
    HasLayout t
    × ((id : ℕ) × (held : Held) × IsAt before station number id held × (held.table.signature ≡ t.signature) × (after ≡ before))
Treats station number t (Redefined old) before after =
    HasLayout t × (old ≢ t.signature)
    × ((id : ℕ) × (held : Held) × IsAt before station number id held × (held.table.signature ≡ old)
    × StopsAt id held t.signature before after)
Treats station number t NotFull before after =
    HasLayout t × AllByRecursion (IsOther station number) before.tables × (length before.tables ≡ tables_max) × (after ≡ before)
Treats station number t Added before after =
    HasLayout t × AllByRecursion (IsOther station number) before.tables × (length before.tables < tables_max)
    × (after ≡ with_table before station number t)
Treats station number t (Failed cause) before after = ⊥
Treats station number t (Bad at) before after = ⊥

-- a line names the table k of the station n, and says what came of it
pub record TableCame (n k : ℕ) (t : TableView) (line : DefsLine) (before after : Register) : Type 0 where
  pub station : line.station ≡ n
  pub number : line.number.0 ≡ k
  pub sig : line.sig ≡ t.signature
  pub name : line.name ≡ t.name
  pub what : Treats n k t line.what before after

-- ---- the first tables of a file, numbered from 1

-- a line for each of so many, in their order
abbrev pub TablesCame : ℕ → List TableView → ℕ → List DefsLine → Register → Register → Type 0
TablesCame station tables zero lines before after = (lines ≡ []) × (after ≡ before)
TablesCame station tables (suc n) lines before after =
    (earlier : List DefsLine) × (line : DefsLine) × (t : TableView) × (mid : Register) × (lines ≡ earlier ++ line ∷ [])
    × TablesCame station tables n earlier before mid × (slice_get tables n ≡ Some t) × TableCame station (suc n) t line mid after

-- ---- calls of the disk alone

-- What they keep: what each image holds is what is held now, or that and one change more; the archives go on; the link stays.
pub record DiskKeeps (o : OpenArchive) (old new : View) : Type 0 where
  pub holds : HoldsAtLeast (register_of o) new
  pub adds : Adds old new
  pub link : new.link ≡ old.link

-- ---- faults

-- What a fault leaves: after a failed disk call the archive must be opened again; after another one it stays usable. Its own
-- count rose, and no other.
abbrev pub FaultLeaves : DefsFault → OpenArchive → View → View → Type 0
FaultLeaves DiskFault o old new = NeedsOpening o true × RoseAlone old.faults new.faults old.link.faults new.link.faults
FaultLeaves LinkFault o old new =
    NeedsOpening o false × IsOpen o new × RoseAlone old.link.faults new.link.faults old.faults new.faults
FaultLeaves Memory o old new = Goes o old new

-- the same of calls of the disk alone
abbrev pub DiskLeaves : DefsFault → OpenArchive → View → View → Type 0
DiskLeaves DiskFault o old new = FaultLeaves DiskFault o old new
DiskLeaves LinkFault o old new = ⊥
DiskLeaves Memory o old new = FaultLeaves Memory o old new

-- How they end: without a fault the archive goes on.
abbrev pub DiskEnds : {A : Type 0} → Result A DefsFault → OpenArchive → View → View → Type 0
DiskEnds (Ok x) o old new = Goes o old new
DiskEnds (Err fault) o old new = DiskLeaves fault o old new
