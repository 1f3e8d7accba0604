-- What contracts see of an archive that was opened, and what is so of the disk on which it is.
use Rattle.std.specs.Prelude.{◌≡◌, ℕ, ◌+◌, ◌-◌, ◌<◌, ◌≤◌, List, [], ◌∷◌, ◌++◌, length, map, slice_get, Option, None, Some, Ok}
use Rattle.std.specs.List.{AllByRecursion}
use Rattle.pb_base.specs.declared.layout.Layout.{Layout}
use Rattle.std.specs.Option.{ForSome}
use Rattle.pb_io.specs.Settled.{IsSettled}
use Rattle.pb_io.specs.View.{View}
use Rattle.pb_journal.specs.Opened.{OpenJournal, RestsAt}
use Rattle.pb_tdf.specs.View.{TableView, view_of}
use Rattle.pb_archive.specs.Plan.{Plan}
use Rattle.pb_archive.specs.Archive.{Table, Archive, front, changed_at}
use Rattle.pb_archive.specs.Entry.{Advance, Change, Added, Advanced, Stopped, HasForm, IsArchive, tables_max, records_max, advance_bytes_max}
use Rattle.pb_archive.specs.declared.held.Held.{Held}
use Rattle.pb_archive.specs.declared.table_view.Stop.{Stop}

-- the plan, and of each table its definition, its front, the number of its gap numbers and its stop; no records
pub record Register : Type 0 where
  pub plan : Plan
  pub tables : List Held

pub record OpenArchive : Type 0 where
  pub plan : Plan
  pub tables : List Held
  pub journal : OpenJournal

abbrev pub register_of : OpenArchive → Register
register_of o = record { plan = o.plan; tables = o.tables }

-- how many rows are gaps
abbrev pub gaps_in : List (Option (List ℕ)) → ℕ
gaps_in [] = 0
gaps_in (None ∷ rows) = 1 + gaps_in rows
gaps_in (Some bytes ∷ rows) = gaps_in rows

abbrev pub held_of : Table → Held
held_of t =
    record {
      station = t.station;
      number = record { 0 = t.key.number };
      table = view_of t.definition;
      front = front t;
      gaps = gaps_in t.rows;
      stop = t.stop;
    }

-- what is kept in memory of an archive
abbrev pub kept_of : Archive → Register
kept_of a = record { plan = a.plan; tables = map held_of a.tables }

-- The file's archive is the one of which this is kept, and it ends with the gate at this place.
pub record Stands (register : Register) (gate : ℕ) (file : List ℕ) : Type 0 where
  pub bodies : List (List ℕ)
  pub rests : RestsAt gate bodies file
  pub archive : Archive
  pub entries : IsArchive bodies archive
  pub same : register ≡ kept_of archive

-- The file, where it is known, is the archive's, and nothing is pending.
pub record IsOpen (o : OpenArchive) (disk : View) : Type 0 where
  pub stands : ForSome disk.file (Stands (register_of o) o.journal.gate)
  pub settled : IsSettled disk

-- ---- what a change makes of what is kept

abbrev pub new_held : ℕ → ℕ → TableView → Held
new_held station number table =
    record { station = station; number = record { 0 = number }; table = table; front = 0; gaps = 0; stop = None }

abbrev pub advanced : Advance → Held → Held
advanced a held = record held { front = a.first + a.count; gaps = held.gaps + (a.first - held.front) }

abbrev pub ended : Stop → Held → Held
ended stop held = record held { stop = Some stop }

abbrev pub with_table : Register → ℕ → ℕ → TableView → Register
with_table r station number table = record r { tables = r.tables ++ new_held station number table ∷ [] }

abbrev pub register_after : Register → Change → Register
register_after r (Added station number definition) = with_table r station number (view_of definition)
register_after r (Advanced id a) = record r { tables = changed_at id (advanced a) r.tables }
register_after r (Stopped id stop) = record r { tables = changed_at id (ended stop) r.tables }

-- ---- what may follow, by what is kept

abbrev pub HasLayout : TableView → Type 0
HasLayout table = (layout : Layout) × (table.layout ≡ Ok layout)

-- what is so of every table: its station is in the plan, and its records have a layout
pub record IsCollectable (plan : Plan) (held : Held) : Type 0 where
  pub station : held.station < length plan.stations
  pub layout : HasLayout held.table

abbrev pub IsOther : ℕ → ℕ → Held → Type 0
IsOther station number held = held.station ≡ station → held.number.0 ≡ number → ⊥

pub record CanAddHere (r : Register) (station number : ℕ) (table : TableView) : Type 0 where
  pub there : station < length r.plan.stations
  pub new : AllByRecursion (IsOther station number) r.tables
  pub collected : HasLayout table
  pub room : length r.tables < tables_max

pub record IsGoingOnHere (r : Register) (id : ℕ) (held : Held) : Type 0 where
  pub there : slice_get r.tables id ≡ Some held
  pub going_on : held.stop ≡ None

-- the table at this place is there and has no stop
abbrev pub GoesOn : Register → ℕ → Type 0
GoesOn r id = (held : Held) × IsGoingOnHere r id held

pub record CanAdvanceHere (held : Held) (a : Advance) : Type 0 where
  pub first : held.front ≤ a.first
  pub rises : held.front < a.first + a.count
  pub numbers : a.first + a.count ≤ records_max
  pub layout : Layout
  pub has_layout : held.table.layout ≡ Ok layout
  pub form : HasForm layout a
  pub few : length a.bytes ≤ advance_bytes_max

abbrev pub AllowsHere : Register → Change → Type 0
AllowsHere r (Added station number definition) = CanAddHere r station number (view_of definition)
AllowsHere r (Advanced id a) = (held : Held) × IsGoingOnHere r id held × CanAdvanceHere held a
AllowsHere r (Stopped id stop) = (held : Held) × IsGoingOnHere r id held

-- ---- changes, by the arguments of their calls

abbrev pub stop_of : ℕ → Option ℕ → Change
stop_of id told = Stopped id (record { told = told })

abbrev pub advance_of : ℕ → ℕ → ℕ → List ℕ → Advance
advance_of form first count bytes = record { form = form; first = first; count = count; bytes = bytes }

abbrev pub an_advance : ℕ → ℕ → ℕ → ℕ → List ℕ → Change
an_advance id form first count bytes = Advanced id (advance_of form first count bytes)
