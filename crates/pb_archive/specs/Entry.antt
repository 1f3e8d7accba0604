-- The entries of an archive: their bytes, which may follow which, and the archive that they make.
use Rattle.std.specs.Prelude.{◌≡◌, ⊤, ℕ, ◌+◌, ◌-◌, ◌*◌, ◌^◌, ◌<◌, ◌≤◌, ◌⊎◌, zero, suc, false, ◌==◌, if◌then◌else◌, List, [], ◌∷◌, ◌++◌, length, map, take, drop, slice_get, Option, None, Some}
use Rattle.std.specs.List.{flat_map}
use Rattle.std.specs.Int.{w16, w32, to_be_bytes}
use Rattle.pb_base.specs.declared.layout.Layout.{Layout}
use Rattle.pb_base.specs.Record.{content, content_len, cut_records}
use Rattle.pb_record.specs.Cut.{IsRun}
use Rattle.pb_tdf.specs.Definition.{Definition, IsTable, table_bytes, has_asciiz}
use Rattle.pb_tdf.specs.View.{signature_of}
use Rattle.pb_archive.specs.Plan.{Plan, IsPlan}
use Rattle.pb_archive.specs.Archive.{Table, Archive, front, record_layout, changed_at, grown, stopped}
use Rattle.pb_archive.specs.declared.plan.StationPlan.{StationPlan}
use Rattle.pb_archive.specs.declared.table_view.Stop.{Stop}

-- the next records of a table: in form 0 whole contents, in form 1 one time and the field bytes after it
pub record Advance : Type 0 where
  pub form : ℕ
  pub first : ℕ
  pub count : ℕ
  pub bytes : List ℕ

-- an entry after the plan
pub data Change : Type 0 where
  Added : (station number : ℕ) (definition : Definition) → Change
  Advanced : (id : ℕ) (advance : Advance) → Change
  Stopped : (id : ℕ) (stop : Stop) → Change

-- ---- bytes

-- the first byte of an entry: P, T, A or S
abbrev pub plan_kind : ℕ
plan_kind = 0x50

abbrev pub table_kind : ℕ
table_kind = 0x54

abbrev pub advance_kind : ℕ
advance_kind = 0x41

abbrev pub stop_kind : ℕ
stop_kind = 0x53

abbrev pub half : ℕ → List ℕ
half n = to_be_bytes w16 n

abbrev pub word : ℕ → List ℕ
word n = to_be_bytes w32 n

abbrev pub station_bytes : StationPlan → List ℕ
station_bytes s = half s.addr ++ (half s.code ++ (s.name ++ 0 ∷ []))

abbrev pub plan_bytes : Plan → List ℕ
plan_bytes p = plan_kind ∷ (half p.me ++ (half p.via ++ length p.stations ∷ flat_map station_bytes p.stations))

-- whether a signature was told, and then it, or 0
abbrev pub told_bytes : Option ℕ → List ℕ
told_bytes None = 0 ∷ half 0
told_bytes (Some signature) = 1 ∷ half signature

abbrev pub change_bytes : Change → List ℕ
change_bytes (Added station number definition) = table_kind ∷ station ∷ (half number ++ table_bytes definition)
change_bytes (Advanced id a) = advance_kind ∷ (half id ++ a.form ∷ (word a.first ++ (half a.count ++ a.bytes)))
change_bytes (Stopped id stop) = stop_kind ∷ (half id ++ told_bytes stop.told)

-- ---- the contents of an advance

-- so many pieces of one size
abbrev pub pieces : ℕ → ℕ → List ℕ → List (List ℕ)
pieces size zero bytes = []
pieces size (suc n) bytes = take size bytes ∷ pieces size n (drop size bytes)

-- In form 1 each record has the time of the first, and an interval for each record before it.
abbrev pub contents : Layout → Advance → List (List ℕ)
contents layout a =
    if a.form == 0 then pieces (content_len layout) a.count a.bytes else map content (cut_records layout a.count a.bytes)

-- contents, as many as the count says
pub record IsWhole (layout : Layout) (a : Advance) : Type 0 where
  pub form : a.form ≡ 0
  pub len : length a.bytes ≡ a.count * content_len layout

-- a run of an interval table, in which each record has a time
pub record IsTimed (layout : Layout) (a : Advance) : Type 0 where
  pub form : a.form ≡ 1
  pub interval : layout.event ≡ false
  pub some : 0 < a.count
  pub run : IsRun layout a.first a.count a.bytes

abbrev pub HasForm : Layout → Advance → Type 0
HasForm layout a = IsWhole layout a ⊎ IsTimed layout a

-- ---- what may follow

abbrev pub tables_max : ℕ
tables_max = 1024

-- the most records of a table, whose numbers are below it
abbrev pub records_max : ℕ
records_max = 2 ^ 32 - 1

-- the most bytes of the records of one advance
abbrev pub advance_bytes_max : ℕ
advance_bytes_max = 65523

-- no table of the station has this number
abbrev pub IsNew : Archive → ℕ → ℕ → Type 0
IsNew a station number = (id : ℕ) (t : Table) → slice_get a.tables id ≡ Some t → t.station ≡ station → t.key.number ≡ number → ⊥

pub record CanAdd (a : Archive) (station number : ℕ) (definition : Definition) : Type 0 where
  pub there : station < length a.plan.stations
  pub has_two_bytes : number < 2 ^ 16
  pub new : IsNew a station number
  pub defined : IsTable definition
  pub collected : has_asciiz definition.fields ≡ false
  pub room : length a.tables < tables_max

-- the table at this place has no stop
pub record IsGoingOn (a : Archive) (id : ℕ) (t : Table) : Type 0 where
  pub there : slice_get a.tables id ≡ Some t
  pub going_on : t.stop ≡ None

pub record CanAdvance (t : Table) (a : Advance) : Type 0 where
  -- what was kept isn't touched, and the front rises
  pub first : front t ≤ a.first
  pub rises : front t < a.first + a.count
  pub count : a.count < 2 ^ 16
  pub numbers : a.first + a.count ≤ records_max
  pub form : HasForm (record_layout t.definition) a
  pub few : length a.bytes ≤ advance_bytes_max

-- a signature has two bytes
abbrev pub IsTold : Option ℕ → Type 0
IsTold None = ⊤
IsTold (Some signature) = signature < 2 ^ 16

abbrev pub IsAllowed : Archive → Change → Type 0
IsAllowed a (Added station number definition) = CanAdd a station number definition
IsAllowed a (Advanced id advance) = (t : Table) × IsGoingOn a id t × CanAdvance t advance
IsAllowed a (Stopped id stop) = (t : Table) × IsGoingOn a id t × IsTold stop.told

-- ---- what they make

abbrev pub created : Plan → Archive
created plan = record { plan = plan; tables = [] }

-- the address of a station; 0 where there is none
abbrev pub address_of : Option StationPlan → ℕ
address_of None = 0
address_of (Some s) = s.addr

abbrev pub new_table : Plan → ℕ → ℕ → Definition → Table
new_table plan station number definition =
    record {
      me = plan.me;
      station = station;
      key = record {
        station = address_of (slice_get plan.stations station);
        number = number;
        signature = signature_of definition;
      };
      definition = definition;
      rows = [];
      stop = None;
    }

-- Tables are numbered from 0 in the order of their entries.
abbrev pub archive_after : Archive → Change → Archive
archive_after a (Added station number definition) =
    record a { tables = a.tables ++ new_table a.plan station number definition ∷ [] }
archive_after a (Advanced id advance) =
    record a { tables = changed_at id (λ t. grown advance.first (contents (record_layout t.definition) advance) t) a.tables }
archive_after a (Stopped id stop) = record a { tables = changed_at id (stopped stop) a.tables }

-- these entries lead from one archive to another
abbrev pub Leads : Archive → List (List ℕ) → Archive → Type 0
Leads a [] b = b ≡ a
Leads a (body ∷ bodies) b =
    (change : Change) × (body ≡ change_bytes change) × IsAllowed a change × Leads (archive_after a change) bodies b

-- The entries are this archive: a plan, and then changes, each allowed where it stands.
abbrev pub IsArchive : List (List ℕ) → Archive → Type 0
IsArchive [] a = ⊥
IsArchive (body ∷ bodies) a = (plan : Plan) × (body ≡ plan_bytes plan) × IsPlan plan × Leads (created plan) bodies a
