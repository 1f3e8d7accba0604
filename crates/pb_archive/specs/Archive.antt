-- What an archive keeps: of each table every number below its front once, as the record's bytes or as a gap.
use Rattle.std.specs.Prelude.{◌≡◌, ℕ, zero, suc, ◌-◌, List, [], ◌∷◌, ◌++◌, length, map, replicate, slice_get, Option, None, Some}
use Rattle.pb_base.specs.declared.layout.Layout.{Layout}
use Rattle.pb_base.specs.World.{TableDefinition}
use Rattle.pb_base.specs.History.{TableKey, IsFront}
use Rattle.pb_tdf.specs.Definition.{Definition, table_bytes, all_record_bytes}
use Rattle.pb_tdf.specs.View.{is_event, signature_of}
use Rattle.pb_archive.specs.Plan.{Plan}
use Rattle.pb_archive.specs.declared.table_view.Stop.{Stop}

-- A table of a station. The place of a row is the record's number; None is a gap.
pub record Table : Type 0 where
  -- the address that asks for it
  pub me : ℕ
  -- its station's place in the plan, from 0
  pub station : ℕ
  -- the station's address, the table's number and the signature of its definition
  pub key : TableKey
  pub definition : Definition
  pub rows : List (Option (List ℕ))
  -- no more is collected
  pub stop : Option Stop

pub record Archive : Type 0 where
  pub plan : Plan
  pub tables : List Table

-- the next number to collect
abbrev pub front : Table → ℕ
front t = length t.rows

-- how the records of a collected table are cut
abbrev pub record_layout : Definition → Layout
record_layout d = record { record_len = all_record_bytes d.fields; event = is_event d.interval; interval = d.interval }

-- a definition as worlds tell it
abbrev pub told_definition : Definition → TableDefinition
told_definition d = record { bytes = table_bytes d; signature = signature_of d; layout = record_layout d }

-- this function of the one at a place; the others stay
abbrev pub changed_at : {A : Type 0} → ℕ → (A → A) → List A → List A
changed_at n f [] = []
changed_at zero f (x ∷ xs) = f x ∷ xs
changed_at (suc n) f (x ∷ xs) = x ∷ changed_at n f xs

-- gaps up to a number, and then these contents
abbrev pub grown : ℕ → List (List ℕ) → Table → Table
grown first contents t = record t { rows = t.rows ++ (replicate (first - length t.rows) None ++ map Some contents) }

abbrev pub stopped : Stop → Table → Table
stopped stop t = record t { stop = Some stop }

-- ---- what goes on

-- the same table; rows and a stop may come
pub record ExtendsTable (old new : Table) : Type 0 where
  pub me : new.me ≡ old.me
  pub station : new.station ≡ old.station
  pub key : new.key ≡ old.key
  pub definition : new.definition ≡ old.definition
  pub rows : IsFront old.rows new.rows
  pub stop : (stop : Stop) → old.stop ≡ Some stop → new.stop ≡ Some stop

-- the same plan, and each table at its place
pub record Extends (old new : Archive) : Type 0 where
  pub plan : new.plan ≡ old.plan
  pub tables : (id : ℕ) (t : Table) → slice_get old.tables id ≡ Some t
      → (u : Table) × (slice_get new.tables id ≡ Some u) × ExtendsTable t u
