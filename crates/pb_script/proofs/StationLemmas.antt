-- The station of a script.
use Rattle.std.proofs.Common.{◌≡◌, ℕ, zero, suc, ◌+◌, ◌-◌, ◌*◌, ◌<◌, ◌≤◌, ◌^◌, List, [], ◌∷◌, length, map, Some, None, Result, Ok, Err, All, refl, sym, ap, subst, ◌∙◌, arith, length-append}
use Rattle.std.specs.Prelude.{slice_get, slice_set}
use Rattle.std.specs.List.{AllByRecursion}
use Rattle.std.proofs.Math.Nat.{mul-le-mul_right}
use Rattle.std.proofs.lemmas.Int.{ints}
use Rattle.std.proofs.lemmas.Option.{same_Some}
use Rattle.pb_base.specs.declared.layout.Layout.{Layout}
use Rattle.pb_base.specs.declared.numbers.RecNo.{RecNo}
use Rattle.pb_base.specs.World.{StoredRecord}
use Rattle.pb_ring.specs.declared.ring.Spent.{Spent}
use Rattle.pb_tdf.specs.Definition.{IsTable, IsField, IsTime, FileBytes, tables_bytes, table_bytes, all_record_bytes, all_values}
use Rattle.pb_tdf.specs.View.{view_of, is_event, layout_of as view_layout}
use Rattle.pb_tdf.proofs.FileLemmas.{one-file, no-file-fault}
use Rattle.pb_station.specs.Making.{first_fault, AreEmpty, IsEmpty, IsNew, IsRefused, HasTableFault}
use Rattle.pb_station.specs.State.{KeptStation, KeptTable, Table, State, StandsFor, TablesStandFor, TableStandsFor}
use Rattle.pb_station.specs.Storing.{HasTable, StationStores, TableStores}
use Rattle.pb_station.specs.declared.fault.StationFault.{StationFault}
use Rattle.pb_station.specs.declared.fault.StationFault.TheVariants as fault
use Rattle.pb_station.proofs.MakingLemmas.{good-size}
use Rattle.pb_script.specs.declared.table.Kind.{Kind}
use Rattle.pb_script.specs.declared.table.Kind.TheVariants.{Fp2, Ascii}
use Rattle.pb_script.specs.declared.table.ScriptTable.{ScriptTable}
use Rattle.pb_script.specs.Inside.{filling, IsFilling, after_name}
use Rattle.pb_script.specs.Script.{Script, IsScript, IsScriptTable, IsScriptName, all_ring_bytes, record_len, width}
use Rattle.pb_script.specs.Station.{definition_of, field_of, definitions_of, definition_file, layout_of, holding, filled, state_of, record_of, records_below, seconds, values_of, value_of}
use Rattle.pb_script.proofs.FileLemmas.{name_first}
use Rattle.pb_base.proofs.WordLemmas.{name_byte}
use Rattle.pb_script.proofs.LineLemmas.{counts}

-- ---- its table definition file is one

name_text : (name : List ℕ) → IsScriptName name → All (λ byte. 0 < byte) name
name_text name is k d lt = omega (arith, name_byte _ (is.2 k d lt))

letter_text : All (λ byte. 0 < byte) (86 ∷ [])
letter_text zero d lt = omega arith
letter_text (suc k) d lt = absurd (omega arith)

no_text : All (λ (byte : ℕ). 0 < byte) []
no_text k d lt = absurd (omega arith)

is-field-of : (k : Kind) (size interval n : ℕ) → n < 2 ^ 32 → IsField (field_of (record { size = size; interval = interval; kind = k; count = n }))
is-field-of Fp2 size interval n small =
    record { kind = refl; name = letter_text; aliases = tt; processing = no_text; units = no_text; description = no_text; begin = omega arith; dimension = small; sub_dimensions = tt }
is-field-of Ascii size interval n small =
    record { kind = refl; name = letter_text; aliases = tt; processing = no_text; units = no_text; description = no_text; begin = omega arith; dimension = small; sub_dimensions = tt }

record-bytes : (k : Kind) (size interval n : ℕ) → all_record_bytes (field_of (record { size = size; interval = interval; kind = k; count = n }) ∷ []) ≡ width k * n
record-bytes Fp2 size interval n = omega arith
record-bytes Ascii size interval n = omega arith

few-values : (k : Kind) (size interval n : ℕ) → width k * n ≤ 16384 → all_values (field_of (record { size = size; interval = interval; kind = k; count = n }) ∷ []) ≤ 16384
few-values Fp2 size interval n le = omega arith
few-values Ascii size interval n le = omega arith

table-len : (t : ScriptTable) → length (table_bytes (definition_of t)) ≡ length t.name + 42
table-len t = ap length (sym (name_first t)) ∙ length-append t.name (after_name t.shape)

is-time : (n : ℕ) → n < 2 ^ 31 → IsTime (seconds n)
is-time n small = (omega (arith, ints), omega (arith, ints))

is-table : (t : ScriptTable) → IsScriptTable t → IsTable (definition_of t)
is-table t is = record {
  formed = record {
    name = name_text t.name is.name;
    size = is.shape.size.1;
    time_type = omega arith;
    into = is-time 0 (omega arith);
    interval = (is-time t.shape.interval (omega (arith, is.shape.interval)), refl);
    fields = (is-field-of t.shape.kind t.shape.size t.shape.interval t.shape.count (counts t.shape is.shape), tt);
  };
  within = record {
    fields = omega arith;
    values = few-values t.shape.kind t.shape.size t.shape.interval t.shape.count is.shape.record_bytes;
    record_bytes = omega (arith, record-bytes t.shape.kind t.shape.size t.shape.interval t.shape.count, is.shape.record_bytes);
    bytes = omega (arith, table-len t, is.name.1);
  };
  same = refl;
}

are-tables : (tables : List ScriptTable) → AllByRecursion IsScriptTable tables → AllByRecursion IsTable (map definition_of tables)
are-tables [] each = tt
are-tables (t ∷ tables) each = (is-table t each.0, are-tables tables each.1)

tables-len : (tables : List ScriptTable) → AllByRecursion IsScriptTable tables → length (tables_bytes (map definition_of tables)) ≤ 75 * length tables
tables-len [] each = omega arith
tables-len (t ∷ tables) each =
    omega (arith, length-append (table_bytes (definition_of t)) (tables_bytes (map definition_of tables)), table-len t, each.0.name.1, tables-len tables each.1)

definitions-len : (tables : List ScriptTable) → length (map definition_of tables) ≡ length tables
definitions-len [] = refl
definitions-len (t ∷ tables) = ap suc (definitions-len tables)

pub file_is : (s : Script) → IsScript s → FileBytes (definitions_of s) (definition_file s)
file_is s is = record {
  each = are-tables s.tables is.each;
  count = omega (arith, definitions-len s.tables, is.few);
  len = omega (arith, tables-len s.tables is.each, is.few);
  same = refl;
}

-- ---- it is a station's

layout-of : (k : Kind) (name : List ℕ) (size interval n stored : ℕ)
    → view_layout (definition_of (record { name = name; shape = record { size = size; interval = interval; kind = k; count = n }; stored = stored })) ≡ Ok (layout_of (record { size = size; interval = interval; kind = k; count = n }))
layout-of Fp2 name size interval n stored = ap (λ (len : ℕ). Ok (record { record_len = len; event = is_event (seconds interval); interval = seconds interval })) (record-bytes Fp2 size interval n)
layout-of Ascii name size interval n stored = ap (λ (len : ℕ). Ok (record { record_len = len; event = is_event (seconds interval); interval = seconds interval })) (record-bytes Ascii size interval n)

layout-is : (t : ScriptTable) → view_layout (definition_of t) ≡ Ok (layout_of t.shape)
layout-is t = layout-of t.shape.kind t.name t.shape.size t.shape.interval t.shape.count t.stored

sound : (tables : List ScriptTable) (number used : ℕ) → AllByRecursion IsScriptTable tables → used + all_ring_bytes tables ≤ 67108864 → first_fault number used (map view_of (map definition_of tables)) ≡ None
sound [] number used each room = refl
sound (t ∷ tables) number used each room =
    good-size number used (view_of (definition_of t)) (map view_of (map definition_of tables)) (layout_of t.shape) (layout-is t) each.0.shape.size.0 (omega (arith, room))
    ∙ sound tables (number + 1) (used + t.shape.size * (8 + record_len t.shape)) each.1 (omega (arith, room))

one-empty : (t : ScriptTable) (table : Table) → IsEmpty (view_of (definition_of t)) table → table ≡ holding 0 t
one-empty t table e =
    let layout : table.layout ≡ layout_of t.shape = cc (e.layout, layout-is t) in
    λ j. record { signature = e.signature j; layout = layout j; capacity = e.capacity j; stored = e.stored j }

empties : (ts : List ScriptTable) (tables : List Table) → AreEmpty (map view_of (map definition_of ts)) tables → tables ≡ map (holding 0) ts
empties [] [] e = refl
empties [] (x ∷ tables) e = absurd e
empties (t ∷ ts) [] e = absurd e
empties (t ∷ ts) (x ∷ tables) e = λ j. one-empty t x e.0 j ∷ empties ts tables e.1 j

filling-none : (ts : List ScriptTable) → filling ts 0 0 ≡ map (holding 0) ts
filling-none [] = refl
filling-none (t ∷ ts) = refl

pub begins : (s : Script) (kept : KeptStation) (state : State) → IsScript s → IsNew s.addr s.code (definition_file s) state → StandsFor kept state
    → IsFilling kept s.tables 0 0 × (kept.device ≡ (state_of s).device)
begins s kept state is new stands =
    let same = one-file (definition_file s) new.definitions (definitions_of s) new.are (file_is s is) in
    let empty = empties s.tables state.tables (subst (λ ds. AreEmpty (map view_of ds) state.tables) same new.tables) in
    (record { device = refl; tables = subst (TablesStandFor kept.tables) (empty ∙ sym (filling-none s.tables)) stands.tables }, stands.device ∙ new.device)

no-fault : (s : Script) (f : StationFault) → IsScript s → HasTableFault (definition_file s) f → ⊥
no-fault s f is h =
    let same = one-file (definition_file s) h.definitions (definitions_of s) h.are (file_is s is) in
    let none = sound s.tables 1 0 is.each (omega (arith, is.room)) in
    let some = subst (λ ds. first_fault 1 0 (map view_of ds) ≡ Some f) same h.first in
    cc (none, some)

-- a script's station is refused for want of memory alone
pub only_memory : (s : Script) (f : StationFault) → IsScript s → IsRefused (definition_file s) f → f ≡ fault.Memory
only_memory s (fault.Tdf e) is h = absurd (no-file-fault (definition_file s) (definitions_of s) e (file_is s is) h)
only_memory s (fault.Uncollectable table) is h = absurd (no-fault s _ is h)
only_memory s (fault.BadSize table) is h = absurd (no-fault s _ is h)
only_memory s fault.Memory is h = refl

-- ---- its tables while they are filled

filling-at : (ts : List ScriptTable) (place n : ℕ) (t : ScriptTable) → slice_get ts place ≡ Some t → slice_get (filling ts place n) place ≡ Some (holding n t)
filling-at [] place n t at = absurd cc
filling-at (x ∷ ts) zero n t at = ap (λ y. Some (holding n y)) (same_Some x t at)
filling-at (x ∷ ts) (suc place) n t at = filling-at ts place n t at

filling-set : (ts : List ScriptTable) (place n : ℕ) (t : ScriptTable) → slice_get ts place ≡ Some t → slice_set (filling ts place n) place (holding (suc n) t) ≡ filling ts place (suc n)
filling-set [] place n t at = absurd cc
filling-set (x ∷ ts) zero n t at = ap (λ y. holding (suc n) y ∷ map (holding 0) ts) (sym (same_Some x t at))
filling-set (x ∷ ts) (suc place) n t at = ap (λ l. filled x ∷ l) (filling-set ts place n t at)

pub filling-next : (ts : List ScriptTable) (place : ℕ) (t : ScriptTable) → slice_get ts place ≡ Some t → filling ts place t.stored ≡ filling ts (suc place) 0
filling-next [] place t at = refl
filling-next (x ∷ ts) zero t at = ap (λ y. holding y.stored x ∷ map (holding 0) ts) (sym (same_Some x t at)) ∙ ap (λ l. filled x ∷ l) (sym (filling-none ts))
filling-next (x ∷ ts) (suc place) t at = ap (λ l. filled x ∷ l) (filling-next ts place t at)

pub filling-all : (ts : List ScriptTable) → filling ts (length ts) 0 ≡ map filled ts
filling-all [] = refl
filling-all (t ∷ ts) = ap (λ l. filled t ∷ l) (filling-all ts)

pub each-at : (ts : List ScriptTable) (place : ℕ) (t : ScriptTable) → AllByRecursion IsScriptTable ts → slice_get ts place ≡ Some t → IsScriptTable t
each-at [] place t each at = absurd cc
each-at (x ∷ ts) zero t each at = subst IsScriptTable (same_Some x t at) each.0
each-at (x ∷ ts) (suc place) t each at = each-at ts place t each.1 at

record KeptAt (kept : List KeptTable) (n : ℕ) (t : Table) : Type 0 where
  pub held : KeptTable
  pub is : slice_get kept n ≡ Some held
  pub stands : TableStandsFor held t

kept-at : (kept : List KeptTable) (tables : List Table) (n : ℕ) (t : Table) → TablesStandFor kept tables → slice_get tables n ≡ Some t → KeptAt kept n t
kept-at kept [] n t stand at = absurd cc
kept-at [] (x ∷ tables) n t stand at = absurd stand
kept-at (k ∷ kept) (x ∷ tables) zero t stand at = record { held = k; is = refl; stands = subst (TableStandsFor k) (same_Some x t at) stand.0 }
kept-at (k ∷ kept) (x ∷ tables) (suc n) t stand at =
    let more = kept-at kept tables n t stand.1 at in
    record { held = more.held; is = more.is; stands = more.stands }

value-len : (k : Kind) (n i : ℕ) → length (value_of k n i) ≡ width k
value-len Fp2 n i = refl
value-len Ascii n i = refl

times-more : (k : Kind) (count : ℕ) → width k * count + width k ≡ width k * suc count
times-more Fp2 count = omega arith
times-more Ascii count = omega arith

pub values-len : (k : Kind) (n count : ℕ) → length (values_of k n count) ≡ width k * count
values-len Fp2 n zero = refl
values-len Ascii n zero = refl
values-len k n (suc count) = omega (arith, length-append (values_of k n count) (value_of k n count), values-len k n count, value-len k n count, times-more k count)

pub has_table : (kept : KeptStation) (ts : List ScriptTable) (place n number len : ℕ) (t : ScriptTable) → number ≡ suc place → slice_get ts place ≡ Some t → IsFilling kept ts place n → len ≡ record_len t.shape → HasTable kept.tables number len
has_table kept ts place n number len t is at stands same =
    let k = kept-at kept.tables (filling ts place n) place (holding n t) stands.tables (filling-at ts place n t at) in
    subst (λ (m : ℕ). HasTable kept.tables m len) (sym is) (k.held, k.is, same ∙ sym (ap (λ (l : Layout). l.record_len) k.stands.layout))

records-len : (t : ScriptTable) (n : ℕ) → length (records_below t n) ≡ n
records-len t zero = refl
records-len t (suc n) = omega (arith, length-append (records_below t n) (record_of t n ∷ []), records-len t n)

stored-next : (kept new : KeptStation) (ts : List ScriptTable) (place n : ℕ) (t : ScriptTable) (result : Result RecNo Spent) → slice_get ts place ≡ Some t → n < 1000000
    → TableStores (record { device = kept.device; tables = filling ts place n }) place (Some (holding n t)) (record_of t n) kept new result
    → IsFilling new ts place (suc n) × (new.device ≡ kept.device)
stored-next kept new ts place n t (Ok number) at few s =
    (record { device = refl; tables = subst (TablesStandFor new.tables) (filling-set ts place n t at) s.2.tables }, s.2.device)
stored-next kept new ts place n t (Err spent) at few s = absurd (omega (arith, s.0, records-len t n))

pub stored_one : (kept new : KeptStation) (ts : List ScriptTable) (place n number : ℕ) (t : ScriptTable) (r : StoredRecord) (result : Result RecNo Spent) → number ≡ suc place → slice_get ts place ≡ Some t → n < 1000000
    → IsFilling kept ts place n → r ≡ record_of t n → ((state : State) → StandsFor kept state → StationStores state number r kept new result)
    → IsFilling new ts place (n + 1) × (new.device ≡ kept.device)
stored_one kept new ts place n number t r result is at few stands same stores =
    let state : State = record { device = kept.device; tables = filling ts place n } in
    let here : StationStores state (suc place) (record_of t n) kept new result = subst (λ (m : ℕ). StationStores state m (record_of t n) kept new result) is (subst (λ x. StationStores state number x kept new result) same (stores state stands)) in
    let one = stored-next kept new ts place n t result at few (subst (λ x. TableStores state place x (record_of t n) kept new result) (filling-at ts place n t at) here) in
    (subst (λ (m : ℕ). IsFilling new ts place m) (one_more n) one.0, one.1)
  where
    one_more : (m : ℕ) → suc m ≡ m + 1
    one_more m = omega arith

-- the record's time
pub time_fits : (t : ScriptTable) (n step : ℕ) → IsScriptTable t → n < t.stored → n * step ≤ (t.stored - 1) * step
time_fits t n step is lt = mul-le-mul_right step (omega arith)

-- a station whose tables are all filled is the script's
pub all_filled : (s : Script) (kept : KeptStation) → IsFilling kept s.tables (length s.tables) 0 → kept.device ≡ (state_of s).device → StandsFor kept (state_of s)
all_filled s kept stands device = record { device = device; tables = subst (TablesStandFor kept.tables) (filling-all s.tables) stands.tables }

pub begins_as : (d s : Script) (kept : KeptStation) (addr code : ℕ) (file : List ℕ) (state : State) → d ≡ s → addr ≡ d.addr → code ≡ d.code → file ≡ definition_file d → IsScript d → IsNew addr code file state → StandsFor kept state
    → IsFilling kept s.tables 0 0 × (kept.device ≡ (state_of s).device)
begins_as d s kept addr code file state same a b f is new stands =
    subst (λ (x : Script). IsFilling kept x.tables 0 0 × (kept.device ≡ (state_of x).device)) same
    (begins d kept state is (subst (λ (n : ℕ). IsNew n d.code (definition_file d) state) a (subst (λ (n : ℕ). IsNew addr n (definition_file d) state) b (subst (λ l. IsNew addr code l state) f new))) stands)
