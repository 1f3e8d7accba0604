-- The items of a table in their order, and the first of them that is refused. An item is one number
-- or one text.
use Rattle.std.specs.Prelude.{◌≡◌, ℕ, ◌%◌, pos, Bool, true, is_some, ◌&&◌, ◌||◌, List, [], ◌∷◌, ◌++◌, length, Result, Ok, Err, nat_lt, nat_le, ◌==◌, if◌then◌else◌}
use Rattle.std.specs.Int.{w8, w32}
use Rattle.pb_base.specs.declared.nsec.Nsec.{Nsec}
use Rattle.pb_base.specs.declared.fields.FieldFault.{FieldFault}
use Rattle.pb_base.specs.declared.fields.FieldFault.TheVariants as field
use Rattle.pb_base.specs.Fields.{Unread, number_at, text_at}
use Rattle.pb_base.specs.Time.{time_at}
use Rattle.pb_tdf.specs.declared.fault.TdfFault.{TdfFault}
use Rattle.pb_tdf.specs.declared.fault.TdfFault.TheVariants.{Short, NoEnd, BadType, TooMany}
use Rattle.pb_tdf.specs.Kinds.{value_bytes}
use Rattle.pb_tdf.specs.Definition.{FieldDefinition, Definition, is_interval, all_values, all_record_bytes, fields_max, values_max, record_bytes_max}

-- ---- one item

-- the refusal of an item that can't be read
abbrev pub placed : ℕ → FieldFault → TdfFault
placed at (field.Short end) = Short at
placed at (field.NoEnd start) = NoEnd at

-- an item's value and what is left after it, or a refusal
abbrev pub Read : Type 0 → Type 0
Read A = Result (A × Unread) TdfFault

-- What comes of an item at the place `at`, where `limit` is the first place that no item may reach. It
-- can't be read; or its value isn't of the type that is wanted; or it passes a limit.
abbrev pub judged : {A : Type 0} → ℕ → ℕ → Result (A × Unread) FieldFault
    → (A → Bool) → (A → Bool) → Read A
judged limit at (Err fault) is_typed is_within = Err (placed at fault)
judged limit at (Ok read) is_typed is_within =
    if is_typed read.0 then (if nat_lt at limit && is_within read.0 then Ok read else Err (TooMany at))
    else Err (BadType at)

-- The item before may have passed the limit of bytes; that place comes first.
abbrev pub item : {A : Type 0} → ℕ → Unread → Result (A × Unread) FieldFault
    → (A → Bool) → (A → Bool) → Read A
item limit u read is_typed is_within =
    if nat_lt limit u.at then Err (TooMany limit) else judged limit u.at read is_typed is_within

abbrev pub any : {A : Type 0} → A → Bool
any value = true

abbrev pub byte_item : ℕ → Unread → Read ℕ
byte_item limit u = item limit u (number_at w8 u) any any

abbrev pub word_item : ℕ → Unread → Read ℕ
word_item limit u = item limit u (number_at w32 u) any any

abbrev pub text_item : ℕ → Unread → Read (List ℕ)
text_item limit u = item limit u (text_at u) any any

abbrev pub time_item : ℕ → Unread → Read Nsec
time_item limit u = item limit u (time_at u) any any

abbrev pub interval_item : ℕ → Unread → Read Nsec
interval_item limit u = item limit u (time_at u) is_interval any

-- a type byte after so many fields, or the 0 that ends them
abbrev pub is_type : ℕ → Bool
is_type n = (n == 0) || is_some (value_bytes (n % 128))

abbrev pub has_room : ℕ → ℕ → Bool
has_room fields n = (n == 0) || nat_lt fields fields_max

abbrev pub type_item : ℕ → ℕ → Unread → Read ℕ
type_item fields limit u = item limit u (number_at w8 u) is_type (has_room fields)

-- the dimension of a field after these fields
abbrev pub has_dimension : List FieldDefinition → FieldDefinition → ℕ → Bool
has_dimension fields f n =
    let with = fields ++ record f { dimension = n } ∷ [] in
    nat_le (all_values with) values_max && nat_le (all_record_bytes with) record_bytes_max

abbrev pub dimension_item : List FieldDefinition → FieldDefinition → ℕ → Unread → Read ℕ
dimension_item fields f limit u = item limit u (number_at w32 u) any (has_dimension fields f)

-- ---- their order

-- which item comes next
pub data Next : Type 0 where
  Name : Next
  Size : Next
  TimeType : Next
  Into : Next
  Interval : Next
  Kind : Next
  FieldName : Next
  Alias : Next
  Processing : Next
  Units : Next
  Description : Next
  Begin : Next
  Dimension : Next
  SubDimension : Next

-- the point that a reading has come to: what was read of the table and of the field that is being read,
-- and the bytes that are left
pub record Point : Type 0 where
  pub next : Next
  pub table : Definition
  pub field : FieldDefinition
  pub left : Unread

-- an item leads on, or it ends the table
pub data Step : Type 0 where
  On : Point → Step
  Done : Read Definition → Step

abbrev pub leads : {A : Type 0} → Read A → (A → Unread → Step) → Step
leads (Ok read) on = on read.0 read.1
leads (Err fault) on = Done (Err fault)

abbrev pub no_time : Nsec
no_time = record { sec = pos 0; nano = pos 0 }

abbrev pub no_table : Definition
no_table = record { name = []; size = 0; time_type = 0; into = no_time; interval = no_time; fields = [] }

-- a field of which the type byte alone was read
abbrev pub begun_field : ℕ → FieldDefinition
begun_field n =
    record {
      kind = n % 128;
      read_only = nat_le 128 n;
      name = [];
      aliases = [];
      processing = [];
      units = [];
      description = [];
      begin = 0;
      dimension = 0;
      sub_dimensions = [];
    }

abbrev pub with_field : Definition → FieldDefinition → Definition
with_field d f = record d { fields = d.fields ++ f ∷ [] }

abbrev pub at_item : Next → Definition → FieldDefinition → Unread → Point
at_item next d f u = record { next = next; table = d; field = f; left = u }

-- on to an item, with what was read before it
abbrev pub to : Next → Definition → FieldDefinition → Unread → Step
to next d f u = On (at_item next d f u)

-- What each item adds, and the item that comes next. An empty alias ends the aliases, a sub-dimension of 0
-- ends the field, and a type of 0 ends the table.
abbrev pub step_at : Next → ℕ → Definition → FieldDefinition → Unread → Step
step_at Name limit d f u = leads (text_item limit u) (λ name v. to Size (record d { name = name }) f v)
step_at Size limit d f u = leads (word_item limit u) (λ size v. to TimeType (record d { size = size }) f v)
step_at TimeType limit d f u = leads (byte_item limit u) (λ type v. to Into (record d { time_type = type }) f v)
step_at Into limit d f u = leads (time_item limit u) (λ into v. to Interval (record d { into = into }) f v)
step_at Interval limit d f u =
    leads (interval_item limit u) (λ interval v. to Kind (record d { interval = interval; fields = [] }) f v)
step_at Kind limit d f u =
    leads (type_item (length d.fields) limit u)
    (λ n v. if n == 0 then Done (Ok (d, v)) else to FieldName d (begun_field n) v)
step_at FieldName limit d f u =
    leads (text_item limit u) (λ name v. to Alias d (record f { name = name; aliases = [] }) v)
step_at Alias limit d f u =
    leads (text_item limit u) (λ alias v.
    if length alias == 0 then to Processing d f v else to Alias d (record f { aliases = f.aliases ++ alias ∷ [] }) v)
step_at Processing limit d f u = leads (text_item limit u) (λ text v. to Units d (record f { processing = text }) v)
step_at Units limit d f u = leads (text_item limit u) (λ text v. to Description d (record f { units = text }) v)
step_at Description limit d f u = leads (text_item limit u) (λ text v. to Begin d (record f { description = text }) v)
step_at Begin limit d f u = leads (word_item limit u) (λ begin v. to Dimension d (record f { begin = begin }) v)
step_at Dimension limit d f u =
    leads (dimension_item d.fields f limit u)
    (λ dimension v. to SubDimension d (record f { dimension = dimension; sub_dimensions = [] }) v)
step_at SubDimension limit d f u =
    leads (word_item limit u) (λ n v.
    if n == 0 then to Kind (with_field d f) f v
    else to SubDimension d (record f { sub_dimensions = f.sub_dimensions ++ n ∷ [] }) v)

-- the next item
abbrev pub step : ℕ → Point → Step
step limit s = step_at s.next limit s.table s.field s.left

-- items that were read, one after another
pub data Reaches (limit : ℕ) : Point → Point → Type 0 where
  Here : (s t : Point) → s ≡ t → Reaches limit s t
  Later : (s t u : Point) → step limit s ≡ On t → Reaches limit t u → Reaches limit s u

-- After items that were read comes the one that ends the table, or that is refused.
pub record ComesTo (limit : ℕ) (from : Point) (outcome : Read Definition) : Type 0 where
  pub last : Point
  pub items : Reaches limit from last
  pub ends : step limit last ≡ Done outcome

-- where a table begins
abbrev pub table_begins : Unread → Point
table_begins u = at_item Name no_table (begun_field 0) u
