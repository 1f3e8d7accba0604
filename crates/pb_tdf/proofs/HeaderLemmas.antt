-- The items of a table before its fields.
use Rattle.std.proofs.Common.{◌≡◌, ℕ, List, [], Err, refl}
use Rattle.pb_base.specs.declared.nsec.Nsec.{Nsec}
use Rattle.pb_tdf.specs.declared.fault.TdfFault.{TdfFault}
use Rattle.pb_tdf.specs.Definition.{Definition}
use Rattle.pb_tdf.specs.Inside.Items.{Limited, ReadsItem}
use Rattle.pb_tdf.specs.Order.{Next, Name, Size, TimeType, Into, Interval, Kind, at_item, table_begins, begun_field, no_table, text_item, word_item, byte_item, time_item, interval_item}
use Rattle.pb_tdf.specs.Inside.Passing.{Passes, IsStopped}
use Rattle.pb_tdf.proofs.PassLemmas.{passes-none, passes-then, passes-one, comes-then, stops-one}

-- a table was read up to an item
abbrev pub Headed : Limited → Limited → Next → Definition → Type 0
Headed old new next d = Passes old new (table_begins old.left) (at_item next d (begun_field 0) new.left)

pub none-read : (old : Limited) → Headed old old Name no_table
none-read old = passes-none old (table_begins old.left)

module _ (o0 o1 o2 : Limited) (d : Definition) where
  pub name-read : (x : List ℕ) → Headed o0 o1 Name d → ReadsItem text_item o1 o2 x → Headed o0 o2 Size (record d { name = x })
  name-read x k r =
      let e : Definition = record d { name = x } in
      passes-then _ _ _ _ _ _ k (passes-one text_item o1 o2 (at_item Name d (begun_field 0) o1.left) (at_item Size e (begun_field 0) o2.left) x _ r refl refl)

  pub name-stops : (fault : TdfFault) → Headed o0 o1 Name d → text_item o1.limit o1.left ≡ Err fault → IsStopped o0 (table_begins o0.left) fault
  name-stops fault k is = comes-then _ _ _ _ _ k (stops-one text_item o1 (at_item Name d (begun_field 0) o1.left) fault _ is refl)

  pub size-read : (x : ℕ) → Headed o0 o1 Size d → ReadsItem word_item o1 o2 x → Headed o0 o2 TimeType (record d { size = x })
  size-read x k r =
      let e : Definition = record d { size = x } in
      passes-then _ _ _ _ _ _ k (passes-one word_item o1 o2 (at_item Size d (begun_field 0) o1.left) (at_item TimeType e (begun_field 0) o2.left) x _ r refl refl)

  pub size-stops : (fault : TdfFault) → Headed o0 o1 Size d → word_item o1.limit o1.left ≡ Err fault → IsStopped o0 (table_begins o0.left) fault
  size-stops fault k is = comes-then _ _ _ _ _ k (stops-one word_item o1 (at_item Size d (begun_field 0) o1.left) fault _ is refl)

  pub type-read : (x : ℕ) → Headed o0 o1 TimeType d → ReadsItem byte_item o1 o2 x → Headed o0 o2 Into (record d { time_type = x })
  type-read x k r =
      let e : Definition = record d { time_type = x } in
      passes-then _ _ _ _ _ _ k (passes-one byte_item o1 o2 (at_item TimeType d (begun_field 0) o1.left) (at_item Into e (begun_field 0) o2.left) x _ r refl refl)

  pub type-stops : (fault : TdfFault) → Headed o0 o1 TimeType d → byte_item o1.limit o1.left ≡ Err fault → IsStopped o0 (table_begins o0.left) fault
  type-stops fault k is = comes-then _ _ _ _ _ k (stops-one byte_item o1 (at_item TimeType d (begun_field 0) o1.left) fault _ is refl)

  pub into-read : (x : Nsec) → Headed o0 o1 Into d → ReadsItem time_item o1 o2 x → Headed o0 o2 Interval (record d { into = x })
  into-read x k r =
      let e : Definition = record d { into = x } in
      passes-then _ _ _ _ _ _ k (passes-one time_item o1 o2 (at_item Into d (begun_field 0) o1.left) (at_item Interval e (begun_field 0) o2.left) x _ r refl refl)

  pub into-stops : (fault : TdfFault) → Headed o0 o1 Into d → time_item o1.limit o1.left ≡ Err fault → IsStopped o0 (table_begins o0.left) fault
  into-stops fault k is = comes-then _ _ _ _ _ k (stops-one time_item o1 (at_item Into d (begun_field 0) o1.left) fault _ is refl)

  pub interval-read : (x : Nsec) → Headed o0 o1 Interval d → ReadsItem interval_item o1 o2 x → Headed o0 o2 Kind (record d { interval = x; fields = [] })
  interval-read x k r =
      let e : Definition = record d { interval = x; fields = [] } in
      passes-then _ _ _ _ _ _ k (passes-one interval_item o1 o2 (at_item Interval d (begun_field 0) o1.left) (at_item Kind e (begun_field 0) o2.left) x _ r refl refl)

  pub interval-stops : (fault : TdfFault) → Headed o0 o1 Interval d → interval_item o1.limit o1.left ≡ Err fault → IsStopped o0 (table_begins o0.left) fault
  interval-stops fault k is = comes-then _ _ _ _ _ k (stops-one interval_item o1 (at_item Interval d (begun_field 0) o1.left) fault _ is refl)
