-- The items of a field between its type and its dimension.
use Rattle.std.proofs.Common.{◌≡◌, ℕ, List, [], Ok, Err, refl}
use Rattle.pb_tdf.specs.declared.fault.TdfFault.{TdfFault}
use Rattle.pb_tdf.specs.Definition.{Definition, FieldDefinition}
use Rattle.pb_tdf.specs.Inside.Items.{Limited, ReadsItem}
use Rattle.pb_tdf.specs.Order.{Next, FieldName, Alias, Processing, Units, Description, Begin, Dimension, at_item, text_item, word_item}
use Rattle.pb_tdf.specs.Inside.Passing.{Passes, IsStopped, PassesTexts}
use Rattle.pb_tdf.proofs.PassLemmas.{passes-then, passes-one, comes-then, stops-one}

-- a field of this name was read up to an item
pub record Described (old new : Limited) (next : Next) (d : Definition) (f : FieldDefinition) (name : List ℕ) : Type 0 where
  pub field : FieldDefinition
  pub passes : Passes old new (at_item FieldName d f old.left) (at_item next d field new.left)
  pub same_kind : field.kind ≡ f.kind
  pub same_name : field.name ≡ name

module _ (o0 o1 o2 : Limited) (d : Definition) (f : FieldDefinition) (name : List ℕ) where
  pub name-read : ReadsItem text_item o0 o1 name → Described o0 o1 Alias d f name
  name-read r =
      let g : FieldDefinition = record f { name = name; aliases = [] } in
      record { field = g; passes = passes-one text_item o0 o1 (at_item FieldName d f o0.left) (at_item Alias d g o1.left) name _ r refl refl; same_kind = refl; same_name = refl }

  pub aliases-read : Described o0 o1 Alias d f name → PassesTexts o1 o2 (Ok tt) → Described o0 o2 Processing d f name
  aliases-read k p =
      let t = p d k.field in
      record { field = record k.field { aliases = t.0 }; passes = passes-then _ _ _ _ _ _ k.passes t.1; same_kind = k.same_kind; same_name = k.same_name }

  pub processing-read : (x : List ℕ) → Described o0 o1 Processing d f name → ReadsItem text_item o1 o2 x → Described o0 o2 Units d f name
  processing-read x k r =
      let g : FieldDefinition = record k.field { processing = x } in
      record { field = g; passes = passes-then _ _ _ _ _ _ k.passes (passes-one text_item o1 o2 (at_item Processing d k.field o1.left) (at_item Units d g o2.left) x _ r refl refl); same_kind = k.same_kind; same_name = k.same_name }

  pub units-read : (x : List ℕ) → Described o0 o1 Units d f name → ReadsItem text_item o1 o2 x → Described o0 o2 Description d f name
  units-read x k r =
      let g : FieldDefinition = record k.field { units = x } in
      record { field = g; passes = passes-then _ _ _ _ _ _ k.passes (passes-one text_item o1 o2 (at_item Units d k.field o1.left) (at_item Description d g o2.left) x _ r refl refl); same_kind = k.same_kind; same_name = k.same_name }

  pub description-read : (x : List ℕ) → Described o0 o1 Description d f name → ReadsItem text_item o1 o2 x → Described o0 o2 Begin d f name
  description-read x k r =
      let g : FieldDefinition = record k.field { description = x } in
      record { field = g; passes = passes-then _ _ _ _ _ _ k.passes (passes-one text_item o1 o2 (at_item Description d k.field o1.left) (at_item Begin d g o2.left) x _ r refl refl); same_kind = k.same_kind; same_name = k.same_name }

  pub begin-read : (x : ℕ) → Described o0 o1 Begin d f name → ReadsItem word_item o1 o2 x → Described o0 o2 Dimension d f name
  begin-read x k r =
      let g : FieldDefinition = record k.field { begin = x } in
      record { field = g; passes = passes-then _ _ _ _ _ _ k.passes (passes-one word_item o1 o2 (at_item Begin d k.field o1.left) (at_item Dimension d g o2.left) x _ r refl refl); same_kind = k.same_kind; same_name = k.same_name }

  pub processing-stops : (fault : TdfFault) → Described o0 o1 Processing d f name → text_item o1.limit o1.left ≡ Err fault → IsStopped o0 (at_item FieldName d f o0.left) fault
  processing-stops fault k is = comes-then _ _ _ _ _ k.passes (stops-one text_item o1 (at_item Processing d k.field o1.left) fault _ is refl)

  pub units-stops : (fault : TdfFault) → Described o0 o1 Units d f name → text_item o1.limit o1.left ≡ Err fault → IsStopped o0 (at_item FieldName d f o0.left) fault
  units-stops fault k is = comes-then _ _ _ _ _ k.passes (stops-one text_item o1 (at_item Units d k.field o1.left) fault _ is refl)

  pub description-stops : (fault : TdfFault) → Described o0 o1 Description d f name → text_item o1.limit o1.left ≡ Err fault → IsStopped o0 (at_item FieldName d f o0.left) fault
  description-stops fault k is = comes-then _ _ _ _ _ k.passes (stops-one text_item o1 (at_item Description d k.field o1.left) fault _ is refl)

  pub begin-stops : (fault : TdfFault) → Described o0 o1 Begin d f name → word_item o1.limit o1.left ≡ Err fault → IsStopped o0 (at_item FieldName d f o0.left) fault
  begin-stops fault k is = comes-then _ _ _ _ _ k.passes (stops-one word_item o1 (at_item Begin d k.field o1.left) fault _ is refl)
