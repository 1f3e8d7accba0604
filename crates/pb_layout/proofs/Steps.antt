-- The steps of a reading that didn't fail.
use Rattle.std.proofs.Common.{◌≡◌, Result, Ok, Err, refl}
use Rattle.pb_base.specs.declared.fields.FieldFault.{FieldFault}
use Rattle.pb_base.specs.declared.message.MessageFault.{MessageFault}
use Rattle.pb_base.specs.Fields.{Unread}
use Rattle.pb_layout.specs.Reading.{and_then, field}

abbrev done : {A : Type 0} → A → Result A MessageFault
done x = Ok x

pub ok_is : {A : Type 0} (x y : A) → done x ≡ done y → x ≡ y
ok_is x y e = cc

pub and_ok : {A B : Type 0} (r : Result A MessageFault) (next : A → Result B MessageFault) (y : B) → and_then r next ≡ Ok y → (x : A) × (r ≡ Ok x) × (next x ≡ Ok y)
and_ok (Ok x) next y e = (x, refl, e)
and_ok (Err fault) next y e = absurd cc

pub field_ok : {A : Type 0} (u : Unread) (r : Result A FieldFault) (x : A) → field u r ≡ Ok x → r ≡ Ok x
field_ok u (Ok y) x e = cc
field_ok u (Err fault) x e = absurd cc
