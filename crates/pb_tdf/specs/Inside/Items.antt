-- A reader of items, and what a call of it does.
use Rattle.std.specs.Prelude.{◌≡◌, ℕ, Result, Ok, Err}
use Rattle.pb_base.specs.Fields.{Unread}
use Rattle.pb_tdf.specs.declared.fault.TdfFault.{TdfFault}
use Rattle.pb_tdf.specs.Order.{Read}

-- the bytes that are left, and the first place that no item may reach
pub record Limited : Type 0 where
  pub left : Unread
  pub limit : ℕ

-- What a call that reads one item did: it read it, or refused it.
pub record ReadsItem {X : Type 0} (what : ℕ → Unread → Read X)
    (old new : Limited) (value : X) : Type 0 where
  pub read : what old.limit old.left ≡ Ok (value, new.left)
  pub same_limit : new.limit ≡ old.limit

abbrev pub Reads : {A X : Type 0} → (A → X) → (ℕ → Unread → Read X)
    → Limited → Limited → Result A TdfFault → Type 0
Reads view what old new (Ok value) = ReadsItem what old new (view value)
Reads view what old new (Err fault) = what old.limit old.left ≡ Err fault
