-- The tables of a new station.
use Rattle.std.specs.Prelude.{◌≡◌, List, [], ◌∷◌, Option, Some, Ok}
use Rattle.pb_ring.specs.Ring as ring
use Rattle.pb_tdf.specs.View.{TableView}
use Rattle.pb_station.specs.declared.fault.StationFault.{StationFault}
use Rattle.pb_station.specs.declared.fault.StationFault.TheVariants.{Tdf, Uncollectable, BadSize, Memory}
use Rattle.pb_station.specs.State.{KeptTable}

-- a table without records, of this definition
pub record IsMade (view : TableView) (kept : KeptTable) : Type 0 where
  pub signature : kept.signature ≡ view.signature
  pub layout : view.layout ≡ Ok kept.layout
  pub size : kept.ring.capacity ≡ view.size
  pub record_len : kept.ring.record_len ≡ kept.layout.record_len
  pub empty : ring.StandsFor kept.ring []

abbrev pub AreMade : List TableView → List KeptTable → Type 0
AreMade [] [] = Unit {0}
AreMade [] (kept ∷ more) = ⊥
AreMade (view ∷ views) [] = ⊥
AreMade (view ∷ views) (kept ∷ more) = IsMade view kept × AreMade views more

-- want of memory has no other cause
abbrev pub IsFirstFault : Option StationFault → StationFault → Type 0
IsFirstFault first (Tdf fault) = ⊥
IsFirstFault first (Uncollectable table) = first ≡ Some (Uncollectable table)
IsFirstFault first (BadSize table) = first ≡ Some (BadSize table)
IsFirstFault first Memory = Unit {0}
