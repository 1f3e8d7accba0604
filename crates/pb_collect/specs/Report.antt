-- What contracts see of a report on table definitions, and the lines in it.
use Rattle.std.specs.Prelude.{◌≡◌, ℕ, List, []}
use Rattle.pb_tdf.specs.declared.fault.TdfFault.{TdfFault}
use Rattle.pb_tdf.specs.declared.fault.TdfFault.TheVariants as tdf
use Rattle.pb_collect.specs.declared.report.DefsLine.{DefsLine}
use Rattle.pb_collect.specs.declared.report.DefsWhat.{DefsWhat}

-- the lines, and for how many there is room
pub record Report : Type 0 where
  pub lines : List DefsLine
  pub room : ℕ

-- a line for a station of which no table is named
abbrev pub station_line : ℕ → DefsWhat → DefsLine
station_line station what = record { station = station; number = record { 0 = 0 }; sig = 0; name = []; what = what }

-- the place of a fault in a file; that of the version is 0
abbrev pub IsPlaceOf : TdfFault → ℕ → Type 0
IsPlaceOf tdf.BadVersion at = at ≡ 0
IsPlaceOf (tdf.Short place) at = at ≡ place
IsPlaceOf (tdf.NoEnd place) at = at ≡ place
IsPlaceOf (tdf.BadType place) at = at ≡ place
IsPlaceOf (tdf.TooMany place) at = at ≡ place
IsPlaceOf tdf.Memory at = ⊥
