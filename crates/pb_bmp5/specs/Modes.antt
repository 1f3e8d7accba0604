-- The numbers and parameters of the modes, as a collect command is written.
use Rattle.std.specs.Prelude.{ℕ, ◌<◌, ◌^◌, List, [], ◌++◌}
use Rattle.std.specs.Int.{w32, to_be_bytes}
use Rattle.std.specs.Int.RustNames.{FitsSigned}
use Rattle.pb_base.specs.declared.nsec.Nsec.{Nsec}
use Rattle.pb_base.specs.Time.{time_bytes}
use Rattle.pb_bmp5.specs.declared.message.Mode.{Mode}
use Rattle.pb_bmp5.specs.declared.message.Mode.TheVariants as mode

abbrev pub mode_number : Mode → ℕ
mode_number mode.All = 3
mode_number (mode.From p1) = 4
mode_number (mode.Newest p1) = 5
mode_number (mode.Range p1 p2) = 6
mode_number (mode.Times p1 p2) = 7
mode_number (mode.Part p1 p2) = 8

abbrev pub parameter_bytes : Mode → List ℕ
parameter_bytes mode.All = []
parameter_bytes (mode.From p1) = to_be_bytes w32 p1
parameter_bytes (mode.Newest p1) = to_be_bytes w32 p1
parameter_bytes (mode.Range p1 p2) = to_be_bytes w32 p1 ++ to_be_bytes w32 p2
parameter_bytes (mode.Times p1 p2) = time_bytes p1 ++ time_bytes p2
parameter_bytes (mode.Part p1 p2) = to_be_bytes w32 p1 ++ to_be_bytes w32 p2

abbrev pub TimeFits : Nsec → Type 0
TimeFits t = FitsSigned w32 t.sec × FitsSigned w32 t.nano

-- the parameters lie in the ranges of their types
abbrev pub ModeFits : Mode → Type 0
ModeFits mode.All = Unit {0}
ModeFits (mode.From p1) = p1 < 2 ^ 32
ModeFits (mode.Newest p1) = p1 < 2 ^ 32
ModeFits (mode.Range p1 p2) = (p1 < 2 ^ 32) × (p2 < 2 ^ 32)
ModeFits (mode.Times p1 p2) = TimeFits p1 × TimeFits p2
ModeFits (mode.Part p1 p2) = (p1 < 2 ^ 32) × (p2 < 2 ^ 32)
