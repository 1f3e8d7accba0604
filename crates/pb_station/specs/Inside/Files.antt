-- What the fields of `Files` stand for, and what is always true of them.
use Rattle.std.specs.Prelude.{◌≡◌, ◌≤◌, List, length, take}
use Rattle.pb_station.specs.declared.files.Files.TheInside as files
use Rattle.pb_station.specs.State.{File}
use Rattle.pb_station.specs.Files.{files_max}

abbrev pub files_view : files.Inside → List File
files_view f = take f.used f.slots.items

pub record AreFiles (f : files.Inside) : Type 0 where
  pub room : length f.slots.items ≡ files_max
  pub used : f.used ≤ files_max
