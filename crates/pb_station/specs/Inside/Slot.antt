-- What is always true of the fields of `FileSlot`.
use Rattle.std.specs.Prelude.{◌≤◌, vec_len, vec_capacity}
use Rattle.pb_station.specs.declared.file_slot.FileSlot.TheInside as slot
use Rattle.pb_station.specs.Files.{name_max, file_bytes_max}

-- the room of a file was taken
pub record IsSlot (s : slot.Inside) : Type 0 where
  pub name : vec_len s.name ≤ name_max
  pub name_room : name_max ≤ vec_capacity s.name
  pub bytes : vec_len s.bytes ≤ file_bytes_max
  pub bytes_room : file_bytes_max ≤ vec_capacity s.bytes
