-- What the fields of `Device` stand for, and what is always true of them.
use Rattle.std.specs.Prelude.{◌≤◌, vec_len, vec_capacity}
use Rattle.pb_station.specs.declared.device.Device.TheInside as device
use Rattle.pb_station.specs.State.{DeviceState}
use Rattle.pb_station.specs.Files.{name_max}

abbrev pub device_view : device.Inside → DeviceState
device_view d = record {
  address = d.address;
  code = d.code;
  definitions = d.definitions.items;
  clock = d.clock;
  name = d.name.items;
  files = d.files;
}

pub record IsDevice (d : device.Inside) : Type 0 where
  pub name : vec_len d.name ≤ name_max
  pub room : name_max ≤ vec_capacity d.name
