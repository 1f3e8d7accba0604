use Rattle.std.proofs.Common.{◌≡◌, ◌≤◌, ◌+◌, ◌-◌, ◌*◌, ◌^◌, length, vec_capacity}
use Rattle.pb_io.specs.Disk.{ReadsOnly}
use Rattle.pb_tdf.specs.Definition.{file_bytes_max}
use Rattle.pb_collect.specs.Adding.{Adds}
use Rattle.pb_collect.specs.Tables.{channel}
use Rattle.pb_collect.specs.Uploads.{Joined}
use Rattle.pb_collect.proofs.uploading.upload.Given as goal

abbrev pub invariant-pieces : goal.invariant-pieces
invariant-pieces g l = record {
  small : length l.file.items ≤ file_bytes_max + 1000;
  room : file_bytes_max + 1000 ≤ vec_capacity l.file;
  grown : vec_capacity l.fn.file ≤ vec_capacity l.file;
  joined : Joined l.limits l.contact l.file.items (channel l.fn.listener (g.S.Disk.view l.fn.site).link) (channel l.listener (g.S.Disk.view l.site).link);
  adds : Adds (g.S.Disk.view l.fn.site) (g.S.Disk.view l.site);
  disk : ReadsOnly (g.S.Disk.view l.fn.site) (g.S.Disk.view l.site);
  disk_faults : (g.S.Disk.view l.site).faults ≡ (g.S.Disk.view l.fn.site).faults;
  link_faults : (g.S.Disk.view l.site).link.faults ≡ (g.S.Disk.view l.fn.site).link.faults;
  count : l.listener.ear.count ≤ l.fn.listener.ear.count + length l.file.items * 2 ^ 25;
}

abbrev pub decreases-pieces : goal.decreases-pieces
decreases-pieces g l = (file_bytes_max + 1) - length l.file.items
