use Rattle.pb_archive.specs.Inside.{station}
use Rattle.pb_archive.proofs.BytesLemmas.{station_read, station_unread}
use Rattle.pb_archive.proofs.plan_entry.station_fields.Goals as goal

pub returns-in-Ok-asciiz : goal.returns-in-Ok-asciiz
returns-in-Ok-asciiz c = record {
  read = station_read c.args.fields.now _ _ c.asciiz.new.self (station c.in-Ok.addr c.in-Ok-u16.code c.in-Ok-asciiz.name.now) c.requires c.in-Ok.ensures.read c.in-Ok-u16.ensures.read c.in-Ok-asciiz.ensures.read;
}

pub returns-in-Err-asciiz : goal.returns-in-Err-asciiz
returns-in-Err-asciiz c = record {
  read = station_unread c.args.fields.now _ _ c.in-Ok.addr c.in-Ok-u16.code _ c.requires c.in-Ok.ensures.read c.in-Ok-u16.ensures.read c.in-Err-asciiz.ensures.refused.0;
}
