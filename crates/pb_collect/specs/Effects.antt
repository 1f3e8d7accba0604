-- An advance, whatever the place of its bytes in memory.
use Rattle.pb_archive.specs.Entry as entry
use Rattle.pb_collect.specs.declared.effect.Advance.{Advance}

abbrev pub seen_advance : Advance → entry.Advance
seen_advance a = record { form = a.form; first = a.first.0; count = a.count; bytes = a.bytes.now }
