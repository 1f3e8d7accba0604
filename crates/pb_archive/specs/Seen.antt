-- A table as it is handed out.
use Rattle.pb_archive.specs.declared.held.Held.{Held}
use Rattle.pb_archive.specs.declared.table_view.TableView.{TableView}

abbrev pub seen_table : TableView → Held
seen_table t =
    record { station = t.station; number = t.number; table = t.table.now; front = t.front.0; gaps = t.gaps; stop = t.stop }
