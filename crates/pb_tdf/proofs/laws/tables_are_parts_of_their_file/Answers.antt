-- The tables before it, the table, and what follows.
use Rattle.std.proofs.Common.{◌∙◌, ◌∷◌, ap, subst}
use Rattle.std.proofs.lemmas.List.Elements.{All-from_recursion}
use Rattle.std.proofs.lemmas.Option.{slice_get_within, get_or_from_slice_get}
use Rattle.pb_tdf.specs.Definition.{IsTable, table_bytes, version}
use Rattle.pb_tdf.proofs.PartLemmas.{part_at}
use Rattle.pb_tdf.proofs.laws.tables_are_parts_of_their_file.Goals as goal

pub returns : goal.returns
returns c bytes ds n d file at =
    let part = part_at table_bytes ds n d at in
    record {
      after = part.0;
      is = subst IsTable (get_or_from_slice_get ds n d d at) (All-from_recursion IsTable ds file.each n d (slice_get_within ds n d at));
      parts = file.same ∙ ap (λ l. version ∷ l) part.1;
    }
