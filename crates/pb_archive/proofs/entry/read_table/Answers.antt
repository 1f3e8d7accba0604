use Rattle.std.proofs.Common.{◌≡◌, ◌-◌, arith, sym, ◌∙◌, ap, subst, drop, take, length, length-drop}
use Rattle.std.proofs.lemmas.List.{drop-drop, take_all}
use Rattle.pb_tdf.specs.Definition.{TableBytes, table_bytes}
use Rattle.pb_archive.proofs.entry.read_table.Goals as goal

pub returns-in-Err : goal.returns-in-Err
returns-in-Err c = record {
  read = tt;
  ranges = tt;
  wrong = λ is station number d table bytes.
      let body = c.args.body.now in
      let rest : drop 4 body ≡ table_bytes d = sym (drop-drop 3 1 body) ∙ ap (drop 3) bytes in
      let all : take (length body - 4) (drop 4 body) ≡ drop 4 body = take_all (length body - 4) (drop 4 body) (omega (arith, length-drop 4 body)) in
      c.of_table.ensures is (c.in-Err.ensures.only d (subst (TableBytes d) (sym (all ∙ rest)) table));
}
