-- The fields after the header.
use Rattle.std.proofs.Common.{sym, subst}
use Rattle.std.proofs.lemmas.Result.{err_from_is_err_and}
use Rattle.pb_tdf.specs.Order.{Kind, Point, at_item, table_begins, begun_field}
use Rattle.pb_tdf.specs.Inside.Progress.{HasRead}
use Rattle.pb_tdf.specs.Inside.Passing.{IsStopped}
use Rattle.pb_tdf.proofs.PrefixLemmas.{HasRead-reaches}
use Rattle.pb_tdf.proofs.EndLemmas.{HasRead-begin}
use Rattle.pb_tdf.proofs.PassLemmas.{comes-then}
use Rattle.pb_tdf.proofs.FieldsLemmas.{HasCause-weaker}
use Rattle.pb_tdf.proofs.reading.read_parts.Goals as goal

pub returns-in_err-places : goal.returns-in_err-places
returns-in_err-places c =
    let p = err_from_is_err_and c.from_residual-in_err-places.result c.from_residual-in_err-places.ensures.1 in
    let old = c.args.items.now in
    let mid = c.read_header.new.items in
    let h = c.in_ok-header.ensures in
    let there : Point = at_item Kind h.table (begun_field 0) mid.left in
    rw (p.1, p.2)
    (HasCause-weaker (IsStopped mid there) (IsStopped old (table_begins old.left)) c.in_err-places.field-0.0 (λ f stopped. comes-then old mid (table_begins old.left) there _ h.passes stopped)
    (c.in_err-places.ensures h.table (begun_field 0) h.no_fields))

pub returns : goal.returns
returns c fits =
    let old = c.args.items.now in
    let mid = c.read_header.new.items in
    let h = c.in_ok-header.ensures in
    let there : Point = at_item Kind h.table (begun_field 0) mid.left in
    let begins : HasRead old.left.rest old.left.at there = HasRead-reaches old.left.rest old.left.at old.limit (table_begins old.left) there (HasRead-begin old.left fits) h.passes.items in
    let f = c.in_ok-places.ensures old.left.rest h.table (begun_field 0) h.no_fields (subst (λ x. HasRead old.left.rest x there) (sym c.at-start.ensures) begins) in
    record {
      table = record h.table { fields = f.fields };
      ends = comes-then old mid (table_begins old.left) there _ h.passes f.ends;
      name_len = h.name_len;
      size = h.size;
      interval = h.interval;
      sums = f.sums;
      located = f.located;
    }
