use Rattle.std.proofs.Common.{◌≡◌, ◌+◌, suc, List, take, drop, slice_get, option_copied, Option, Some, sym, ap, subst, add-one, ◌∙◌, arith}
use Rattle.pb_station.specs.declared.fault.StationFault.{StationFault}
use Rattle.pb_station.specs.State.{KeptTable}
use Rattle.pb_station.specs.Making.{first_fault}
use Rattle.pb_station.specs.Inside.Tables.{AreMade, IsFirstFault}
use Rattle.pb_station.proofs.MakingLemmas.{numbered-at, drop-here, goes-past, made-more}
use Rattle.pb_station.proofs.making.tables_of.Goals as goal

pub returns-in-Err-clause-refused : goal.returns-in-Err-clause-refused
returns-in-Err-clause-refused c =
    let views = c.args.definitions.now in
    let k = c.loop-place.place in
    let here : slice_get views k ≡ Some c.unwrap-table.result.now = sym (numbered-at views k) ∙ sym c.table.ensures ∙ ap option_copied c.unwrap-table.ensures in
    let same = c.loop-place.invariant.fault ∙ ap (first_fault (k + 1) c.loop-place.used) (drop-here views k c.unwrap-table.result.now here) in
    subst (λ (f : Option StationFault). IsFirstFault f c.in-Err.fault) (sym same) (c.in-Err.ensures.refused (drop (suc k) views))

pub loop-place-preserved : goal.loop-place-preserved
loop-place-preserved c =
    let views = c.args.definitions.now in
    let k = c.loop-place.place in
    let i = c.loop-place.invariant in
    let m = c.in-Ok-table_of.ensures in
    let held = c.in-Ok-table_of.made.0 in
    let here : slice_get views k ≡ Some c.unwrap-table.result.now = sym (numbered-at views k) ∙ sym c.table.ensures ∙ ap option_copied c.unwrap-table.ensures in
    record {
      used = m.within;
      len = omega arith;
      room = omega arith;
      made = rw (add-one k) (subst (λ (ts : List KeptTable). AreMade (take (suc k) views) ts) (sym c.push_reserved.ensures.items) (made-more views c.loop-place.tables.items k c.unwrap-table.result.now held i.made here m.made));
      fault = goes-past views (k + 1) c.loop-place.used c.in-Ok-table_of.made.1 k c.unwrap-table.result.now _ here m.goes_on i.fault;
    }
