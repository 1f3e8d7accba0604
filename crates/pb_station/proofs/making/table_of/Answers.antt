use Rattle.std.proofs.Common.{◌-◌, inl, inr, sym, ◌∙◌, arith}
use Rattle.pb_station.proofs.MakingLemmas.{bad-size, many, over-by}
use Rattle.pb_station.proofs.making.table_of.Goals as goal
use Rattle.pb_station.proofs.making.table_of.Goals.{then-size-eq0-via-then-size-eq0, then-size-eq0-via-else-size-eq0+then-size-room}

pub returns-then-size-eq0-clause-refused : goal.returns-then-size-eq0-clause-refused
returns-then-size-eq0-clause-refused c = λ views.
    let is = sym c.layout.ensures ∙ c.in-Ok.is in
    elim c.then-size-eq0.branch [
      | then-size-eq0-via-then-size-eq0 w ↦ bad-size c.args.number.0 c.args.used c.args.table.now views c.in-Ok.layout is (inl (sym c.size-size.ensures ∙ w.if-size-eq0.true))
      | then-size-eq0-via-else-size-eq0+then-size-room w ↦
          let over = many (67108864 - c.args.used) c.content_len.result c.size-size.result (omega arith) w.if-size-room.true in
          bad-size c.args.number.0 c.args.used c.args.table.now views c.in-Ok.layout is (inr (over-by c.args.used c.size-size.result c.args.table.now.size c.content_len.result c.in-Ok.layout c.requires c.size-size.ensures c.content_len.ensures over))
    ]
