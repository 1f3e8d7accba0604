use Rattle.std.proofs.Common.{length, refl, ap, arith, length-append, ◌∷◌, []}
use Rattle.std.specs.List.{flat_map}
use Rattle.pb_archive.specs.Entry.{station_bytes}
use Rattle.pb_archive.specs.Plan.{Plan}
use Rattle.pb_archive.proofs.BytesLemmas.{some_start, some_more, one_more}
use Rattle.pb_archive.proofs.plan_entry.read_stations.Goals as goal

pub loop-init : goal.loop-init
loop-init c = record {
  some = some_start c.args.draft.now c.args.fields.now.rest c.requires.begun c.requires.first c.requires.bytes;
  count = ap length c.requires.first;
}

pub loop-preserved : goal.loop-preserved
loop-preserved c =
    let some = c.loop.invariant.some in
    let read = c.in-Ok.ensures.read in
    record {
      some = some_more c.args.draft.now c.loop.draft _ c.args.fields.now.rest c.loop.fields.rest c.loop.fields _ read.0 refl some read.1 read.2 read.3;
      count = omega (arith, ap (λ (p : Plan). length p.stations) read.2, length-append c.loop.draft.stations (read.0 ∷ []), c.loop.invariant.count);
    }

pub returns-in-Err-clause-wrong : goal.returns-in-Err-clause-wrong
returns-in-Err-clause-wrong c is q begun me via count bytes =
    let next = one_more c.args.draft.now c.loop.draft q c.args.fields.now.rest c.loop.fields.rest c.loop.invariant.some begun me via bytes (omega (arith, count, c.loop.invariant.count, c.loop-test.true)) in
    c.in-Err.ensures.wrong is next.0 (flat_map station_bytes next.1) next.2 next.3
