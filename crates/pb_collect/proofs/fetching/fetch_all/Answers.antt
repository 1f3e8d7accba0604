use Rattle.std.proofs.Common.{◌++◌, [], inr, refl, sym, ◌∙◌, ap, subst, arith, append_assoc, append-nil}
use Rattle.pb_archive.specs.Opened.{register_of}
use Rattle.pb_archive.specs.Plan.{Plan}
use Rattle.pb_collect.specs.Fetching.{StationStops}
use Rattle.pb_collect.specs.Tables.{channel}
use Rattle.pb_collect.proofs.AddingLemmas.{adds_none, adds_trans, holds_open}
use Rattle.pb_collect.proofs.FetchingLemmas.{next_station, station_plan}
use Rattle.pb_collect.proofs.RequestLemmas.{goes_start, goes_trans}
use Rattle.pb_collect.proofs.fetching.fetch_all.Goals as goal

pub returns-in_default-clause-holds : goal.returns-in_default-clause-holds
returns-in_default-clause-holds g c = holds_open c.args.archive.now (g.S.Disk.view c.args.site.now) c.requires.opened

pub loop-station-init : goal.loop-station-init
loop-station-init g c = record {
  room = omega (arith, c.in-Ok.ensures.exact);
  plan = refl;
  came = ([], sym (append-nil c.args.report.now.lines), (refl, refl, refl));
  goes = goes_start c.args.archive.now (g.S.Disk.view c.args.site.now) c.requires.usable c.requires.opened;
  holds = holds_open c.args.archive.now (g.S.Disk.view c.args.site.now) c.requires.opened;
  adds = adds_none (g.S.Disk.view c.args.site.now) (g.met.S.Disk.lawful c.args.site.now);
  count = omega (arith, c.new-listener.ensures.count);
}

pub returns-in-Err-clause-until : goal.returns-in-Err-clause-until
returns-in-Err-clause-until g c =
    let inv = c.loop-station.invariant in
    let came = inv.came in
    let stops = c.in-Err.ensures.stops in (
      came.0 ++ stops.0,
      stops.1 ∙ ap (λ l. l ++ stops.0) came.1 ∙ append_assoc c.args.report.now.lines came.0 stops.0,
      inr (record {
        first = c.new-listener.result;
        fresh = record { quiet = c.new-listener.ensures.nothing; fresh = c.new-listener.ensures.stands };
        station = c.loop-station.station;
        earlier = came.0;
        own = stops.0;
        are = refl;
        mid = channel c.loop-station.listener (g.S.Disk.view c.loop-station.site).link;
        register = register_of c.loop-station.archive;
        came = came.2;
        stops = subst (λ (p : Plan). StationStops c.in-Err.fault c.args.limits p c.loop-station.station stops.0 (channel c.loop-station.listener (g.S.Disk.view c.loop-station.site).link) (g.S.Disk.view c.fetch_station.new.site).link (register_of c.loop-station.archive) (register_of c.fetch_station.new.archive)) inv.plan stops.2;
      }),
    )

pub returns-in-Err-clause-adds : goal.returns-in-Err-clause-adds
returns-in-Err-clause-adds g c =
    adds_trans (g.S.Disk.view c.args.site.now) (g.S.Disk.view c.loop-station.site) (g.S.Disk.view c.fetch_station.new.site) (g.met.S.Disk.lawful c.loop-station.site) c.loop-station.invariant.adds c.fetch_station.ensures.adds

pub loop-station-preserved : goal.loop-station-preserved
loop-station-preserved g c =
    let inv = c.loop-station.invariant in
    let own = c.in-Ok-fetch_station.ensures.came in
    let old = g.S.Disk.view c.args.site.now in
    let now = g.S.Disk.view c.loop-station.site in
    let new = g.S.Disk.view c.fetch_station.new.site in
    record {
      room = omega (arith, inv.room, c.fetch_station.ensures.room);
      plan = station_plan c.args.limits c.loop-station.archive.plan c.loop-station.station own.0 (channel c.loop-station.listener now.link) (channel c.fetch_station.new.listener new.link) (register_of c.loop-station.archive) (register_of c.fetch_station.new.archive) own.2 ∙ inv.plan;
      came = next_station c.args.limits c.args.archive.now.plan c.loop-station.archive.plan c.loop-station.station (channel c.new-listener.result old.link) (channel c.loop-station.listener now.link) (channel c.fetch_station.new.listener new.link)
          (register_of c.args.archive.now) (register_of c.loop-station.archive) (register_of c.fetch_station.new.archive) c.args.report.now.lines c.loop-station.report.lines c.fetch_station.new.report.lines inv.plan inv.came own;
      goes = goes_trans c.loop-station.archive c.fetch_station.new.archive old now new inv.goes c.in-Ok-fetch_station.ensures.goes;
      holds = c.fetch_station.ensures.holds;
      adds = adds_trans old now new (g.met.S.Disk.lawful c.loop-station.site) inv.adds c.fetch_station.ensures.adds;
      count = omega (arith, inv.count, c.fetch_station.ensures.count);
    }
