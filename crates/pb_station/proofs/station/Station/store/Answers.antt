use Rattle.std.proofs.Common.{ℕ, ◌-◌, length, set, sym, subst, ap}
use Rattle.pb_station.specs.State.{KeptStation, StandsFor}
use Rattle.pb_station.specs.Storing.{HasTable, StationStores}
use Rattle.pb_station.proofs.StoringLemmas.{station-stores}
use Rattle.pb_station.proofs.station.Station.store.Goals as goal

pub returns : goal.returns
returns c = λ state stands.
    let i = c.self.inside in
    let own = subst (λ (k : KeptStation). StandsFor k state) (sym c.self.view_is) stands in
    let has = subst (λ (k : KeptStation). HasTable k.tables c.args.table.0 (length c.args.bytes.now)) (sym c.self.view_is) c.requires in
    subst (λ (k : KeptStation). StationStores state c.args.table.0 (record { time = c.args.time; bytes = c.args.bytes.now }) k (record { device = i.device; tables = set i.tables.items (c.from.result - 1) c.store.new.self }) c.store.result) c.self.view_is
    (station-stores state c.args.table.0 (length c.args.bytes.now) (c.from.result - 1) i.device i.tables.items c.index_mut.result.now c.store.new.self (record { time = c.args.time; bytes = c.args.bytes.now }) c.store.result
    own has (ap (λ (n : ℕ). n - 1) c.from.ensures) c.index_mut.ensures.value c.store.ensures.keeps c.store.ensures.stores)
