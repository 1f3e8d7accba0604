use Rattle.std.proofs.Common.{◌≡◌, List, map, None, subst, refl}
use Rattle.pb_tdf.specs.View.{TableView, view_of}
use Rattle.pb_station.specs.State.{State}
use Rattle.pb_station.specs.Making.{first_fault, new_device}
use Rattle.pb_station.specs.Inside.Tables.{AreMade}
use Rattle.pb_station.proofs.MakingLemmas.{empty_of, are-empty, stand-for-empty}
use Rattle.pb_station.proofs.station.Station.new.Goals as goal

pub returns-clause-made : goal.returns-clause-made
returns-clause-made c =
    let f = c.in-Ok.ensures.found in
    let m = c.in_ok-tables.ensures.made in
    let kept = c.in_ok-tables.tables.items in
    let device = new_device c.args.address c.args.code c.args.definitions.now in
    let state : State = record { device = device; tables = map empty_of kept } in
    let made = subst (λ (views : List TableView). AreMade views kept) f.2 m.1 in (
      state,
      record {
        definitions = f.0;
        are = f.1;
        sound = subst (λ (views : List TableView). first_fault 1 0 views ≡ None) f.2 m.0;
        device = refl;
        tables = are-empty (map view_of f.0) kept made;
      },
      record { device = c.in-Ok-new.ensures; tables = stand-for-empty f.0 kept f.1.each made },
    )
