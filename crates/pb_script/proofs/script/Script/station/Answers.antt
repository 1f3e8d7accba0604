use Rattle.std.proofs.Common.{length, arith, sym, ap, subst, ◌∙◌}
use Rattle.pb_script.specs.Inside.{IsFilling}
use Rattle.pb_script.specs.Script.{Script, IsScriptTable}
use Rattle.std.specs.List.{AllByRecursion}
use Rattle.pb_script.proofs.StationLemmas.{all_filled}
use Rattle.pb_script.proofs.script.Script.station.Goals as goal

pub fill-requires : goal.fill-requires
fill-requires c =
    let tables = c.tables.ensures.value ∙ ap (λ (s : Script). s.tables) c.self.view_is in
    let script = c.tables.ensures.script in
    record {
      each = subst (λ l. AllByRecursion IsScriptTable l) (sym c.tables.ensures.value) script.each;
      few = omega (arith, script.few, ap length c.tables.ensures.value);
      empty = subst (λ l. IsFilling c.in-Ok.station l 0 0) (sym tables) c.in-Ok.ensures.made.0;
    }

pub returns-in-Ok-fill : goal.returns-in-Ok-fill
returns-in-Ok-fill c =
    let tables = c.tables.ensures.value ∙ ap (λ (s : Script). s.tables) c.self.view_is in
    all_filled c.args.self.now c.fill.new.station (subst (λ l. IsFilling c.fill.new.station l (length l) 0) tables c.in-Ok-fill.ensures.filled) (c.in-Ok-fill.ensures.device ∙ c.in-Ok.ensures.made.1)
