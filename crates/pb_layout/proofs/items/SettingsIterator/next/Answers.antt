use Rattle.std.proofs.Common.{◌≡◌, ◌∷◌, length, sym, ap, ◌∙◌, arith}
use Rattle.pb_layout.specs.Inside.{setting_view}
use Rattle.pb_layout.specs.Lists.{settings_of}
use Rattle.pb_layout.proofs.ItemLaws.{settings_of-none, settings_of-given}
use Rattle.pb_layout.proofs.items.SettingsIterator.next.Goals as goal

steps : (c : goal.After-rest-2-1) → c.args.self.now ≡ setting_view c.first_of.result.0 ∷ settings_of c.first_of.result.1.now
steps c =
    sym c.self.view_is
    ∙ settings_of-given c.self.inside.bytes.now c.first_of.result.1.now (setting_view c.first_of.result.0) c.if-self-lt-HEAD.false c.first_of.ensures.first c.first_of.ensures.rest

pub returns-clause-steps : goal.returns-clause-steps
returns-clause-steps c = steps c

pub returns-clause-goes : goal.returns-clause-goes
returns-clause-goes c =
    let e = ap length (steps c) in
    record { on = λ finite. (tt, tt, omega (arith, e)); keeps = tt; rests = λ finite. tt }
