use Rattle.std.proofs.Common.{◌≡◌, ℕ, suc, ◌+◌, ◌-◌, length, refl, sym, ap, ◌∙◌, arith}
use Rattle.pb_station.specs.Settings.{WereSet, setting, settings_in, set_one, set_all}
use Rattle.pb_station.proofs.SettingLemmas.{set-next, set-stops}
use Rattle.pb_station.proofs.device.Device.set.Goals as goal

pub returns-then-not-set_one : goal.returns-then-not-set_one
returns-then-not-set_one c =
    let m = length c.args.settings.now - (c.loop.counter + 1) in
    let s = setting c.in-Some.number c.in-Some.content.now in
    let more : length c.args.settings.now - c.loop.counter ≡ suc m = omega arith in
    let e = c.loop.invariant
    ∙ ap (λ (k : ℕ). set_all c.loop.self (settings_in k c.loop.left.now)) more
    ∙ ap (set_all c.loop.self) (c.in-Some.ensures.found m)
    ∙ set-stops c.loop.self s (settings_in m c.in-Some.rest.now) (set_one c.loop.self s) c.set_one.new.self c.set_one.result refl c.set_one.ensures c.if-not-set_one.true in
    (ap (λ (w : WereSet). w.device) (sym e), ap (λ (w : WereSet). w.outcome) (sym e), ap (λ (w : WereSet). w.number) (sym e))

pub loop-preserved : goal.loop-preserved
loop-preserved c =
    let m = length c.args.settings.now - (c.loop.counter + 1) in
    let s = setting c.in-Some.number c.in-Some.content.now in
    let more : length c.args.settings.now - c.loop.counter ≡ suc m = omega arith in
    c.loop.invariant
    ∙ ap (λ (k : ℕ). set_all c.loop.self (settings_in k c.loop.left.now)) more
    ∙ ap (set_all c.loop.self) (c.in-Some.ensures.found m)
    ∙ set-next c.loop.self s (settings_in m c.in-Some.rest.now) (set_one c.loop.self s) c.set_one.new.self c.set_one.result refl c.set_one.ensures c.if-not-set_one.false

pub returns-in_default : goal.returns-in_default
returns-in_default c =
    let n = length c.args.settings.now - c.loop.counter in
    let e = c.loop.invariant ∙ ap (set_all c.loop.self) (c.first_setting.ensures.none c.in_default.is n) in
    (ap (λ (w : WereSet). w.device) (sym e), ap (λ (w : WereSet). w.outcome) (sym e), ap (λ (w : WereSet). w.number) (sym e))
