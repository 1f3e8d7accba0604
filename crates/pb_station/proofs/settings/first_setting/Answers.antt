use Rattle.std.proofs.Common.{ℕ, min, length, take, drop, ◌-◌, ap, refl, ◌∙◌, arith}
use Rattle.pb_station.proofs.SettingLemmas.{is-first, tail-all}
use Rattle.pb_station.proofs.settings.first_setting.Goals as goal

pub returns-clause-found : goal.returns-clause-found
returns-clause-found c =
    is-first c.args.left.now _ _ _ c.from_be_bytes-number.result c.min-len.result (omega arith) c.from_be_bytes-number.ensures (tail-all 4 c.args.left.now)
    (c.min-len.ensures ∙ ap (λ (k : ℕ). min k (length (take (length c.args.left.now - 4) (drop 4 c.args.left.now)))) (c.from.ensures ∙ c.from_be_bytes.ensures)) refl (tail-all c.min-len.result _)
