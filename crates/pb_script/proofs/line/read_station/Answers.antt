use Rattle.std.proofs.Common.{◌≡◌, sym, ◌∙◌, subst, ap, ◌++◌, arith, ℕ, decimal, ◌∷◌}
use Rattle.std.specs.Prelude.{codes}
use Rattle.std.proofs.lemmas.List.{append_cancel_left}
use Rattle.pb_script.specs.Inside.{IsStation}
use Rattle.pb_script.specs.Script.{IsAddress, Script, CanBegin}
use Rattle.pb_script.specs.ScriptText.{space, line_feed}
use Rattle.pb_base.proofs.WordLemmas.{number_next}
use Rattle.pb_script.proofs.LineLemmas.{name_next, station_says}
use Rattle.pb_script.proofs.line.read_station.Goals as goal

pub returns-in-None-name_until_space : goal.returns-in-None-name_until_space
returns-in-None-name_until_space c s rest can me bytes =
    c.in-None-name_until_space.ensures s.name _ can.name (append_cancel_left (codes "station ") _ _ (sym c.in-Some.ensures ∙ bytes))

pub returns-in-None-number_until : goal.returns-in-None-number_until
returns-in-None-number_until c s rest can me bytes =
    let one = append_cancel_left (codes "station ") _ _ (sym c.in-Some.ensures ∙ bytes) in
    let named = c.in-Some-name_until_space in
    let name = name_next named.named.name s.name _ _ named.ensures.0 can.name (sym named.ensures.1 ∙ one) in
    c.in-None-number_until.ensures s.addr _ (omega (arith, can.addr)) name.1

pub returns-in-None-number_until-2 : goal.returns-in-None-number_until-2
returns-in-None-number_until-2 c s rest can me bytes =
    let one = append_cancel_left (codes "station ") _ _ (sym c.in-Some.ensures ∙ bytes) in
    let named = c.in-Some-name_until_space in
    let name = name_next named.named.name s.name _ _ named.ensures.0 can.name (sym named.ensures.1 ∙ one) in
    let addr = c.in-Some-number_until in
    let two = number_next addr.addr.n s.addr space _ _ addr.ensures.0 (omega (arith, can.addr)) (omega arith) (sym addr.ensures.1 ∙ name.1) in
    c.in-None-number_until-2.ensures s.code rest (omega (arith, can.code)) two.1

allowed : (me : ℕ) (s : Script) (addr code : ℕ) → CanBegin s → s.me ≡ me → addr ≡ s.addr → code ≡ s.code → IsStation me addr code
allowed me s addr code can is same_addr same_code = record {
  addr = subst IsAddress (sym same_addr) can.addr;
  not_me = λ e. can.not_me (sym same_addr ∙ e ∙ sym is);
  small = omega (arith, can.code, same_code);
}

pub returns-in-None-station_of : goal.returns-in-None-station_of
returns-in-None-station_of c s rest can me bytes =
    let one = append_cancel_left (codes "station ") _ _ (sym c.in-Some.ensures ∙ bytes) in
    let named = c.in-Some-name_until_space in
    let name = name_next named.named.name s.name _ _ named.ensures.0 can.name (sym named.ensures.1 ∙ one) in
    let addr = c.in-Some-number_until in
    let two = number_next addr.addr.n s.addr space _ _ addr.ensures.0 (omega (arith, can.addr)) (omega arith) (sym addr.ensures.1 ∙ name.1) in
    let code = c.in-Some-number_until-2 in
    let three = number_next code.code.n s.code line_feed _ _ code.ensures.0 (omega (arith, can.code)) (omega arith) (sym code.ensures.1 ∙ two.1) in
    c.in-None-station_of.ensures (allowed c.args.me s _ _ can me two.0 three.0)

pub returns-in-Some-station_of : goal.returns-in-Some-station_of
returns-in-Some-station_of c =
    let station = c.in-Some-station_of.ensures in
    let name = c.in-Some-name_until_space.ensures in
    let addr = c.in-Some-number_until.ensures in
    let code = c.in-Some-number_until-2.ensures in
    station_says c.args.me c.in-Some-station_of.station c.args.text.now c.in-Some-name_until_space.named.name c.in-Some-number_until-2.code.rest.now _ _ _ _
    c.requires name.0 station.0 station.1 station.2 station.3 c.in-Some.ensures name.1 (addr.1 ∙ ap (λ l. decimal c.in-Some-number_until.addr.n ++ space ∷ l) code.1)
