use Rattle.std.proofs.Common.{◌≡◌, List, ℕ, [], ◌∷◌, refl, ap, ap₂, ◌∙◌}
use Rattle.std.specs.Int.{w16, w32, to_be_bytes}
use Rattle.pb_base.specs.Put.{Writing, writing, with_piece}
use Rattle.pb_station.specs.State.{DeviceState}
use Rattle.pb_station.specs.Settings.{setting, given, version}
use Rattle.pb_station.proofs.SettingLemmas.{pieces-written}
use Rattle.pb_station.proofs.device.Device.settings_into.Goals as goal

pub returns-clause-written : goal.returns-clause-written
returns-clause-written c =
    let first = c.args.first in
    let device = c.args.self.now in
    let put = c.give-5.new.put in
    let piece : ℕ → List ℕ → List ℕ = λ n content. given first (setting n content) in
    let address : c.get-address.result ≡ device.address = c.get-address.ensures.value ∙ ap (λ (d : DeviceState). d.address) c.self.view_is in
    let b2 : c.to_be_bytes.result ≡ to_be_bytes w32 device.address = c.to_be_bytes.ensures ∙ ap (to_be_bytes w32) (c.from.ensures ∙ address) in
    let b3 : c.deref.result.now ≡ device.name = c.deref.ensures.value ∙ ap (λ (d : DeviceState). d.name) c.self.view_is in
    let b4 : c.to_be_bytes-2.result ≡ to_be_bytes w16 device.address = c.to_be_bytes-2.ensures ∙ ap (to_be_bytes w16) address in
    let b5 : c.to_be_bytes-3.result ≡ to_be_bytes w16 device.code = c.to_be_bytes-3.ensures ∙ ap (λ (d : DeviceState). to_be_bytes w16 d.code) c.self.view_is in
    let s1 = c.give.ensures in
    let s2 = c.give-2.ensures ∙ ap₂ with_piece (ap (piece 2) b2) s1 in
    let s3 = c.give-3.ensures ∙ ap₂ with_piece (ap (piece 3) b3) s2 in
    let s4 = c.give-4.ensures ∙ ap₂ with_piece (ap (piece 4) b4) s3 in
    let s5 = c.give-5.ensures ∙ ap₂ with_piece (ap (piece 5) b5) s4 in
    pieces-written (piece 1 version ∷ piece 2 (to_be_bytes w32 device.address) ∷ piece 3 device.name ∷ piece 4 (to_be_bytes w16 device.address) ∷ piece 5 (to_be_bytes w16 device.code) ∷ [])
    (writing c.new-put.result) (writing put) c.args.out.now put.out.now put.len c.len.result
    (ap (λ (w : Writing). w.front) c.new-put.ensures) (ap (λ (w : Writing). w.room) c.new-put.ensures) s5 refl refl c.len.ensures
