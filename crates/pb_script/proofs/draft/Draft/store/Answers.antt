use Rattle.std.proofs.Common.{◌≡◌, sym, ap, subst, refl, ◌∙◌, true, Some, ℕ}
use Rattle.std.specs.Prelude.{slice_set}
use Rattle.pb_script.specs.Script.{IsScript, Script, CanStore, HoldsRecords, all_ring_bytes, with_store, place_of}
use Rattle.pb_script.proofs.DraftLemmas.{stored_is, found_at, with_stored, can_store}
use Rattle.pb_script.proofs.draft.Draft.store.Goals as goal

pub invariant_of-self : goal.invariant_of-self
invariant_of-self c =
    let d = c.self.inside in
    let s : Script = record { me = d.me; name = d.station.name; addr = d.station.addr; code = d.station.code; tables = d.tables.items; storing = d.storing } in
    let found : place_of c.args.name d.tables.items ≡ Some c.in-Some.place = ap (place_of c.args.name) (sym c.deref.ensures.value) ∙ sym c.in-Some.ensures in
    let at = found_at d.tables.items c.in-Some.place c.index.result.now c.args.name found c.index.ensures in
    let sum = c.in-Some-checked_add.ensures in
    let holds = c.if-not-holds_records.ensures in
    subst (λ l. IsScript (record s { tables = l; storing = true }) × (d.used ≡ all_ring_bytes l)) (sym (with_stored d.tables.items c.in-Some.place c.args.n c.in-Some-checked_add.stored c.index.result.now at sum.1))
    (stored_is s c.in-Some.place c.args.n d.used c.index.result.now c.self.invariant.0 c.self.invariant.1 at (subst (λ k. HoldsRecords (record c.index.result.now { stored = k })) sum.1 (holds.0 refl)))

pub returns-clause-added : goal.returns-clause-added
returns-clause-added c =
    let d = c.self.inside in
    let s : Script = record { me = d.me; name = d.station.name; addr = d.station.addr; code = d.station.code; tables = d.tables.items; storing = d.storing } in
    let found : place_of c.args.name d.tables.items ≡ Some c.in-Some.place = ap (place_of c.args.name) (sym c.deref.ensures.value) ∙ sym c.in-Some.ensures in
    let at = found_at d.tables.items c.in-Some.place c.index.result.now c.args.name found c.index.ensures in
    let sum = c.in-Some-checked_add.ensures in
    let holds = c.if-not-holds_records.ensures in
    let can : CanStore s c.args.name c.in-Some.place c.args.n = can_store s c.args.name c.in-Some.place c.args.n c.in-Some-checked_add.stored c.index.result.now c.requires found at sum.1 (holds.0 refl) in
    subst (λ (t : Script). (x : ℕ) × CanStore t c.args.name x c.args.n × (record s { tables = slice_set d.tables.items c.in-Some.place (record c.index.result.now { stored = c.in-Some-checked_add.stored }); storing = true } ≡ with_store t x c.args.n))
    c.self.view_is
    (c.in-Some.place, can, ap (λ l. record s { tables = l; storing = true }) (with_stored d.tables.items c.in-Some.place c.args.n c.in-Some-checked_add.stored c.index.result.now at sum.1))
