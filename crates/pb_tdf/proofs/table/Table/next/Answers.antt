-- The table that was read is kept.
use Rattle.std.proofs.Common.{◌≡◌, ◌-◌, ℕ, List, length, take, map, sym, ap, subst, ◌∙◌, arith}
use Rattle.std.proofs.lemmas.List.{length-append}
use Rattle.pb_base.specs.Fields.{IsBytes}
use Rattle.pb_frame.specs.Signature.{start, sig}
use Rattle.pb_tdf.specs.declared.place.FieldPlace.{FieldPlace}
use Rattle.pb_tdf.specs.Definition.{table_bytes}
use Rattle.pb_tdf.specs.View.{TableView, view_of}
use Rattle.pb_tdf.specs.Inside.Kept.{IsKept, field_at}
use Rattle.pb_tdf.proofs.TableLemmas.{ended, makes-kept, made-view}
use Rattle.pb_tdf.proofs.table.Table.next.Goals as goal

pub overflow_sub-len : goal.overflow_sub-len
overflow_sub-len c =
    let old = c.args.items.now in
    let new = c.read_parts.new.items in
    let fits : IsBytes old.left.rest = c.rest-rest.ensures.bytes in
    let t = c.in_ok-parts.ensures fits in
    let e = ended old new c.in_ok-parts.parts t fits in
    omega (arith, ap length e.parts, length-append (table_bytes t.table) new.left.rest, ap length c.rest.ensures.rest, ap length c.rest-rest.ensures.rest)

read_bytes : (bytes rest left old new : List ℕ) → bytes ≡ take (length rest - length left) rest → rest ≡ old → left ≡ new
    → bytes ≡ take (length old - length new) old
read_bytes bytes rest left old new same r l = same ∙ ap (λ (x : List ℕ). take (length x - length left) x) r ∙ ap (λ (x : List ℕ). take (length old - length x) old) l

pub invariant_of-result : goal.invariant_of-result
invariant_of-result c =
    let old = c.args.items.now in
    let new = c.read_parts.new.items in
    let parts = c.in_ok-parts.parts in
    let fits : IsBytes old.left.rest = c.rest-rest.ensures.bytes in
    let t = c.in_ok-parts.ensures fits in
    let bytes : List ℕ = c.in_ok-bytes.bytes.items in
    let same : bytes ≡ take (length old.left.rest - length new.left.rest) old.left.rest = read_bytes bytes _ _ _ _ c.in_ok-bytes.ensures.copied c.rest-rest.ensures.rest c.rest.ensures.rest in
    let places : c.in_ok-places.places.items ≡ parts.places.items = c.in_ok-places.ensures.copied ∙ c.deref.ensures.value in
    let kept = makes-kept old new parts t fits bytes c.signature-signature.result c.layout_of_sums.result c.requires same (c.signature-signature.ensures ∙ ap (λ b. sig b start) c.deref-2.ensures.value) c.layout_of_sums.ensures in
    subst (λ (x : List FieldPlace). IsKept bytes parts.header.name_len parts.header.size c.signature-signature.result c.layout_of_sums.result x) (sym places) kept

pub returns : goal.returns
returns c =
    let old = c.args.items.now in
    let new = c.read_parts.new.items in
    let parts = c.in_ok-parts.parts in
    let fits : IsBytes old.left.rest = c.rest-rest.ensures.bytes in
    let t = c.in_ok-parts.ensures fits in
    let bytes : List ℕ = c.in_ok-bytes.bytes.items in
    let same : bytes ≡ take (length old.left.rest - length new.left.rest) old.left.rest = read_bytes bytes _ _ _ _ c.in_ok-bytes.ensures.copied c.rest-rest.ensures.rest c.rest.ensures.rest in
    let places : c.in_ok-places.places.items ≡ parts.places.items = c.in_ok-places.ensures.copied ∙ c.deref.ensures.value in
    let made = made-view old new parts t fits bytes c.signature-signature.result c.layout_of_sums.result c.requires same (c.signature-signature.ensures ∙ ap (λ b. sig b start) c.deref-2.ensures.value) c.layout_of_sums.ensures in (
      t.table,
      t.ends,
      subst (λ (x : List FieldPlace).
          (let v : TableView = record { bytes = bytes; name = take parts.header.name_len bytes; size = parts.header.size; signature = c.signature-signature.result; layout = c.layout_of_sums.result; fields = map (field_at bytes) x } in v ≡ view_of t.table))
          (sym places) made,
    )
