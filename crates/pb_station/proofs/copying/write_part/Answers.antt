use Rattle.std.proofs.Common.{◌≡◌, List, ℕ, ◌∷◌, [], ◌++◌, sym, ap, ap₂, ◌∙◌, append-nil, arith, refl, length, length-append, length-drop, take, drop, slice_get}
use Rattle.pb_station.specs.Collect.{content_in}
use Rattle.pb_station.proofs.WrittenLemmas.{part-written, part-is, written-as, mid-len, flag-of}
use Rattle.pb_station.proofs.copying.write_part.Goals as goal

pub returns-clause-written : goal.returns-clause-written
returns-clause-written c = λ all stands.
    let p = c.args.part in
    let head = c.copy_from_slice.new.self in
    let old = c.args.out.now in
    let eh = c.copy_from_slice.ensures.after ∙ c.part_head.ensures in
    let ten : length head ≡ 10 = ap length eh in
    let xs = length-append head (drop 10 old) in
    let ys = length-drop 10 old in
    let size = mid-len 10 p.len (head ++ drop 10 old) (omega (arith, xs, ys, ten)) in
    let bytes = take p.len (drop p.offset (content_in (slice_get all p.number))) in
    let part : c.copy_held.new.out ≡ bytes ++ [] = part-is all p.number p.offset _ p.len c.copy_held.new.out (c.copy_held.ensures all stands) size ∙ sym (append-nil bytes) in
    let flag = c.from.ensures ∙ flag-of c.args.more in
    written-as _ _ old _ _ _
    (ap₂ (λ (x y : List ℕ). x ++ y) eh (ap₂ (λ (x : List ℕ) (f : ℕ). x ++ f ∷ []) part flag)) refl
    (part-written head c.copy_held.new.out old 10 p.len c.from.result ten (c.copy_held.auto.out ∙ size) (omega arith))
