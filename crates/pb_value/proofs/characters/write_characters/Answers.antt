use Rattle.std.proofs.Common.{◌≤◌, ℕ, List, length, ap, rules, arith}
use Rattle.std.specs.List.{flat_map}
use Rattle.std.proofs.lemmas.List.{length-drop}
use Rattle.std.proofs.lemmas.List.Folds.{length-flat_map-take}
use Rattle.pb_base.specs.Put.{Writing, writing}
use Rattle.std.proofs.Common.{take}
use Rattle.pb_value.specs.Inside.Characters.{character}
use Rattle.pb_value.proofs.characters.write_characters.Goals as goal

pub push_character-requires : goal.push_character-requires
push_character-requires c =
    let f = character c.args.alphabet in
    let bytes : List ℕ = c.args.bytes.now in
    let written : List ℕ = flat_map f (take c.loop-byte.byte-index bytes) in
    let short : length (flat_map f bytes) ≤ length c.args.out.now = search rules in
    let room = ap (λ (w : Writing). length w.room) c.loop-byte.invariant in
    let all = ap (λ (w : Writing). length w.room) c.new-put.ensures in
    omega (arith, short, room, all, length-drop (length written) (writing c.new-put.result).room, length-flat_map-take f bytes c.loop-byte.byte-index 0 c.loop-byte-test.true)
