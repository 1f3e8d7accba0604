use Rattle.std.proofs.Common.{◌<◌, length, arith}
use Rattle.std.specs.List.{flat_map}
use Rattle.std.proofs.lemmas.List.Folds.{length-flat_map-take}
use Rattle.pb_value.specs.Inside.Characters.{character}
use Rattle.pb_value.proofs.characters.fits.Goals as goal

pub returns-then-left-len : goal.returns-then-left-len
returns-then-left-len c =
    let f = character c.args.alphabet in
    let past : c.args.room < length (flat_map f c.args.bytes.now) =
    omega (arith, c.loop-byte.invariant, c.if-left-len.true, c.character_of-len.ensures.len, length-flat_map-take f c.args.bytes.now c.loop-byte.byte-index 0 c.loop-byte-test.true) in
    (λ yes. absurd (let no : ⊥ = cc in no), λ short. absurd (omega arith))
