use Rattle.std.proofs.Common.{◌≡◌, ◌+◌, length, take}
use Rattle.std.specs.List.{flat_map}
use Rattle.pb_value.specs.Inside.Characters.{character}
use Rattle.pb_value.proofs.characters.fits.Given as goal

abbrev pub invariant-loop-byte : goal.invariant-loop-byte
invariant-loop-byte l = l.left + length (flat_map (character l.alphabet) (take l.byte-index l.bytes)) ≡ l.room
