use Rattle.std.proofs.Common.{◌≡◌, take}
use Rattle.std.specs.List.{flat_map}
use Rattle.pb_base.specs.Put.{writing, with_piece}
use Rattle.pb_value.specs.Inside.Characters.{character}
use Rattle.pb_value.proofs.characters.write_characters.Given as goal

abbrev pub invariant-loop-byte : goal.invariant-loop-byte
invariant-loop-byte l = writing l.put ≡ with_piece (flat_map (character l.alphabet) (take l.byte-index l.bytes)) (writing l.initial.put)
