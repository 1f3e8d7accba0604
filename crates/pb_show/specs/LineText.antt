-- The lines of `show`: one for each verdict, in order.
use Rattle.std.specs.Prelude.{ℕ, List, [], ◌∷◌, Bool, true, codes, decimal}
use Rattle.std.specs.List.{flat_map, list_any}
use Rattle.pb_frame.specs.declared.why.Why.{Why}
use Rattle.pb_frame.specs.declared.why.Why.TheVariants.{Quote, Long, Short, Signature}
use Rattle.pb_frame.specs.Framing.{Finding, Whole, Faulty, Verdict}
use Rattle.pb_io.specs.Page.{joined}
use Rattle.pb_packet.specs.Packet.{packet_of}
use Rattle.pb_show.specs.PacketText.{content_text, is_damaged_content}

abbrev pub why_text : Why → List ℕ
why_text Quote = codes "quote"
why_text Long = codes "long"
why_text Short = codes "short"
why_text Signature = codes "signature"

-- the packet, or what is wrong
unfoldable pub outcome_text : Finding → List ℕ
outcome_text (Whole content) = content_text (packet_of content)
outcome_text (Faulty at why) = joined (codes "bad " ∷ why_text why ∷ codes " at " ∷ decimal at ∷ [])

-- a line: the place of the piece, and what was heard of it
unfoldable pub line : Verdict → List ℕ
line v = joined (decimal v.piece ∷ codes " " ∷ outcome_text v.outcome ∷ codes "\n" ∷ [])

unfoldable pub lines : List Verdict → List ℕ
lines vs = flat_map line vs

-- whether the line reports damage: of a piece that isn't good, of a content that is no packet, or of a malformed message
abbrev pub is_damage_of : Finding → Bool
is_damage_of (Whole content) = is_damaged_content (packet_of content)
is_damage_of (Faulty at why) = true

abbrev pub is_damage : Verdict → Bool
is_damage v = is_damage_of v.outcome

unfoldable pub has_damage : List Verdict → Bool
has_damage vs = list_any is_damage vs
