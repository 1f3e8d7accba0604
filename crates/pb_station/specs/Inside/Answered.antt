-- What a call did that answers a packet.
use Rattle.std.specs.Prelude.{◌≡◌, ℕ, ◌≤◌, List, length}
use Rattle.pb_bmp5.specs.Message as bmp5
use Rattle.pb_packet.specs.declared.headers.Header.{Header}
use Rattle.pb_station.specs.declared.station.Answered.{Answered}
use Rattle.pb_station.specs.State.{DeviceState}
use Rattle.pb_station.specs.Answer.{Answer, IsSaid}

-- The answer was given: what the device is then, what was said, and where it was written.
pub record IsGiven (answer : Answer) (before after : DeviceState) (header : Header) (old new : List ℕ)
    (result : Answered) : Type 0 where
  pub leaves : after ≡ answer.leaves
  pub says : IsSaid before.address header answer.says old new result

-- a BMP5 message that can be written, and for which a packet has room
abbrev pub FitsReply : bmp5.Message → Type 0
FitsReply m = bmp5.Valid m × (length (bmp5.message_bytes m) ≤ 1000)
