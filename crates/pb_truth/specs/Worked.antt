-- A world in which the only record of a table is asked for and comes.
use Rattle.std.specs.Prelude.{ℕ, List, [], ◌∷◌, ◌++◌}
use Rattle.pb_base.specs.World.{World, StoredRecord, Defined, Stored, Sent, all_heard}
use Rattle.pb_frame.specs.Framing.{frame}
use Rattle.pb_bmp5.specs.WorkedReply.{second, worked_definition, worked_reply}

-- the packet of a collect command from 4094 to station 10, for the records of table 1 from 0 on
abbrev pub asking : List ℕ
asking =
    0xA0 ∷ 0x0A ∷ 0x1F ∷ 0xFE ∷ 0x10 ∷ 0x0A ∷ 0x0F ∷ 0xFE
    ∷ 9 ∷ 1 ∷ 0 ∷ 0 ∷ 4 ∷ 0 ∷ 1 ∷ 0x8A ∷ 0x5F ∷ 0 ∷ 0 ∷ 0 ∷ 0 ∷ 0 ∷ 0 ∷ []

-- the packet of its reply
abbrev pub answering : List ℕ
answering = 0xAF ∷ 0xFE ∷ 0x10 ∷ 0x0A ∷ 0x1F ∷ 0xFE ∷ 0x00 ∷ 0x0A ∷ worked_reply.message

abbrev pub worked_record : StoredRecord
worked_record = record { time = second 7; bytes = 0xAA ∷ 0xBB ∷ [] }

abbrev pub before_the_request : World
before_the_request = Defined 10 1 worked_definition ∷ Stored 10 1 worked_record ∷ []

abbrev pub before_the_reply : World
before_the_reply = before_the_request ++ Sent (frame asking) ∷ []

abbrev pub worked_world : World
worked_world = before_the_reply ++ all_heard (frame answering)
