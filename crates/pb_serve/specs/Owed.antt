-- Which frames a station owes for good frames that were heard.
use Rattle.std.specs.Prelude.{ℕ, List, [], ◌∷◌, ◌++◌, Result, Ok, Err}
use Rattle.std.specs.List.{flat_map}
use Rattle.pb_frame.specs.Framing.{Finding, Whole, Faulty, Verdict, verdicts, frame}
use Rattle.pb_packet.specs.declared.headers.Header.{Header}
use Rattle.pb_packet.specs.declared.headers.PacketFault.{PacketFault}
use Rattle.pb_packet.specs.Packet.{Seen, link, full, packet_of}
use Rattle.pb_station.specs.Answer.{Said, NotMine, Silent, InCtrl, InBmp5, answer_of, state_after, ctrl_packet, bmp5_packet}
use Rattle.pb_station.specs.State.{State}

-- the frames of what a station says: one, or none
abbrev pub frames_of : ℕ → Header → Said → List (List ℕ)
frames_of address header NotMine = []
frames_of address header Silent = []
frames_of address header (InCtrl m) = frame (ctrl_packet address header m) ∷ []
frames_of address header (InBmp5 m) = frame (bmp5_packet address header m) ∷ []

-- frames that are owed, and the station's state once they are sent
pub record Owed : Type 0 where
  pub frames : List (List ℕ)
  pub state : State

abbrev pub nothing : State → Owed
nothing state = record { frames = []; state = state }

-- A packet with a message is answered by the station. A packet of a link state gets nothing, and so does what is no packet.
abbrev pub owed_for : State → Result Seen PacketFault → Owed
owed_for state (Ok (full header message)) =
    record {
      frames = frames_of state.device.address header (answer_of state header message).says;
      state = state_after state (answer_of state header message);
    }
owed_for state (Ok (link phys)) = nothing state
owed_for state (Err fault) = nothing state

-- for the content of one good frame
abbrev pub owed : State → List ℕ → Owed
owed state content = owed_for state (packet_of content)

-- for good frames one after another
abbrev pub all_owed : State → List (List ℕ) → Owed
all_owed state [] = nothing state
all_owed state (content ∷ contents) =
    let one = owed state content in
    let rest = all_owed one.state contents in
    record { frames = one.frames ++ rest.frames; state = rest.state }

-- ---- the good frames of a stream

abbrev pub content_in : Finding → List (List ℕ)
content_in (Whole content) = content ∷ []
content_in (Faulty at why) = []

abbrev pub content_shown : Verdict → List (List ℕ)
content_shown v = content_in v.outcome

-- the contents of the good frames among these bytes
unfoldable pub contents : List ℕ → List (List ℕ)
contents bytes = flat_map content_shown (verdicts bytes)
