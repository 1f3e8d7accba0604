-- What a station answers to a packet, and what it leaves.
use Rattle.std.specs.Prelude.{◌≡◌, ◌≤◌, ℕ, zero, suc, Bool, not, ◌==◌, ◌&&◌, List, [], take, slice_index, decimal, Option, Some, None, Result, Ok, Err, if◌then◌else◌}
use Rattle.pb_base.specs.declared.nsec.Nsec.{Nsec}
use Rattle.pb_base.specs.declared.message.MessageFault.{MessageFault}
use Rattle.pb_base.specs.declared.message.MessageFault.TheVariants.{UnknownType, Malformed}
use Rattle.pb_base.specs.Fields.{whole}
use Rattle.pb_base.specs.Put.{IsWritten}
use Rattle.pb_base.specs.Time.{time_later}
use Rattle.pb_frame.specs.Signature.{start, sig}
use Rattle.pb_layout.specs.Reading.{reading}
use Rattle.pb_packet.specs.declared.headers.Header.{Header}
use Rattle.pb_packet.specs.declared.headers.LinkState.TheVariants.{Ready}
use Rattle.pb_packet.specs.Packet.{full, packet_bytes}
use Rattle.pb_ctrl.specs.Message as ctrl
use Rattle.pb_bmp5.specs.Message as bmp5
use Rattle.pb_station.specs.declared.station.Answered.{Answered}
use Rattle.pb_station.specs.declared.station.Answered.TheVariants as answered
use Rattle.pb_station.specs.State.{DeviceState, State}
use Rattle.pb_station.specs.Clock.{has_sum}
use Rattle.pb_station.specs.Files.{Downloaded, download, file_of, uploaded, no_file}
use Rattle.pb_station.specs.Settings.{WereSet, settings_from, set_from, version}
use Rattle.pb_station.specs.Collect.{collected, reply_of}

-- what a station says: that the packet isn't for it, nothing, or a message of one of the protocols
pub data Said : Type 0 where
  NotMine : Said
  Silent : Said
  InCtrl : ctrl.Message → Said
  InBmp5 : bmp5.Message → Said

-- what it says, and what its own values are then; its tables stay as they are
pub record Answer : Type 0 where
  pub says : Said
  pub leaves : DeviceState

abbrev pub broadcast : ℕ
broadcast = 4095

-- codes of failures: unknown protocol, unknown message, malformed
abbrev pub unknown_protocol : ℕ
unknown_protocol = 2

abbrev pub unknown_message : ℕ
unknown_message = 4

abbrev pub malformed : ℕ
malformed = 5

-- the response code of a command whose security code is wrong
abbrev pub denied : ℕ
denied = 1

-- A security code that differs is wrong, where the station's isn't 0.
abbrev pub is_wrong : DeviceState → ℕ → Bool
is_wrong device code = not (device.code == 0) && not (device.code == code)

-- ---- PakCtrl

-- a message's transaction: its second byte, or 0 where it has none
abbrev pub tran_of : List ℕ → ℕ
tran_of message = slice_index message 1

-- a failure tells the first words of the packet's header, and the first bytes of its message
abbrev pub failure : ℕ → Header → List ℕ → Said
failure err header message =
    InCtrl (ctrl.Failure (tran_of message) (record {
      err = err;
      proto = header.proto;
      dst = header.dst;
      hops = header.hops;
      src = header.src;
      carried = take 8 message;
    }))

-- nothing changes
abbrev pub stays : DeviceState → Said → Answer
stays device says = record { says = says; leaves = device }

abbrev pub after_setting : ℕ → WereSet → Answer
after_setting tran set =
    record { says = InCtrl (ctrl.SetSettingsReply tran set.outcome set.number); leaves = set.device }

abbrev pub answer_get : DeviceState → (tran code first : ℕ) → Answer
answer_get device tran code first =
    if is_wrong device code then stays device (InCtrl (ctrl.GetSettingsReply tran 1 0 []))
    else stays device (InCtrl (ctrl.GetSettingsReply tran 0 0 (settings_from first device)))

abbrev pub answer_set : DeviceState → (tran code : ℕ) → List ℕ → Answer
answer_set device tran code settings =
    if is_wrong device code then stays device (InCtrl (ctrl.SetSettingsReply tran 1 0))
    else after_setting tran (set_from device settings)

-- A reply, a failure, a bye and a hello request are heard in silence.
abbrev pub to_ctrl : DeviceState → ctrl.Message → Answer
to_ctrl device (ctrl.Hello tran router metric verify) = stays device (InCtrl (ctrl.HelloReply tran 0 2 1800))
to_ctrl device (ctrl.GetSettings tran code first) = answer_get device tran code first
to_ctrl device (ctrl.SetSettings tran code settings) = answer_set device tran code settings
to_ctrl device m = stays device Silent

-- ---- BMP5

abbrev pub stats_of : DeviceState → bmp5.StatsKeys
stats_of device = record {
  osver = version;
  ossig = 0;
  serial = decimal device.address;
  powerup = [];
  state = 1;
  prog = [];
  progsig = sig device.definitions start;
  time = bmp5.no_time;
  result = [];
}

-- the time before it was adjusted; where the sum is no time, nothing changes
abbrev pub adjusted : DeviceState → ℕ → Nsec → Answer
adjusted device tran adjust =
    if has_sum device.clock adjust then
    record {
      says = InBmp5 (bmp5.ClockReply tran 0 device.clock);
      leaves = record device { clock = time_later device.clock adjust 1 };
    }
    else stays device (InBmp5 (bmp5.ClockReply tran 2 bmp5.no_time))

abbrev pub answer_clock : DeviceState → (tran code : ℕ) → Nsec → Answer
answer_clock device tran code adjust =
    if is_wrong device code then stays device (InBmp5 (bmp5.ClockReply tran denied bmp5.no_time))
    else adjusted device tran adjust

abbrev pub answer_stats : DeviceState → (tran code : ℕ) → Answer
answer_stats device tran code =
    if is_wrong device code then stays device (InBmp5 (bmp5.StatsReply tran denied bmp5.no_stats))
    else stays device (InBmp5 (bmp5.StatsReply tran 0 (stats_of device)))

abbrev pub download_reply : (tran resp offset : ℕ) → bmp5.Message
download_reply tran zero offset = bmp5.DownloadReply tran 0 offset
download_reply tran (suc resp) offset = bmp5.DownloadReply tran (suc resp) 0

abbrev pub after_download : DeviceState → (tran offset : ℕ) → Downloaded → Answer
after_download device tran offset d =
    record { says = InBmp5 (download_reply tran d.resp offset); leaves = record device { files = d.files } }

abbrev pub answer_download : DeviceState → ℕ → bmp5.DownloadKeys → Answer
answer_download device tran d =
    if is_wrong device d.code then stays device (InBmp5 (bmp5.DownloadReply tran denied 0))
    else after_download device tran d.offset (download device.files d.name d.offset d.bytes)

abbrev pub upload_reply : ℕ → bmp5.UploadKeys → Option (List ℕ) → bmp5.Message
upload_reply tran u (Some bytes) = bmp5.UploadReply tran 0 u.offset (uploaded bytes u)
upload_reply tran u None = bmp5.UploadReply tran no_file 0 []

abbrev pub answer_upload : DeviceState → ℕ → bmp5.UploadKeys → Answer
answer_upload device tran u =
    if is_wrong device u.code then stays device (InBmp5 (bmp5.UploadReply tran denied 0 []))
    else stays device (InBmp5 (upload_reply tran u (file_of device u.name)))

abbrev pub answer_collect : State → ℕ → bmp5.CollectKeys → Answer
answer_collect s tran c =
    if is_wrong s.device c.code then stays s.device (InBmp5 (bmp5.CollectReply tran denied []))
    else stays s.device (InBmp5 (reply_of tran c.table (collected s.tables c)))

-- A reply and a wait are heard in silence.
abbrev pub to_bmp5 : State → bmp5.Message → Answer
to_bmp5 s (bmp5.Collect tran c) = answer_collect s tran c
to_bmp5 s (bmp5.Clock tran code adjust) = answer_clock s.device tran code adjust
to_bmp5 s (bmp5.Stats tran code) = answer_stats s.device tran code
to_bmp5 s (bmp5.Download tran d) = answer_download s.device tran d
to_bmp5 s (bmp5.Upload tran u) = answer_upload s.device tran u
to_bmp5 s m = stays s.device Silent

-- ---- packets

-- the failure that a message gets which can't be read
abbrev pub fault_code : MessageFault → ℕ
fault_code (UnknownType kind) = unknown_message
fault_code (Malformed at) = malformed

abbrev pub heard : {M : Type 0} → DeviceState → Header → List ℕ → (M → Answer) → Result M MessageFault → Answer
heard device header message answer (Ok m) = answer m
heard device header message answer (Err fault) = stays device (failure (fault_code fault) header message)

abbrev pub hear_ctrl : DeviceState → Header → List ℕ → Answer
hear_ctrl device header message = heard device header message (to_ctrl device) (reading ctrl.layout (whole message))

abbrev pub hear_bmp5 : State → Header → List ℕ → Answer
hear_bmp5 s header message = heard s.device header message (to_bmp5 s) (reading bmp5.layout (whole message))

-- by its protocol, PakCtrl or BMP5
abbrev pub to_mine : State → Header → List ℕ → Answer
to_mine s header message =
    if header.proto == 0 then hear_ctrl s.device header message
    else if header.proto == 1 then hear_bmp5 s header message
    else stays s.device (failure unknown_protocol header message)

-- What is sent to all is heard in silence, and changes nothing.
abbrev pub answer_of : State → Header → List ℕ → Answer
answer_of s header message =
    if header.dst == broadcast then stays s.device Silent
    else if header.dst == s.device.address then to_mine s header message
    else stays s.device NotMine

abbrev pub state_after : State → Answer → State
state_after s answer = record { device = answer.leaves; tables = s.tables }

-- ---- what is written

-- A reply goes from the station's address to the packet's source, physically to its physical source.
abbrev pub reply_header : (address proto more : ℕ) → Header → Header
reply_header address proto more header = record {
  phys = record { state = Ready; dst = header.phys.src; more = more; priority = 1; src = address };
  proto = proto;
  dst = header.src;
  hops = 0;
  src = address;
}

-- A PakCtrl message is neutral about what is to come; of a BMP5 reply nothing more is to come.
abbrev pub ctrl_packet : ℕ → Header → ctrl.Message → List ℕ
ctrl_packet address header m = packet_bytes (full (reply_header address 0 2 header) (ctrl.message_bytes m))

abbrev pub bmp5_packet : ℕ → Header → bmp5.Message → List ℕ
bmp5_packet address header m = packet_bytes (full (reply_header address 1 0 header) (bmp5.message_bytes m))

-- the most bytes of a packet
abbrev pub packet_max : ℕ
packet_max = 1008

abbrev pub FitsPacket : Answered → Type 0
FitsPacket (answered.Reply n) = n ≤ packet_max
FitsPacket answered.NotMine = Unit {0}
FitsPacket answered.Silent = Unit {0}

-- the packet is at the front of what was given to write into
abbrev pub Replies : List ℕ → List ℕ → List ℕ → Answered → Type 0
Replies packet old new (answered.Reply n) = IsWritten packet old new n
Replies packet old new answered.NotMine = ⊥
Replies packet old new answered.Silent = ⊥

abbrev pub IsSaid : ℕ → Header → Said → List ℕ → List ℕ → Answered → Type 0
IsSaid address header NotMine old new result = (result ≡ answered.NotMine) × (new ≡ old)
IsSaid address header Silent old new result = (result ≡ answered.Silent) × (new ≡ old)
IsSaid address header (InCtrl m) old new result = Replies (ctrl_packet address header m) old new result
IsSaid address header (InBmp5 m) old new result = Replies (bmp5_packet address header m) old new result
