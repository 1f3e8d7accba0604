-- What `ping` asks: the frames that it sends, and what it takes for an answer.
use Rattle.std.specs.Prelude.{ℕ, List}
use Rattle.pb_frame.specs.Framing.{frame}
use Rattle.pb_packet.specs.Packet.{full, packet_bytes}
use Rattle.pb_packet.specs.declared.headers.LinkState.TheVariants.{Ready}
use Rattle.pb_packet.specs.declared.headers.Header.{Header}
use Rattle.pb_packet.specs.declared.headers.TheConstants.{PROTO_PAKCTRL, PROTO_BMP5}
use Rattle.pb_ctrl.specs.Message.{Hello, HelloReply, message_bytes as ctrl_bytes, MessageReads as CtrlReads}
use Rattle.pb_bmp5.specs.Message.{Clock, ClockReply, message_bytes as bmp5_bytes, MessageReads as Bmp5Reads, no_time}
use Rattle.pb_trans.specs.declared.asked.Limits.{Limits}
use Rattle.pb_ask.specs.Wanted.{Wanted}
use Rattle.pb_tool.specs.declared.ping.request.Request.{Request}
use Rattle.pb_tool.specs.declared.ping.request.Request.TheVariants as request
use Rattle.pb_tool.specs.declared.ping.questions.Greeting.{Greeting}
use Rattle.pb_tool.specs.declared.ping.questions.Reading.{Reading}

-- ---- what is sent

abbrev pub proto_of : Request → ℕ
proto_of request.Hello = PROTO_PAKCTRL
proto_of request.Clock = PROTO_BMP5

-- whether more is to come: neutral in PakCtrl, expected after a BMP5 command
abbrev pub more_of : Request → ℕ
more_of request.Hello = 2
more_of request.Clock = 1

abbrev pub request_header : Request → ℕ → ℕ → Header
request_header request me node =
    record {
      phys = record { state = Ready; dst = node; more = more_of request; priority = 1; src = me };
      proto = proto_of request;
      dst = node;
      hops = 0;
      src = me;
    }

abbrev pub request_message : Request → List ℕ
request_message request.Hello = ctrl_bytes (Hello 1 0 2 1800)
request_message request.Clock = bmp5_bytes (Clock 2 0 no_time)

unfoldable pub request_frame : Request → ℕ → ℕ → List ℕ
request_frame request me node = frame (packet_bytes (full (request_header request me node) (request_message request)))

-- each request is sent three times at most, and five quiet ticks are waited after each sending
abbrev pub limits : Limits
limits = record { budget = 2; sends = 3; quiets = 5 }

-- ---- what answers

-- the hello reply of the hello's transaction
abbrev pub IsGreeting : Greeting → List ℕ → Type 0
IsGreeting g message = CtrlReads (HelloReply 1 g.router g.metric g.verify) message

-- the clock reply of the clock command's transaction
abbrev pub IsReading : Reading → List ℕ → Type 0
IsReading r message = Bmp5Reads (ClockReply 2 r.resp r.time) message

-- the hello of this node to that one, and the clock command
abbrev pub hello : ℕ → ℕ → Wanted Greeting
hello me node = record {
  frame = request_frame request.Hello me node;
  asked = record { me = me; station = node; proto = PROTO_PAKCTRL; kind = 0x09; tran = 1 };
  takes = IsGreeting;
}

abbrev pub clock : ℕ → ℕ → Wanted Reading
clock me node = record {
  frame = request_frame request.Clock me node;
  asked = record { me = me; station = node; proto = PROTO_BMP5; kind = 0x17; tran = 2 };
  takes = IsReading;
}
