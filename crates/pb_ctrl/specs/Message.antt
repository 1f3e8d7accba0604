-- The PakCtrl messages, their layouts, and the values of their keys.
use Rattle.std.specs.Prelude.{ℕ, List, [], ◌∷◌, ◌==◌, Result, if◌then◌else◌}
use Rattle.pb_base.specs.declared.message.MessageFault.{MessageFault}
use Rattle.pb_base.specs.declared.message.MessageFault.TheVariants.{UnknownType}
use Rattle.pb_layout.specs.Kind.{Byte, Half, Split, AtMost, Settings}
use Rattle.pb_layout.specs.Layout.{MessageLayout, Done, Stop, ◌>>=◌, Values, AllFit, MayEnd, IsAmong, IsValid, HasBytes, ReadsAs, bytes_of}
use Rattle.pb_layout.specs.Typed.{IsRead}
use Rattle.pb_ctrl.specs.declared.message.Ctrl.{Ctrl}
use Rattle.pb_ctrl.specs.declared.message.Ctrl.TheVariants as ctrl

-- what a failure says of the packet that failed
pub record FailureKeys : Type 0 where
  pub err : ℕ
  pub proto : ℕ
  pub dst : ℕ
  pub hops : ℕ
  pub src : ℕ
  pub carried : List ℕ

-- a message without where its parts lie in memory; the transaction comes first
pub data Message : Type 0 where
  -- transaction, router, metric, verify interval
  Hello : ℕ → ℕ → ℕ → ℕ → Message
  HelloReply : ℕ → ℕ → ℕ → ℕ → Message
  Bye : ℕ → Message
  HelloRequest : ℕ → Message
  Failure : ℕ → FailureKeys → Message
  -- transaction, security code, first number
  GetSettings : ℕ → ℕ → ℕ → Message
  -- transaction, outcome, whether others follow, the settings' bytes
  GetSettingsReply : ℕ → ℕ → ℕ → List ℕ → Message
  -- transaction, security code, the settings' bytes
  SetSettings : ℕ → ℕ → List ℕ → Message
  -- transaction, outcome, number
  SetSettingsReply : ℕ → ℕ → ℕ → Message

abbrev pub message_of : Ctrl → Message
message_of (ctrl.Hello tran router metric verify) = Hello tran router metric verify
message_of (ctrl.HelloReply tran router metric verify) = HelloReply tran router metric verify
message_of (ctrl.Bye tran) = Bye tran
message_of (ctrl.HelloRequest tran) = HelloRequest tran
message_of (ctrl.Failure tran err proto dst hops src carried) =
    Failure tran (record { err = err; proto = proto; dst = dst; hops = hops; src = src; carried = carried.now })
message_of (ctrl.GetSettings tran code first) = GetSettings tran code first
message_of (ctrl.GetSettingsReply tran outcome more settings) = GetSettingsReply tran outcome more settings.now
message_of (ctrl.SetSettings tran code settings) = SetSettings tran code settings.now
message_of (ctrl.SetSettingsReply tran outcome number) = SetSettingsReply tran outcome number

-- ---- layouts: what comes after the type and the transaction

-- a hello and its reply have the same keys
abbrev pub greeting : (ℕ → ℕ → ℕ → Message) → MessageLayout Message
greeting message = do
  router ← Byte
  metric ← Byte
  verify ← Half
  Done (message router metric verify)

-- the first words of the header of the packet that failed, and the first bytes of its message
abbrev pub failure : ℕ → MessageLayout Message
failure tran = do
  err ← Byte
  to ← Split
  from ← Split
  carried ← AtMost 8
  Done (Failure tran (record { err = err; proto = to.0; dst = to.1; hops = from.0; src = from.1; carried = carried }))

abbrev pub get_settings : ℕ → MessageLayout Message
get_settings tran = do
  code ← Half
  first ← Half
  Done (GetSettings tran code first)

abbrev pub get_settings_reply : ℕ → MessageLayout Message
get_settings_reply tran = do
  outcome ← Byte
  more ← Byte
  settings ← Settings
  Done (GetSettingsReply tran outcome more settings)

abbrev pub set_settings : ℕ → MessageLayout Message
set_settings tran = do
  code ← Half
  settings ← Settings
  Done (SetSettings tran code settings)

abbrev pub set_settings_reply : ℕ → MessageLayout Message
set_settings_reply tran = do
  outcome ← Byte
  number ← Half
  Done (SetSettingsReply tran outcome number)

abbrev pub of_type : ℕ → ℕ → MessageLayout Message
of_type type tran =
    if type == 0x09 then greeting (Hello tran)
    else if type == 0x89 then greeting (HelloReply tran)
    else if type == 0x0D then Done (Bye tran)
    else if type == 0x0E then Done (HelloRequest tran)
    else if type == 0x81 then failure tran
    else if type == 0x0F then get_settings tran
    else if type == 0x8F then get_settings_reply tran
    else if type == 0x10 then set_settings tran
    else if type == 0x90 then set_settings_reply tran
    else Stop (UnknownType type)

abbrev pub layout : MessageLayout Message
layout = do
  type ← Byte
  tran ← Byte
  of_type type tran

-- the types that there are
abbrev pub types : List ℕ
types = 0x09 ∷ 0x89 ∷ 0x0D ∷ 0x0E ∷ 0x81 ∷ 0x0F ∷ 0x8F ∷ 0x10 ∷ 0x90 ∷ []

abbrev pub IsType : ℕ → Type 0
IsType type = IsAmong types type

-- the values of a message's keys
abbrev pub keys : Message → Values layout
keys (Hello tran router metric verify) = (0x09, (tran, (router, (metric, (verify, tt)))))
keys (HelloReply tran router metric verify) = (0x89, (tran, (router, (metric, (verify, tt)))))
keys (Bye tran) = (0x0D, (tran, tt))
keys (HelloRequest tran) = (0x0E, (tran, tt))
keys (Failure tran f) = (0x81, (tran, (f.err, ((f.proto, f.dst), ((f.hops, f.src), (f.carried, tt))))))
keys (GetSettings tran code first) = (0x0F, (tran, (code, (first, tt))))
keys (GetSettingsReply tran outcome more settings) = (0x8F, (tran, (outcome, (more, (settings, tt)))))
keys (SetSettings tran code settings) = (0x10, (tran, (code, (settings, tt))))
keys (SetSettingsReply tran outcome number) = (0x90, (tran, (outcome, (number, tt))))

-- ---- what the contracts say

abbrev pub Valid : Message → Type 0
Valid m = IsValid layout keys m

-- The values of a message's keys, one after another. They are the bytes of a message where it is valid and its numbers
-- lie in the ranges of their types.
abbrev pub message_bytes : Message → List ℕ
message_bytes m = bytes_of layout keys m

-- the bytes of a message, which is valid
abbrev pub MessageBytes : Message → List ℕ → Type 0
MessageBytes m bytes = HasBytes layout keys m bytes

-- The bytes read as the message: its own, and then any where its layout has an end.
abbrev pub MessageReads : Message → List ℕ → Type 0
MessageReads m bytes = ReadsAs layout keys m bytes

-- what a reader answers to the bytes
abbrev pub MessageIsRead : List ℕ → Result Ctrl MessageFault → Type 0
MessageIsRead bytes result = IsRead layout keys types message_of bytes result

-- the message's numbers lie in the ranges of their types
abbrev pub InRange : Message → Type 0
InRange m = AllFit layout (keys m)

-- these bytes may follow the message
abbrev pub MayStandBehind : Message → List ℕ → Type 0
MayStandBehind m rest = MayEnd layout (keys m) rest
