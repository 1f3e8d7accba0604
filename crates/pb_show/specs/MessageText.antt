-- The text of a message in a line of `show`: its name, its transaction, and each key with its value.
use Rattle.std.specs.Prelude.{ℕ, zero, suc, List, [], ◌∷◌, ◌++◌, Bool, true, false, map, drop, ◌==◌, if◌then◌else◌, Result, Ok, Err, codes, decimal}
use Rattle.std.specs.Fmt.{signed_decimal}
use Rattle.std.specs.Int.{w16, to_be_bytes}
use Rattle.std.specs.List.{flat_map}
use Rattle.pb_base.specs.declared.message.MessageFault.{MessageFault}
use Rattle.pb_base.specs.declared.message.MessageFault.TheVariants.{UnknownType, Malformed}
use Rattle.pb_base.specs.declared.nsec.Nsec.{Nsec}
use Rattle.pb_base.specs.Fields.{whole}
use Rattle.pb_bmp5.specs.declared.message.Mode.{Mode}
use Rattle.pb_bmp5.specs.declared.message.Mode.TheVariants as mode
use Rattle.pb_bmp5.specs.Message as bmp5
use Rattle.pb_ctrl.specs.Message as ctrl
use Rattle.pb_io.specs.Page.{joined}
use Rattle.pb_layout.specs.Kind.{Setting}
use Rattle.pb_layout.specs.Lists.{numbers_of, settings_of}
use Rattle.pb_layout.specs.Reading.{reading}
use Rattle.pb_value.specs.Escape.{name_text}
use Rattle.pb_value.specs.Hex.{hex}

-- ---- values

-- the value of a key; numbers and settings are given as their bytes
pub data Shown : Type 0 where
  Number : ℕ → Shown
  Signature : ℕ → Shown
  Time : Nsec → Shown
  Name : List ℕ → Shown
  Bytes : List ℕ → Shown
  Numbers : List ℕ → Shown
  Settings : List ℕ → Shown

-- the text of some bytes, or `-` where there are none
abbrev pub or_dash : List ℕ → List ℕ → List ℕ
or_dash [] text = codes "-"
or_dash (byte ∷ bytes) text = text

abbrev pub after_comma : List ℕ → List ℕ
after_comma text = joined (codes "," ∷ text ∷ [])

-- texts joined by commas
unfoldable pub list_text : List (List ℕ) → List ℕ
list_text [] = codes "-"
list_text (text ∷ texts) = text ++ flat_map after_comma texts

-- bytes in hexadecimal
unfoldable pub bytes_text : List ℕ → List ℕ
bytes_text bytes = or_dash bytes (hex bytes)

-- `NUMBER:BYTES`
unfoldable pub setting_text : Setting → List ℕ
setting_text s = joined (decimal s.number ∷ codes ":" ∷ bytes_text s.content ∷ [])

-- A time is its seconds, a dot, and its nanoseconds as they are.
unfoldable pub shown_text : Shown → List ℕ
shown_text (Number n) = decimal n
shown_text (Signature n) = hex (to_be_bytes w16 n)
shown_text (Time t) = joined (signed_decimal t.sec ∷ codes "." ∷ signed_decimal t.nano ∷ [])
shown_text (Name text) = or_dash text (name_text text)
shown_text (Bytes bytes) = bytes_text bytes
shown_text (Numbers bytes) = list_text (map decimal (numbers_of bytes))
shown_text (Settings bytes) = list_text (map setting_text (settings_of bytes))

-- ---- keys

pub record Key : Type 0 where
  pub name : List ℕ
  pub value : Shown

abbrev pub key : List ℕ → Shown → Key
key name value = record { name = name; value = value }

-- ` KEY VALUE`
unfoldable pub key_text : Key → List ℕ
key_text k = joined (codes " " ∷ k.name ∷ codes " " ∷ shown_text k.value ∷ [])

unfoldable pub keys_text : List Key → List ℕ
keys_text keys = flat_map key_text keys

-- `NAME tran N`, and the keys
unfoldable pub named_text : List ℕ → ℕ → List Key → List ℕ
named_text name tran keys = joined (name ∷ codes " tran " ∷ decimal tran ∷ keys_text keys ∷ [])

-- ---- PakCtrl

abbrev pub greeting_keys : (router metric verify : ℕ) → List Key
greeting_keys router metric verify =
    key (codes "router") (Number router) ∷ key (codes "metric") (Number metric) ∷ key (codes "verify") (Number verify)
    ∷ []

abbrev pub failure_keys : ctrl.FailureKeys → List Key
failure_keys f =
    key (codes "err") (Number f.err) ∷ key (codes "proto") (Number f.proto) ∷ key (codes "dst") (Number f.dst)
    ∷ key (codes "hops") (Number f.hops) ∷ key (codes "src") (Number f.src) ∷ key (codes "carried") (Bytes f.carried) ∷ []

abbrev pub ctrl_text : ctrl.Message → List ℕ
ctrl_text (ctrl.Hello tran router metric verify) = named_text (codes "hello") tran (greeting_keys router metric verify)
ctrl_text (ctrl.HelloReply tran router metric verify) = named_text (codes "hello-reply") tran (greeting_keys router metric verify)
ctrl_text (ctrl.Bye tran) = named_text (codes "bye") tran []
ctrl_text (ctrl.HelloRequest tran) = named_text (codes "hello-request") tran []
ctrl_text (ctrl.Failure tran f) = named_text (codes "failure") tran (failure_keys f)
ctrl_text (ctrl.GetSettings tran code first) =
    named_text (codes "get-settings") tran (key (codes "code") (Number code) ∷ key (codes "first") (Number first) ∷ [])
ctrl_text (ctrl.GetSettingsReply tran outcome more settings) =
    named_text (codes "get-settings-reply") tran
    (key (codes "outcome") (Number outcome) ∷ key (codes "more") (Number more)
    ∷ key (codes "settings") (Settings settings) ∷ [])
ctrl_text (ctrl.SetSettings tran code settings) =
    named_text (codes "set-settings") tran
    (key (codes "code") (Number code) ∷ key (codes "settings") (Settings settings) ∷ [])
ctrl_text (ctrl.SetSettingsReply tran outcome number) =
    named_text (codes "set-settings-reply") tran
    (key (codes "outcome") (Number outcome) ∷ key (codes "number") (Number number) ∷ [])

-- ---- BMP5

abbrev pub mode_number : Mode → ℕ
mode_number mode.All = 3
mode_number (mode.From p1) = 4
mode_number (mode.Newest p1) = 5
mode_number (mode.Range p1 p2) = 6
mode_number (mode.Times p1 p2) = 7
mode_number (mode.Part p1 p2) = 8

abbrev pub p1_key : Shown → Key
p1_key value = key (codes "p1") value

abbrev pub p2_key : Shown → Key
p2_key value = key (codes "p2") value

-- a mode's parameters
abbrev pub mode_keys : Mode → List Key
mode_keys mode.All = []
mode_keys (mode.From p1) = p1_key (Number p1) ∷ []
mode_keys (mode.Newest p1) = p1_key (Number p1) ∷ []
mode_keys (mode.Range p1 p2) = p1_key (Number p1) ∷ p2_key (Number p2) ∷ []
mode_keys (mode.Times p1 p2) = p1_key (Time p1) ∷ p2_key (Time p2) ∷ []
mode_keys (mode.Part p1 p2) = p1_key (Number p1) ∷ p2_key (Number p2) ∷ []

abbrev pub collect_keys : bmp5.CollectKeys → List Key
collect_keys c =
    key (codes "code") (Number c.code) ∷ key (codes "mode") (Number (mode_number c.mode)) ∷ key (codes "table") (Number c.table)
    ∷ key (codes "sig") (Signature c.sig) ∷ []

abbrev pub stats_keys : bmp5.StatsKeys → List Key
stats_keys s =
    key (codes "osver") (Name s.osver) ∷ key (codes "ossig") (Number s.ossig) ∷ key (codes "serial") (Name s.serial)
    ∷ key (codes "powerup") (Name s.powerup) ∷ key (codes "state") (Number s.state) ∷ key (codes "prog") (Name s.prog)
    ∷ key (codes "progsig") (Number s.progsig) ∷ key (codes "time") (Time s.time) ∷ key (codes "result") (Name s.result) ∷ []

abbrev pub download_keys : bmp5.DownloadKeys → List Key
download_keys d =
    key (codes "code") (Number d.code) ∷ key (codes "name") (Name d.name) ∷ key (codes "attr") (Number d.attr)
    ∷ key (codes "close") (Number d.close) ∷ key (codes "offset") (Number d.offset) ∷ key (codes "bytes") (Bytes d.bytes) ∷ []

abbrev pub upload_keys : bmp5.UploadKeys → List Key
upload_keys u =
    key (codes "code") (Number u.code) ∷ key (codes "name") (Name u.name) ∷ key (codes "close") (Number u.close)
    ∷ key (codes "offset") (Number u.offset) ∷ key (codes "swath") (Number u.swath) ∷ []

-- the keys of a reply: its code, and those of an answer where that is 0
abbrev pub answer_keys : ℕ → List Key → List Key
answer_keys zero keys = key (codes "resp") (Number 0) ∷ keys
answer_keys (suc resp) keys = key (codes "resp") (Number (suc resp)) ∷ []

abbrev pub bmp5_text : bmp5.Message → List ℕ
bmp5_text (bmp5.Collect tran c) =
    named_text (codes "collect") tran (collect_keys c)
    ++ (keys_text (mode_keys c.mode) ++ keys_text (key (codes "fields") (Numbers c.fields) ∷ []))
bmp5_text (bmp5.CollectReply tran resp bytes) =
    named_text (codes "collect-reply") tran (answer_keys resp (key (codes "bytes") (Bytes bytes) ∷ []))
bmp5_text (bmp5.Clock tran code adjust) =
    named_text (codes "clock") tran (key (codes "code") (Number code) ∷ key (codes "adjust") (Time adjust) ∷ [])
bmp5_text (bmp5.ClockReply tran resp time) =
    named_text (codes "clock-reply") tran (answer_keys resp (key (codes "time") (Time time) ∷ []))
bmp5_text (bmp5.Stats tran code) = named_text (codes "stats") tran (key (codes "code") (Number code) ∷ [])
bmp5_text (bmp5.StatsReply tran resp s) = named_text (codes "stats-reply") tran (answer_keys resp (stats_keys s))
bmp5_text (bmp5.Download tran d) = named_text (codes "download") tran (download_keys d)
bmp5_text (bmp5.DownloadReply tran resp offset) =
    named_text (codes "download-reply") tran (answer_keys resp (key (codes "offset") (Number offset) ∷ []))
bmp5_text (bmp5.Upload tran u) = named_text (codes "upload") tran (upload_keys u)
bmp5_text (bmp5.UploadReply tran resp offset bytes) =
    named_text (codes "upload-reply") tran
    (answer_keys resp (key (codes "offset") (Number offset) ∷ key (codes "bytes") (Bytes bytes) ∷ []))
bmp5_text (bmp5.Wait tran kind seconds) =
    named_text (codes "wait") tran (key (codes "kind") (Number kind) ∷ key (codes "seconds") (Number seconds) ∷ [])

-- ---- what a packet carries

-- `unknown TYPE bytes REST`
unfoldable pub unknown_text : ℕ → List ℕ → List ℕ
unknown_text type rest = joined (codes "unknown " ∷ hex (type ∷ []) ∷ codes " bytes " ∷ bytes_text rest ∷ [])

-- what is wrong with these bytes
unfoldable pub refusal_text : List ℕ → MessageFault → List ℕ
refusal_text bytes (UnknownType type) = unknown_text type (drop 1 bytes)
refusal_text bytes (Malformed at) = joined (codes "malformed at " ∷ decimal at ∷ [])

abbrev pub is_malformation : MessageFault → Bool
is_malformation (UnknownType type) = false
is_malformation (Malformed at) = true

-- a message that was read, or what is wrong
abbrev pub read_text : {M : Type 0} → (M → List ℕ) → List ℕ → Result M MessageFault → List ℕ
read_text text bytes (Ok message) = text message
read_text text bytes (Err fault) = refusal_text bytes fault

abbrev pub is_malformed : {M : Type 0} → Result M MessageFault → Bool
is_malformed (Ok message) = false
is_malformed (Err fault) = is_malformation fault

-- a PakCtrl message, and whether it is malformed
unfoldable pub shown_ctrl : List ℕ → List ℕ
shown_ctrl bytes = read_text ctrl_text bytes (reading ctrl.layout (whole bytes))

unfoldable pub is_malformed_ctrl : List ℕ → Bool
is_malformed_ctrl bytes = is_malformed (reading ctrl.layout (whole bytes))

-- a BMP5 message, and whether it is malformed
unfoldable pub shown_bmp5 : List ℕ → List ℕ
shown_bmp5 bytes = read_text bmp5_text bytes (reading bmp5.layout (whole bytes))

unfoldable pub is_malformed_bmp5 : List ℕ → Bool
is_malformed_bmp5 bytes = is_malformed (reading bmp5.layout (whole bytes))

-- a message by its protocol; of another protocol its bytes
unfoldable pub message_text : ℕ → List ℕ → List ℕ
message_text proto bytes =
    if proto == 0 then shown_ctrl bytes
    else (if proto == 1 then shown_bmp5 bytes else joined (codes "bytes " ∷ bytes_text bytes ∷ []))

unfoldable pub is_damaged_message : ℕ → List ℕ → Bool
is_damaged_message proto bytes =
    if proto == 0 then is_malformed_ctrl bytes else (if proto == 1 then is_malformed_bmp5 bytes else false)
