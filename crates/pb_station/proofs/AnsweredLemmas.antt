-- Answers, from the replies that were written.
use Rattle.std.proofs.Common.{◌≡◌, ℕ, true, false, List, [], ◌++◌, take, drop, Option, Ok, Err, refl, sym, ap, subst, ◌∙◌}
use Rattle.std.proofs.Math.Seq.{take-append_seam}
use Rattle.pb_packet.specs.declared.headers.Header.{Header}
use Rattle.pb_bmp5.specs.Message.{Message, CollectKeys, DownloadKeys, UploadKeys, CollectReply, ClockReply, no_time}
use Rattle.pb_base.specs.declared.nsec.Nsec.{Nsec}
use Rattle.std.specs.Prelude.{if◌then◌else◌}
use Rattle.pb_station.specs.Clock.{has_sum}
use Rattle.pb_station.specs.declared.station.Answered.{Answered}
use Rattle.pb_station.specs.State.{DeviceState, State}
use Rattle.pb_station.specs.Collect.{Collected, Refused, Sends, collected, reply_of, body}
use Rattle.pb_station.specs.Files.{download, file_of}
use Rattle.pb_station.specs.Answer.{Answer, InBmp5, stays, Replies, bmp5_packet, is_wrong, answer_clock, answer_collect, answer_upload, answer_download, upload_reply, download_reply}
use Rattle.pb_station.specs.Inside.Answered.{IsGiven}
use Rattle.pb_station.specs.Inside.Commands.{IsCollected}

pub ok-collected : (x : Collected) (tran table : ℕ) (old new : List ℕ) (n : ℕ) → IsCollected x table old new (Ok n) → reply_of tran table x ≡ CollectReply tran 0 (take n new)
ok-collected (Refused resp) tran table old new n c = absurd c
ok-collected (Sends fragments more) tran table old new n c =
    ap (CollectReply tran 0) (sym (ap (take n) c.parts ∙ ap (λ (k : ℕ). take k (body table fragments more ++ drop n old)) c.len ∙ take-append_seam (body table fragments more) (drop n old)))

pub err-collected : (x : Collected) (tran table : ℕ) (old new : List ℕ) (r : ℕ) → IsCollected x table old new (Err r) → reply_of tran table x ≡ CollectReply tran r []
err-collected (Refused resp) tran table old new r c = ap (λ (k : ℕ). CollectReply tran k []) (sym c)
err-collected (Sends fragments more) tran table old new r c = absurd c

-- a wrong code is refused
pub denied-answered : (device : DeviceState) (code : ℕ) (otherwise : Answer) (m : Message) (header : Header) (old new : List ℕ) (result : Answered) → is_wrong device code ≡ true
    → Replies (bmp5_packet device.address header m) old new result
    → IsGiven (if is_wrong device code then stays device (InBmp5 m) else otherwise) device device header old new result
denied-answered device code otherwise m header old new result w r = rw w (record { leaves = refl; says = r })

pub unadjusted-answered : (device after : DeviceState) (tran code : ℕ) (adjust : Nsec) (header : Header) (old new : List ℕ) (result : Answered) → is_wrong device code ≡ false
    → has_sum device.clock adjust ≡ false → after ≡ device → Replies (bmp5_packet device.address header (ClockReply tran 2 no_time)) old new result
    → IsGiven (answer_clock device tran code adjust) device after header old new result
unadjusted-answered device after tran code adjust header old new result w s e r = rw w (rw s (record { leaves = e; says = r }))

pub collect-answered : (s : State) (tran : ℕ) (c : CollectKeys) (header : Header) (old new : List ℕ) (result : Answered) (m : Message) → is_wrong s.device c.code ≡ false
    → reply_of tran c.table (collected s.tables c) ≡ m → Replies (bmp5_packet s.device.address header m) old new result
    → IsGiven (answer_collect s tran c) s.device s.device header old new result
collect-answered s tran c header old new result m w e r = rw w (record { leaves = refl; says = subst (λ (x : Message). Replies (bmp5_packet s.device.address header x) old new result) (sym e) r })

pub upload-answered : (device : DeviceState) (tran : ℕ) (u : UploadKeys) (f : Option (List ℕ)) (header : Header) (old new : List ℕ) (result : Answered) → is_wrong device u.code ≡ false
    → file_of device u.name ≡ f → Replies (bmp5_packet device.address header (upload_reply tran u f)) old new result
    → IsGiven (answer_upload device tran u) device device header old new result
upload-answered device tran u f header old new result w e r =
    rw w (record { leaves = refl; says = subst (λ (x : Option (List ℕ)). Replies (bmp5_packet device.address header (upload_reply tran u x)) old new result) (sym e) r })

pub download-answered : (device after : DeviceState) (tran : ℕ) (d : DownloadKeys) (m : Message) (header : Header) (old new : List ℕ) (result : Answered) → is_wrong device d.code ≡ false
    → after ≡ record device { files = (download device.files d.name d.offset d.bytes).files }
    → download_reply tran (download device.files d.name d.offset d.bytes).resp d.offset ≡ m
    → Replies (bmp5_packet device.address header m) old new result
    → IsGiven (answer_download device tran d) device after header old new result
download-answered device after tran d m header old new result w e f r =
    rw w (record { leaves = e; says = subst (λ (x : Message). Replies (bmp5_packet device.address header x) old new result) (sym f) r })

pub replied : (a b : ℕ) (header : Header) (m n : Message) (old new : List ℕ) (result : Answered) → a ≡ b → m ≡ n → Replies (bmp5_packet a header m) old new result → Replies (bmp5_packet b header n) old new result
replied a b header m n old new result e f r =
    subst (λ (x : Message). Replies (bmp5_packet b header x) old new result) f (subst (λ (x : ℕ). Replies (bmp5_packet x header m) old new result) e r)
