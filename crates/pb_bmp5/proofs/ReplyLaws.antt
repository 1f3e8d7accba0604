-- The bytes of the replies and of the collect command, as they are written.
use Rattle.std.proofs.Common.{◌≡◌, ◌<◌, ◌^◌, ℕ, zero, suc, List, [], ◌∷◌, ◌++◌, drop, refl, sym, ap, subst, ◌∙◌, append_assoc, arith}
use Rattle.std.specs.Int.{w16, to_be_bytes}
use Rattle.pb_base.specs.declared.nsec.Nsec.{Nsec}
use Rattle.pb_bmp5.specs.declared.message.Mode.{Mode}
use Rattle.pb_bmp5.specs.declared.message.Mode.TheVariants as mode
use Rattle.pb_bmp5.specs.Modes.{mode_number, parameter_bytes, ModeFits}
use Rattle.pb_bmp5.specs.Message.{Message, Collect, CollectReply, ClockReply, StatsReply, DownloadReply, UploadReply, StatsKeys, InRange, message_bytes}

pub at_zero : (P : ℕ → Type 0) (n : ℕ) → n ≡ 0 → P 0 → P n
at_zero P n e p = subst P (sym e) p

pub collect_answer_bytes : (tran resp : ℕ) (bytes : List ℕ) (P : List ℕ → Type 0) → resp ≡ 0 → P (0x89 ∷ tran ∷ resp ∷ drop 3 (message_bytes (CollectReply tran 0 bytes))) → P (message_bytes (CollectReply tran resp bytes))
collect_answer_bytes tran zero bytes P answered p = p
collect_answer_bytes tran (suc resp) bytes P answered p = absurd cc

pub collect_refusal_bytes : (tran resp : ℕ) (bytes : List ℕ) (P : List ℕ → Type 0) → (resp ≡ 0 → ⊥) → P (0x89 ∷ tran ∷ resp ∷ []) → P (message_bytes (CollectReply tran resp bytes))
collect_refusal_bytes tran zero bytes P refused p = absurd (refused refl)
collect_refusal_bytes tran (suc resp) bytes P refused p = p

pub collect_refusal_fits : (tran resp : ℕ) (bytes : List ℕ) → (resp ≡ 0 → ⊥) → tran < 2 ^ 8 → resp < 2 ^ 8 → InRange (CollectReply tran resp bytes)
collect_refusal_fits tran zero bytes refused small code = absurd (refused refl)
collect_refusal_fits tran (suc resp) bytes refused small code = (omega arith, (small, (code, tt)))

pub clock_answer_bytes : (tran resp : ℕ) (time : Nsec) (P : List ℕ → Type 0) → resp ≡ 0 → P (0x97 ∷ tran ∷ resp ∷ drop 3 (message_bytes (ClockReply tran 0 time))) → P (message_bytes (ClockReply tran resp time))
clock_answer_bytes tran zero time P answered p = p
clock_answer_bytes tran (suc resp) time P answered p = absurd cc

pub clock_refusal_bytes : (tran resp : ℕ) (time : Nsec) (P : List ℕ → Type 0) → (resp ≡ 0 → ⊥) → P (0x97 ∷ tran ∷ resp ∷ []) → P (message_bytes (ClockReply tran resp time))
clock_refusal_bytes tran zero time P refused p = absurd (refused refl)
clock_refusal_bytes tran (suc resp) time P refused p = p

pub clock_refusal_fits : (tran resp : ℕ) (time : Nsec) → (resp ≡ 0 → ⊥) → tran < 2 ^ 8 → resp < 2 ^ 8 → InRange (ClockReply tran resp time)
clock_refusal_fits tran zero time refused small code = absurd (refused refl)
clock_refusal_fits tran (suc resp) time refused small code = (omega arith, (small, (code, tt)))

pub stats_refusal_bytes : (tran resp : ℕ) (s : StatsKeys) (P : List ℕ → Type 0) → (resp ≡ 0 → ⊥) → P (0x98 ∷ tran ∷ resp ∷ []) → P (message_bytes (StatsReply tran resp s))
stats_refusal_bytes tran zero s P refused p = absurd (refused refl)
stats_refusal_bytes tran (suc resp) s P refused p = p

pub stats_refusal_fits : (tran resp : ℕ) (s : StatsKeys) → (resp ≡ 0 → ⊥) → tran < 2 ^ 8 → resp < 2 ^ 8 → InRange (StatsReply tran resp s)
stats_refusal_fits tran zero s refused small code = absurd (refused refl)
stats_refusal_fits tran (suc resp) s refused small code = (omega arith, (small, (code, tt)))

pub download_answer_bytes : (tran resp : ℕ) (offset : ℕ) (P : List ℕ → Type 0) → resp ≡ 0 → P (0x9C ∷ tran ∷ resp ∷ drop 3 (message_bytes (DownloadReply tran 0 offset))) → P (message_bytes (DownloadReply tran resp offset))
download_answer_bytes tran zero offset P answered p = p
download_answer_bytes tran (suc resp) offset P answered p = absurd cc

pub download_refusal_bytes : (tran resp : ℕ) (offset : ℕ) (P : List ℕ → Type 0) → (resp ≡ 0 → ⊥) → P (0x9C ∷ tran ∷ resp ∷ []) → P (message_bytes (DownloadReply tran resp offset))
download_refusal_bytes tran zero offset P refused p = absurd (refused refl)
download_refusal_bytes tran (suc resp) offset P refused p = p

pub download_refusal_fits : (tran resp : ℕ) (offset : ℕ) → (resp ≡ 0 → ⊥) → tran < 2 ^ 8 → resp < 2 ^ 8 → InRange (DownloadReply tran resp offset)
download_refusal_fits tran zero offset refused small code = absurd (refused refl)
download_refusal_fits tran (suc resp) offset refused small code = (omega arith, (small, (code, tt)))

pub upload_answer_bytes : (tran resp : ℕ) (offset : ℕ) (bytes : List ℕ) (P : List ℕ → Type 0) → resp ≡ 0 → P (0x9D ∷ tran ∷ resp ∷ drop 3 (message_bytes (UploadReply tran 0 offset bytes))) → P (message_bytes (UploadReply tran resp offset bytes))
upload_answer_bytes tran zero offset bytes P answered p = p
upload_answer_bytes tran (suc resp) offset bytes P answered p = absurd cc

pub upload_refusal_bytes : (tran resp : ℕ) (offset : ℕ) (bytes : List ℕ) (P : List ℕ → Type 0) → (resp ≡ 0 → ⊥) → P (0x9D ∷ tran ∷ resp ∷ []) → P (message_bytes (UploadReply tran resp offset bytes))
upload_refusal_bytes tran zero offset bytes P refused p = absurd (refused refl)
upload_refusal_bytes tran (suc resp) offset bytes P refused p = p

pub upload_refusal_fits : (tran resp : ℕ) (offset : ℕ) (bytes : List ℕ) → (resp ≡ 0 → ⊥) → tran < 2 ^ 8 → resp < 2 ^ 8 → InRange (UploadReply tran resp offset bytes)
upload_refusal_fits tran zero offset bytes refused small code = absurd (refused refl)
upload_refusal_fits tran (suc resp) offset bytes refused small code = (omega arith, (small, (code, tt)))

-- ---- the collect command

abbrev head : ℕ → ℕ → ℕ → ℕ → ℕ → List ℕ → List ℕ
head tran code number table sig rest = 0x09 ∷ tran ∷ to_be_bytes w16 code ++ (number ∷ to_be_bytes w16 table ++ (to_be_bytes w16 sig ++ rest))

abbrev closing : List ℕ → List ℕ
closing fields = (fields ++ 0 ∷ 0 ∷ []) ++ []

abbrev command : (tran code table sig : ℕ) → Mode → List ℕ → Message
command tran code table sig m fields = Collect tran (record { code = code; mode = m; table = table; sig = sig; fields = fields })

collect_is : (tran code table sig : ℕ) (m : Mode) (fields : List ℕ)
    → message_bytes (command tran code table sig m fields) ≡ head tran code (mode_number m) table sig (parameter_bytes m ++ closing fields)
collect_is tran code table sig mode.All fields = refl
collect_is tran code table sig (mode.From p1) fields = refl
collect_is tran code table sig (mode.Newest p1) fields = refl
collect_is tran code table sig (mode.Range p1 p2) fields = refl
collect_is tran code table sig (mode.Times p1 p2) fields = refl
collect_is tran code table sig (mode.Part p1 p2) fields = refl

pub collect_bytes : (tran code table sig number : ℕ) (m : Mode) (fields first second : List ℕ) (P : List ℕ → Type 0) → number ≡ mode_number m → first ++ second ≡ parameter_bytes m
    → P (head tran code number table sig (first ++ (second ++ closing fields))) → P (message_bytes (command tran code table sig m fields))
collect_bytes tran code table sig number m fields first second P e f p =
    let parts : first ++ (second ++ closing fields) ≡ parameter_bytes m ++ closing fields = sym (append_assoc first second (closing fields)) ∙ ap (λ (b : List ℕ). b ++ closing fields) f in
    let same : head tran code number table sig (first ++ (second ++ closing fields)) ≡ message_bytes (command tran code table sig m fields) =
    ap (λ (n : ℕ). head tran code n table sig (first ++ (second ++ closing fields))) e ∙ ap (λ (b : List ℕ). head tran code (mode_number m) table sig b) parts
    ∙ sym (collect_is tran code table sig m fields) in
    subst P same p

pub collect_fits : (tran code table sig : ℕ) (m : Mode) (fields : List ℕ) → tran < 2 ^ 8 → code < 2 ^ 16 → table < 2 ^ 16 → sig < 2 ^ 16 → ModeFits m
    → InRange (command tran code table sig m fields)
collect_fits tran code table sig mode.All fields a b c d h = (omega arith, (a, (b, (omega arith, (c, (d, (tt, tt)))))))
collect_fits tran code table sig (mode.From p1) fields a b c d h = (omega arith, (a, (b, (omega arith, (c, (d, (h, (tt, tt))))))))
collect_fits tran code table sig (mode.Newest p1) fields a b c d h = (omega arith, (a, (b, (omega arith, (c, (d, (h, (tt, tt))))))))
collect_fits tran code table sig (mode.Range p1 p2) fields a b c d h = (omega arith, (a, (b, (omega arith, (c, (d, (h.0, (h.1, (tt, tt)))))))))
collect_fits tran code table sig (mode.Times p1 p2) fields a b c d h = (omega arith, (a, (b, (omega arith, (c, (d, (h.0, (h.1, (tt, tt)))))))))
collect_fits tran code table sig (mode.Part p1 p2) fields a b c d h = (omega arith, (a, (b, (omega arith, (c, (d, (h.0, (h.1, (tt, tt)))))))))
