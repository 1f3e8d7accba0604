-- The replies of a station are as their layouts ask, and have room in a packet.
use Rattle.std.proofs.Common.{ℕ, zero, suc, ◌+◌, ◌%◌, ◌^◌, ◌≤◌, ◌<◌, List, [], ◌∷◌, ◌++◌, length, decimal, refl, arith}
use Rattle.std.specs.List.{All}
use Rattle.std.proofs.lemmas.Fmt.{decimal_by_steps}
use Rattle.pb_bmp5.specs.Message.{CollectReply, ClockReply, StatsReply, DownloadReply, UploadReply, Valid, message_bytes, no_time}
use Rattle.pb_station.specs.Settings.{version}

pub valid-collect : (tran resp : ℕ) → 0 < resp → Valid (CollectReply tran resp [])
valid-collect tran zero some = absurd (omega (arith, some))
valid-collect tran (suc resp) some = record { obeys = (tt, (tt, (tt, tt))); makes = refl }

pub short-collect : (tran resp : ℕ) → 0 < resp → length (message_bytes (CollectReply tran resp [])) ≤ 1000
short-collect tran zero some = absurd (omega (arith, some))
short-collect tran (suc resp) some = omega arith

pub valid-clock : (tran resp : ℕ) → 0 < resp → Valid (ClockReply tran resp no_time)
valid-clock tran zero some = absurd (omega (arith, some))
valid-clock tran (suc resp) some = record { obeys = (tt, (tt, (tt, tt))); makes = refl }

pub short-clock : (tran resp : ℕ) → 0 < resp → length (message_bytes (ClockReply tran resp no_time)) ≤ 1000
short-clock tran zero some = absurd (omega (arith, some))
short-clock tran (suc resp) some = omega arith

pub valid-download : (tran resp : ℕ) → 0 < resp → Valid (DownloadReply tran resp 0)
valid-download tran zero some = absurd (omega (arith, some))
valid-download tran (suc resp) some = record { obeys = (tt, (tt, (tt, tt))); makes = refl }

pub short-download : (tran resp : ℕ) → 0 < resp → length (message_bytes (DownloadReply tran resp 0)) ≤ 1000
short-download tran zero some = absurd (omega (arith, some))
short-download tran (suc resp) some = omega arith

pub valid-upload : (tran resp : ℕ) → 0 < resp → Valid (UploadReply tran resp 0 [])
valid-upload tran zero some = absurd (omega (arith, some))
valid-upload tran (suc resp) some = record { obeys = (tt, (tt, (tt, tt))); makes = refl }

pub short-upload : (tran resp : ℕ) → 0 < resp → length (message_bytes (UploadReply tran resp 0 [])) ≤ 1000
short-upload tran zero some = absurd (omega (arith, some))
short-upload tran (suc resp) some = omega arith

-- ---- texts without zero bytes

abbrev IsPositive : ℕ → Type 0
IsPositive byte = 0 < byte

positive-one : (x : ℕ) → 0 < x → All IsPositive (x ∷ [])
positive-one x p zero d lt = p
positive-one x p (suc k) d lt = absurd (omega (arith, lt))

positive-cons : (x : ℕ) (xs : List ℕ) → 0 < x → All IsPositive xs → All IsPositive (x ∷ xs)
positive-cons x xs p all zero d lt = p
positive-cons x xs p all (suc k) d lt = all k d (omega (arith, lt))

positive-more : (xs : List ℕ) (x : ℕ) → All IsPositive xs → 0 < x → All IsPositive (xs ++ x ∷ [])
positive-more [] x all p = positive-one x p
positive-more (y ∷ xs) x all p = positive-cons y (xs ++ x ∷ []) (all 0 0 (omega arith)) (positive-more xs x (λ k d lt. all (suc k) d (omega (arith, lt))) p)

pub positive-decimal : (n : ℕ) → n < 2 ^ 64 → All IsPositive (decimal n)
positive-decimal n lt = decimal_by_steps (λ _ ds. All IsPositive ds) (λ m le. positive-one (48 + m) (omega arith)) (λ m ds le all. positive-more ds (48 + m % 10) all (omega arith)) n lt

positive-version : All IsPositive version
positive-version =
    positive-cons 115 (105 ∷ 109 ∷ 46 ∷ 49 ∷ []) (omega arith)
    (positive-cons 105 (109 ∷ 46 ∷ 49 ∷ []) (omega arith)
    (positive-cons 109 (46 ∷ 49 ∷ []) (omega arith)
    (positive-cons 46 (49 ∷ []) (omega arith) (positive-one 49 (omega arith)))))

positive-none : All IsPositive []
positive-none k d lt = absurd (omega (arith, lt))

pub valid-stats : (tran : ℕ) (serial : List ℕ) (progsig : ℕ) → All IsPositive serial
    → Valid (StatsReply tran 0 (record { osver = version; ossig = 0; serial = serial; powerup = []; state = 1; prog = []; progsig = progsig; time = no_time; result = [] }))
valid-stats tran serial progsig all = record {
  obeys = (tt, (tt, (tt, (positive-version, (tt, (all, (positive-none, (tt, (positive-none, (tt, (tt, (positive-none, tt))))))))))));
  makes = refl;
}
