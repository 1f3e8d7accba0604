-- What reads as one message reads as no other.
use Rattle.std.proofs.Common.{◌≡◌, ◌<◌, ℕ, List, Result, Ok, Err, get_or, ap, subst, arith}
use Rattle.pb_base.specs.declared.message.MessageFault.{MessageFault}
use Rattle.pb_ctrl.specs.Message.{FailureKeys, Failure, Message as CtrlMessage}
use Rattle.pb_bmp5.specs.Message.{Wait, Message as Bmp5Message}
use Rattle.pb_trans.specs.declared.asked.Asked.{Asked}
use Rattle.pb_trans.specs.Asking.{BeginsWith, NamesRequest}

pub not_both : {T E : Type 0} {x : T} {e : E} → Ok x ≡ Err e → ⊥
not_both {T} {E} is = subst (λ (r : Result T E). is_ok r) is tt
  where
    is_ok : Result T E → Type 0
    is_ok (Ok x) = Unit {0}
    is_ok (Err e) = ⊥

abbrev keys_or : FailureKeys → Result CtrlMessage MessageFault → FailureKeys
keys_or keys (Ok (Failure tran found)) = found
keys_or keys r = keys

pub one_failure : (asked : Asked) (tran other : ℕ) (keys found : FailureKeys) → ◌≡◌ {A = Result CtrlMessage MessageFault} (Ok (Failure tran keys)) (Ok (Failure other found)) → NamesRequest asked keys.proto keys.dst keys.src keys.carried
    → NamesRequest asked found.proto found.dst found.src found.carried
one_failure asked tran other keys found is names = subst (λ (k : FailureKeys). NamesRequest asked k.proto k.dst k.src k.carried) (ap (keys_or keys) is) names

abbrev tran_or : ℕ → Result Bmp5Message MessageFault → ℕ
tran_or n (Ok (Wait tran kind seconds)) = tran
tran_or n r = n

abbrev kind_or : ℕ → Result Bmp5Message MessageFault → ℕ
kind_or n (Ok (Wait tran kind seconds)) = kind
kind_or n r = n

pub wait_tran : (tran kind seconds a b c : ℕ) → ◌≡◌ {A = Result Bmp5Message MessageFault} (Ok (Wait tran kind seconds)) (Ok (Wait a b c)) → tran ≡ a
wait_tran tran kind seconds a b c is = ap (tran_or tran) is

pub wait_kind : (tran kind seconds a b c : ℕ) → ◌≡◌ {A = Result Bmp5Message MessageFault} (Ok (Wait tran kind seconds)) (Ok (Wait a b c)) → kind ≡ b
wait_kind tran kind seconds a b c is = ap (kind_or kind) is

pub first_byte : (first second : ℕ) (bytes : List ℕ) → get_or bytes 0 0 < 256 → BeginsWith first second bytes → first < 256
first_byte first second bytes small begins = omega (arith, ap (λ l. get_or l 0 0) begins.1, small)
