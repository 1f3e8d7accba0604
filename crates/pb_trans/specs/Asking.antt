-- What a packet is to a request.
use Rattle.std.specs.Prelude.{◌≡◌, ℕ, ◌+◌, List, ◌∷◌}
use Rattle.pb_packet.specs.declared.headers.Header.{Header}
use Rattle.pb_packet.specs.declared.headers.TheConstants.{PROTO_PAKCTRL, PROTO_BMP5}
use Rattle.pb_ctrl.specs.Message.{Failure, FailureKeys, MessageReads as CtrlReads}
use Rattle.pb_bmp5.specs.Message.{Wait as PleaseWait, MessageReads as Bmp5Reads}
use Rattle.pb_trans.specs.declared.asked.Asked.{Asked}
use Rattle.pb_trans.specs.declared.asked.Step.{Step}
use Rattle.pb_trans.specs.declared.asked.Step.TheVariants.{Wait, Answer, Undelivered}

-- from the station to me
pub record IsFromStation (asked : Asked) (header : Header) : Type 0 where
  pub to : header.dst ≡ asked.me
  pub from : header.src ≡ asked.station

-- the bytes begin with these two
abbrev pub BeginsWith : ℕ → ℕ → List ℕ → Type 0
BeginsWith first second bytes = (rest : List ℕ) × (bytes ≡ first ∷ second ∷ rest)

-- the packet is a reply to the request: its message begins with the reply's type and the transaction
pub record IsAnswer (asked : Asked) (header : Header) (message : List ℕ) : Type 0 where
  pub way : IsFromStation asked header
  pub proto : header.proto ≡ asked.proto
  pub begins : BeginsWith (asked.kind + 0x80) asked.tran message

-- a failure with these keys is of the request: it names the request's protocol, its station and me, and carries the
-- first bytes of its message
pub record NamesRequest (asked : Asked) (proto dst src : ℕ) (carried : List ℕ) : Type 0 where
  pub proto_is : proto ≡ asked.proto
  pub dst_is : dst ≡ asked.station
  pub src_is : src ≡ asked.me
  pub carries : BeginsWith asked.kind asked.tran carried

-- the packet is a delivery failure for me with this code, of the request
pub record IsFailure (asked : Asked) (code : ℕ) (header : Header) (message : List ℕ) : Type 0 where
  pub to : header.dst ≡ asked.me
  pub proto : header.proto ≡ PROTO_PAKCTRL
  pub tran : ℕ
  pub keys : FailureKeys
  pub reads : CtrlReads (Failure tran keys) message
  pub code_is : keys.err ≡ code
  pub names : NamesRequest asked keys.proto keys.dst keys.src keys.carried

-- the station asks to wait these seconds for this request
pub record IsPleaseWait (asked : Asked) (seconds : ℕ) (header : Header) (message : List ℕ) : Type 0 where
  pub of_bmp5 : asked.proto ≡ PROTO_BMP5
  pub way : IsFromStation asked header
  pub proto : header.proto ≡ PROTO_BMP5
  pub reads : Bmp5Reads (PleaseWait asked.tran asked.kind seconds) message

-- what a packet means: a reply is one before all else
abbrev pub Means : Asked → Header → List ℕ → Step → Type 0
Means asked header message Answer = IsAnswer asked header message
Means asked header message (Undelivered code) = IsFailure asked code header message × (IsAnswer asked header message → ⊥)
Means asked header message Wait = (IsAnswer asked header message → ⊥) × ((code : ℕ) → IsFailure asked code header message → ⊥)
Means asked header message step = ⊥
