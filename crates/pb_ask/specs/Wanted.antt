-- What is asked, and which frame ends the request.
use Rattle.std.specs.Prelude.{ℕ, List}
use Rattle.pb_packet.specs.declared.headers.Header.{Header}
use Rattle.pb_packet.specs.Packet.{full, PacketBytes}
use Rattle.pb_trans.specs.declared.asked.Asked.{Asked}
use Rattle.pb_trans.specs.declared.asked.Step.TheVariants as step
use Rattle.pb_trans.specs.Asking.{Means, IsPleaseWait}
use Rattle.pb_ask.specs.declared.question.Ended.{Ended}
use Rattle.pb_ask.specs.declared.question.Ended.TheVariants.{Answer, Undelivered}
use Rattle.pb_ask.specs.declared.question.Conclusion.{Conclusion}
use Rattle.pb_ask.specs.declared.question.Conclusion.TheVariants as conclusion

-- a request: its frame, what is asked of whom, and which message means which answer
pub record Wanted (A : Type 0) : Type 1 where
  pub frame : List ℕ
  pub asked : Asked
  pub takes : A → List ℕ → Type 0

-- the content of a good body is a packet with a message, of which P holds
pub record IsPacket (P : Header → List ℕ → Type 0) (content : List ℕ) : Type 0 where
  pub header : Header
  pub message : List ℕ
  pub packet : PacketBytes (full header message) content
  pub is : P header message

-- the packet ends the request: it is the reply and means this answer, or it reports that the request wasn't delivered
abbrev pub EndsAs : {A : Type 0} → Wanted A → Ended A → Header → List ℕ → Type 0
EndsAs wanted (Answer answer) header message = Means wanted.asked header message step.Answer × wanted.takes answer message
EndsAs wanted (Undelivered code) header message = Means wanted.asked header message (step.Undelivered code)

-- the content of a good body ends the request so
abbrev pub EndsBy : {A : Type 0} → Wanted A → Ended A → List ℕ → Type 0
EndsBy wanted ended content = IsPacket (EndsAs wanted ended) content

-- the content asks to wait these seconds for the request
abbrev pub AsksToWait : Asked → ℕ → List ℕ → Type 0
AsksToWait asked seconds content = IsPacket (IsPleaseWait asked seconds) content

-- the conclusion of a request that a frame ended
abbrev pub conclusion_is : {A : Type 0} → Ended A → Conclusion A
conclusion_is (Answer answer) = conclusion.Answer answer
conclusion_is (Undelivered code) = conclusion.Undelivered code
