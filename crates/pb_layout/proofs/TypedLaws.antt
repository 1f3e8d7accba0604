-- What a reader answers, from the one function that reads every layout.
use Rattle.std.proofs.Common.{◌≡◌, ℕ, List, Result, Ok, Err}
use Rattle.std.specs.Prelude.{IfErr}
use Rattle.pb_base.specs.declared.message.MessageFault.{MessageFault}
use Rattle.pb_base.specs.declared.message.MessageFault.TheVariants.{UnknownType}
use Rattle.pb_base.specs.Fields.{whole, IsBytes}
use Rattle.pb_layout.specs.Layout.{MessageLayout, Stop, Values, made, IsAmong}
use Rattle.pb_layout.specs.Reading.{reading, Gives}
use Rattle.pb_layout.specs.Typed.{typed, IsRead}
use Rattle.pb_layout.proofs.LayoutLaws.{found_by, only_by}
use Rattle.pb_layout.proofs.BreakLaws.{breaks_by}
use Rattle.pb_layout.proofs.FaultLaws.{OnlyMalformed, short_by, unknown_by}

refused_by : {X M : Type 0} (l : MessageLayout X) (message_of : M → X) (bytes : List ℕ) (r : Result M MessageFault)
    → Gives message_of r (reading l (whole bytes)) → IfErr r (λ fault. reading l (whole bytes) ≡ Err fault)
refused_by l message_of bytes (Ok m) given = tt
refused_by l message_of bytes (Err fault) given = given

-- each value of the keys is that of the message they make, each type's keys can only be malformed, and another type is unknown
pub is_read : {X M : Type 0} (of_type : ℕ → ℕ → MessageLayout X) (keys : X → Values (typed of_type)) (types : List ℕ) (message_of : M → X)
    → ((values : Values (typed of_type)) → keys (made (typed of_type) values) ≡ values)
    → ((type tran : ℕ) → IsAmong types type → OnlyMalformed (of_type type tran))
    → ((type tran : ℕ) → (IsAmong types type → ⊥) → of_type type tran ≡ Stop (UnknownType type))
    → (bytes : List ℕ) (r : Result M MessageFault) → IsBytes bytes → Gives message_of r (reading (typed of_type) (whole bytes))
    → IsRead (typed of_type) keys types message_of bytes r
is_read of_type keys types message_of back known unknown bytes r are given = record {
  found = found_by (typed of_type) keys back message_of bytes r are given;
  only = only_by (typed of_type) keys message_of bytes r given;
  short = short_by of_type message_of bytes r given;
  unknown = unknown_by of_type (IsAmong types) known unknown message_of bytes r are given;
  malformed = breaks_by (typed of_type) message_of bytes r are given;
  refused = refused_by (typed of_type) message_of bytes r given;
}
