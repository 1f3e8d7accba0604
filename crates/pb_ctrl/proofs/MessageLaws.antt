-- The values that make a message are its keys, and each message has an end.
use Rattle.std.proofs.Common.{◌≡◌, ℕ, [], refl, subst}
use Rattle.pb_base.specs.declared.message.MessageFault.TheVariants.{UnknownType}
use Rattle.pb_layout.specs.Layout.{Stop, Values, made}
use Rattle.pb_layout.proofs.LayoutLaws.{IsNone, at_type, among, is_none}
use Rattle.pb_layout.proofs.FaultLaws.{OnlyMalformed}
use Rattle.pb_ctrl.specs.Message.{Message, Hello, HelloReply, Bye, HelloRequest, Failure, GetSettings, GetSettingsReply, SetSettings, SetSettingsReply, of_type, layout, types, IsType, keys, MayStandBehind}

abbrev HasKeys : ℕ → ℕ → Type 0
HasKeys tran type = (values : Values (of_type type tran)) → keys (made (of_type type tran) values) ≡ (type, (tran, values))

no_type : (type tran : ℕ) → IsNone types type → of_type type tran ≡ Stop (UnknownType type)
no_type type tran n =
    rw (n.0, n.1.0, n.1.1.0, n.1.1.1.0, n.1.1.1.1.0, n.1.1.1.1.1.0, n.1.1.1.1.1.1.0, n.1.1.1.1.1.1.1.0, n.1.1.1.1.1.1.1.1.0) refl

pub keys-made : (values : Values layout) → keys (made layout values) ≡ values
keys-made values =
    let type : ℕ = values.0 in
    let tran : ℕ = values.1.0 in
    let has : HasKeys tran type = at_type types (HasKeys tran) type (
      λ hello. refl,
      (λ hello_reply. refl, (λ bye. refl, (λ hello_request. refl, (λ failure. refl, (λ get. refl, (λ get_reply. refl, (λ set. refl, (λ set_reply. refl, tt)))))))),
    ) (λ none rest. absurd (subst Values (no_type type tran none) rest)) in
    has values.1.1

-- ---- the types

pub known : (type tran : ℕ) → IsType type → OnlyMalformed (of_type type tran)
known type tran is = among types (λ (k : ℕ). OnlyMalformed (of_type k tran)) type (
  λ router metric verify. tt,
  (
    λ router metric verify. tt,
    (tt, (tt, (λ err to from carried. tt, (λ code first. tt, (λ outcome more settings. tt, (λ code settings. tt, (λ outcome number. tt, tt))))))),
  ),
) is

pub unknown : (type tran : ℕ) → (IsType type → ⊥) → of_type type tran ≡ Stop (UnknownType type)
unknown type tran other = no_type type tran (is_none types type other)

-- ---- nothing has to follow a message

pub ends : (m : Message) → MayStandBehind m []
ends (Hello tran router metric verify) = (tt, (tt, (tt, (tt, (tt, tt)))))
ends (HelloReply tran router metric verify) = (tt, (tt, (tt, (tt, (tt, tt)))))
ends (Bye tran) = (tt, (tt, tt))
ends (HelloRequest tran) = (tt, (tt, tt))
ends (Failure tran f) = (tt, (tt, (tt, (tt, (tt, (λ short. refl, tt))))))
ends (GetSettings tran code first) = (tt, (tt, (tt, (tt, tt))))
ends (GetSettingsReply tran outcome more settings) = (tt, (tt, (tt, (tt, (refl, tt)))))
ends (SetSettings tran code settings) = (tt, (tt, (tt, (refl, tt))))
ends (SetSettingsReply tran outcome number) = (tt, (tt, (tt, (tt, tt))))
