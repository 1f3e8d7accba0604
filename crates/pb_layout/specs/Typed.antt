-- Messages that begin with their type and their transaction, and what a reader of them answers.
use Rattle.std.specs.Prelude.{◌≡◌, ℕ, ◌<◌, ◌≤◌, ◌↔◌, List, length, slice_index, Result, Ok, Err, IfOk, IfErr}
use Rattle.pb_base.specs.declared.message.MessageFault.{MessageFault}
use Rattle.pb_base.specs.declared.message.MessageFault.TheVariants.{UnknownType, Malformed}
use Rattle.pb_base.specs.Fields.{whole}
use Rattle.pb_layout.specs.Kind.{Byte}
use Rattle.pb_layout.specs.Layout.{MessageLayout, Key, Values, IsAmong, ReadsAs}
use Rattle.pb_layout.specs.Breaking.{BreaksAt}
use Rattle.pb_layout.specs.Reading.{reading, Gives}

-- The layout of a protocol's messages: a byte for the type, one for the transaction, and what comes after these.
abbrev pub typed : {X : Type 0} → (ℕ → ℕ → MessageLayout X) → MessageLayout X
typed of_type = Key Byte (λ type. Key Byte (λ tran. of_type type tran))

-- What a reader answers to the bytes of a message. The protocol has this layout and these types; a message's keys have
-- these values, and `message_of` is a message without where its parts lie in memory.
pub record IsRead {X M : Type 0} (layout : MessageLayout X) (keys : X → Values layout) (types : List ℕ) (message_of : M → X)
    (bytes : List ℕ) (result : Result M MessageFault) : Type 0 where
  -- what was read is what the bytes read as
  pub found : IfOk result (λ m. ReadsAs layout keys (message_of m) bytes)
  -- what the bytes read as is read
  pub only : (m : X) → ReadsAs layout keys m bytes → Gives message_of result (Ok m)
  -- of fewer than two bytes the type or the transaction is missing
  pub short : length bytes < 2 → result ≡ Err (Malformed (length bytes))
  -- a type is unknown where there are two bytes and the first is no type
  pub unknown : (n : ℕ) → (result ≡ Err (UnknownType n))
      ↔ ((2 ≤ length bytes) × (slice_index bytes 0 ≡ n) × (IsAmong types n → ⊥))
  -- a malformed message breaks off at the place: the keys before it read, and no value of the next one stands there
  pub malformed : (at : ℕ) → result ≡ Err (Malformed at) → BreaksAt layout 0 bytes at
  -- every refusal is that of the first key that can't be read
  pub refused : IfErr result (λ fault. reading layout (whole bytes) ≡ Err fault)
