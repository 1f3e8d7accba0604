-- Layouts of messages, and what it means that bytes are a message, or that they read as one.
use Rattle.std.specs.Prelude.{◌≡◌, ◌⊎◌, ℕ, zero, suc, List, [], ◌∷◌, ◌++◌}
use Rattle.pb_base.specs.declared.message.MessageFault.{MessageFault}
use Rattle.pb_layout.specs.Kind.{Kind, Value, spell, Fits, Obeys, MayFollow}

-- A key, and for each value of it what comes then; at the end the message that the values make, or why there is none.
pub data MessageLayout (X : Type 0) : Type 0 where
  Done : X → MessageLayout X
  Stop : MessageFault → MessageLayout X
  Key : (k : Kind) → (Value k → MessageLayout X) → MessageLayout X

infixl 10 ◌>>=◌
abbrev pub ◌>>=◌ : {X : Type 0} → (k : Kind) → (Value k → MessageLayout X) → MessageLayout X
k >>= next = Key k next

-- What comes behind a reply's code: the keys of an answer behind 0, else the end.
abbrev pub answered : {X : Type 0} → ℕ → MessageLayout X → X → MessageLayout X
answered zero answer refusal = answer
answered (suc code) answer refusal = Done refusal

-- the values of the keys, in their order
abbrev pub Values : {X : Type 0} → MessageLayout X → Type 0
Values (Done x) = Unit {0}
Values (Stop fault) = ⊥
Values (Key k next) = (v : Value k) × Values (next v)

-- the message that the values make
abbrev pub made : {X : Type 0} → (l : MessageLayout X) → Values l → X
made (Done x) values = x
made (Stop fault) values = absurd values
made (Key k next) values = made (next values.0) values.1

-- the bytes of the values
abbrev pub spelled : {X : Type 0} → (l : MessageLayout X) → Values l → List ℕ
spelled (Done x) values = []
spelled (Stop fault) values = []
spelled (Key k next) values = spell k values.0 ++ spelled (next values.0) values.1

-- each value's numbers lie in the ranges of their types
abbrev pub AllFit : {X : Type 0} → (l : MessageLayout X) → Values l → Type 0
AllFit (Done x) values = Unit {0}
AllFit (Stop fault) values = Unit {0}
AllFit (Key k next) values = Fits k values.0 × AllFit (next values.0) values.1

-- each value is as its key asks
abbrev pub AllObey : {X : Type 0} → (l : MessageLayout X) → Values l → Type 0
AllObey (Done x) values = Unit {0}
AllObey (Stop fault) values = Unit {0}
AllObey (Key k next) values = Obeys k values.0 × AllObey (next values.0) values.1

-- these bytes may stand behind the whole
abbrev pub MayEnd : {X : Type 0} → (l : MessageLayout X) → Values l → List ℕ → Type 0
MayEnd (Done x) values rest = Unit {0}
MayEnd (Stop fault) values rest = Unit {0}
MayEnd (Key k next) values rest = MayFollow k values.0 (spelled (next values.0) values.1 ++ rest)
    × MayEnd (next values.0) values.1 rest

-- The number is among these.
abbrev pub IsAmong : List ℕ → ℕ → Type 0
IsAmong [] n = ⊥
IsAmong (m ∷ ms) n = (n ≡ m) ⊎ IsAmong ms n

module _ {X : Type 0} (l : MessageLayout X) (keys : X → Values l) where
  -- The message obeys its layout: its keys' values are as they are asked to be, and it is the message that they make.
  pub record IsValid (x : X) : Type 0 where
    pub obeys : AllObey l (keys x)
    pub makes : made l (keys x) ≡ x

  -- the message's bytes
  abbrev pub bytes_of : X → List ℕ
  bytes_of x = spelled l (keys x)

  -- These are the bytes of the message, which obeys its layout, and whose numbers lie in the ranges of their types.
  pub record HasBytes (x : X) (bytes : List ℕ) : Type 0 where
    pub valid : IsValid x
    pub fits : AllFit l (keys x)
    pub is : bytes ≡ bytes_of x

  -- The bytes read as the message: they are its bytes, and behind them any where its layout has an end.
  pub record ReadsAs (x : X) (bytes : List ℕ) : Type 0 where
    pub valid : IsValid x
    pub fits : AllFit l (keys x)
    pub rest : List ℕ
    pub parts : bytes ≡ bytes_of x ++ rest
    pub ends : MayEnd l (keys x) rest

  -- A message that was written reads as itself, alone and before whatever may follow it. What reads as a message is its
  -- bytes and what may follow them, and nothing reads as two messages.
  pub record WrittenIsRead : Type 0 where
    pub alone : (x : X) (bytes : List ℕ) → HasBytes x bytes → ReadsAs x bytes
    pub again : (x : X) (bytes rest : List ℕ) → HasBytes x bytes → MayEnd l (keys x) rest → ReadsAs x (bytes ++ rest)
    pub parts : (x : X) (bytes : List ℕ) → ReadsAs x bytes
        → (own rest : List ℕ) × (bytes ≡ own ++ rest) × HasBytes x own × MayEnd l (keys x) rest
    pub one_message : (x other : X) (bytes : List ℕ) → ReadsAs x bytes → ReadsAs other bytes → x ≡ other
