-- What heard bytes show, where P says which content of a good body shows what.
use Rattle.std.specs.Prelude.{◌≡◌, ℕ, List, [], ◌∷◌, ◌++◌}
use Rattle.std.specs.List.{Contains}
use Rattle.pb_frame.specs.Framing.{Finding, Whole, Faulty, Verdict}
use Rattle.pb_frame.specs.Hearing.{Hearing, Follows, HoldsContent}

abbrev pub FindingShows : {E : Type 0} → (E → List ℕ → Type 0) → E → Finding → Type 0
FindingShows P e (Whole content) = P e content
FindingShows P e (Faulty at why) = ⊥

-- the verdict is that of a good body whose content shows e
abbrev pub Shows : {E : Type 0} → (E → List ℕ → Type 0) → E → Verdict → Type 0
Shows P e v = FindingShows P e v.outcome

-- no verdict shows anything
abbrev pub NoneShows : {E : Type 0} → (E → List ℕ → Type 0) → List Verdict → Type 0
NoneShows P [] = Unit {0}
NoneShows {E} P (v ∷ vs) = ((e : E) → Shows P e v → ⊥) × NoneShows P vs

-- the last verdict shows e, and none before it anything
pub record EndsWith {E : Type 0} (P : E → List ℕ → Type 0) (e : E) (shown : List Verdict) : Type 0 where
  pub before : List Verdict
  pub last : Verdict
  pub is : shown ≡ before ++ last ∷ []
  pub none_before : NoneShows P before
  pub shows : Shows P e last

-- the last verdict that shows anything shows e
pub record LastShows {E : Type 0} (P : E → List ℕ → Type 0) (e : E) (shown : List Verdict) : Type 0 where
  pub before : List Verdict
  pub one : Verdict
  pub after : List Verdict
  pub is : shown ≡ before ++ one ∷ after
  pub shows : Shows P e one
  pub none_after : NoneShows P after

-- the unframer still holds the content that shows e, and that is the content of one of these verdicts
pub record Holds {E : Type 0} (P : E → List ℕ → Type 0) (e : E) (shown : List Verdict) (ear : Hearing) : Type 0 where
  pub holds : HoldsContent ear
  pub shows : P e ear.content
  pub piece : ℕ
  pub was_shown : Contains shown (record { piece = piece; outcome = Whole ear.content })

-- the unframer shows these verdicts on these bytes
abbrev pub ShownBy : Hearing → List ℕ → List Verdict → Type 0
ShownBy ear bytes shown = (after : Hearing) × Follows ear bytes shown after
