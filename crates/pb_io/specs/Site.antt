-- What the calls of a link do to what a site reports.
use Rattle.std.specs.Prelude.{◌≡◌, ◌⊎◌, ℕ, ◌<◌, List, [], ◌∷◌, ◌++◌, take, Option, Some, Result, MatchResult, ◌==◌, if◌then◌else◌}
use Rattle.pb_base.specs.World.{World, Sent, Quiet, stream_events, all_heard, sent}
use Rattle.pb_io.specs.Faults.{counted}
use Rattle.pb_io.specs.View.{View}

-- A known world grows at its end by these events of the stream, in this order; events of the stations may come before,
-- between and after them. It stays known: the new one where the old one is, and the old one where the new one is.
pub record GrowsBy (old new : Option World) (events : World) : Type 0 where
  pub on : (w : World) → old ≡ Some w → (more : World) × (new ≡ Some (w ++ more)) × (stream_events more ≡ events)
  pub back : (v : World) → new ≡ Some v → (w more : World) × (old ≡ Some w) × (v ≡ w ++ more) × (stream_events more ≡ events)

-- one frame is sent; by a call that fails, once or not at all
abbrev pub Sends : {T E : Type 0} → Option World → Option World → List ℕ → Result T E → Type 0
Sends old new frame result =
    MatchResult result (λ _. GrowsBy old new (Sent frame ∷ [])) (λ _. GrowsBy old new (Sent frame ∷ []) ⊎ GrowsBy old new [])

-- the first n bytes are heard, in their order, or at 0 one quiet tick; by a call that fails neither
abbrev pub Receives : {E : Type 0} → Option World → Option World → List ℕ → Result ℕ E → Type 0
Receives old new given result =
    MatchResult result
    (λ n. (0 < n → GrowsBy old new (all_heard (take n given))) × (n ≡ 0 → GrowsBy old new (Quiet ∷ [])))
    (λ _. GrowsBy old new [])

-- a count of quiet ticks goes up by one with a tick, and stays otherwise
abbrev pub Ticks : {E : Type 0} → ℕ → ℕ → Result ℕ E → Type 0
Ticks before now result = MatchResult result (λ n. now ≡ (if n == 0 then counted before else before)) (λ _. now ≡ before)

-- the image stays, and the world is the one before with a prefix of these frames sent
pub record SendsAtMost (frames : List (List ℕ)) (old : View) (w : World) (c : List ℕ) : Type 0 where
  pub image : old.image c
  pub before : World
  pub more : World
  pub known : old.link.world ≡ Some before
  pub is : w ≡ before ++ more
  pub rest : List (List ℕ)
  pub prefix : sent more ++ rest ≡ frames
