-- The hearing side of a link.
use Rattle.std.specs.Prelude.{◌≡◌, ℕ, List, ◌++◌, Some}
use Rattle.pb_base.specs.World.{World, heard}
use Rattle.pb_frame.specs.Hearing.{Hearing}
use Rattle.pb_io.specs.View.{Link}

-- what the unframer knows, and the bytes that came and weren't judged yet
pub record Listening : Type 0 where
  pub ear : Hearing
  pub inbox : List ℕ

-- What was heard since the stream began ends with the bytes that were judged, and then those that wait.
abbrev pub IsListening : Link → List ℕ → List ℕ → Type 0
IsListening link judged waiting = (w : World) → link.world ≡ Some w
    → (earlier : List ℕ) × (heard w ≡ (earlier ++ judged) ++ waiting)
