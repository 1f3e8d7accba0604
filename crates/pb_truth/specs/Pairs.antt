-- The pairs of a world and a file that a crash may leave, from one call to the next.
use Rattle.std.specs.Prelude.{◌≡◌, List, ℕ, ◌++◌, Some}
use Rattle.pb_base.specs.World.{World}
use Rattle.pb_base.specs.Request.{Request}
use Rattle.pb_io.specs.View.{View, LeavesOnly}
use Rattle.pb_archive.specs.Archive.{Archive}
use Rattle.pb_archive.specs.Entry.{Change}
use Rattle.pb_archive.specs.Held.{HasArchive}
use Rattle.pb_truth.specs.Asked.{WasAsked, IsOwn, Allows}
use Rattle.pb_truth.specs.Image.{StaysTrue, Good}

-- each pair that a crash of now leaves is good
abbrev pub AreGood : View → Type 0
AreGood now = (w : World) (image : List ℕ) → now.link.world ≡ Some w → now.image image → Good w image

-- each pair that a crash leaves at some moment from the first one on is good, and so is each of now
pub record AreGoodSince (entry now : View) : Type 0 where
  pub leaves : LeavesOnly entry now Good
  pub here : AreGood now

-- An image of before, and the world of before with more events, in which nothing was asked but what the image's archive
-- allows.
pub record AsksAllowed (old : View) (w : World) (image : List ℕ) : Type 0 where
  pub was : old.image image
  pub before : World
  pub more : World
  pub known : old.link.world ≡ Some before
  pub is : w ≡ before ++ more
  pub allowed : (a : Archive) (r : Request) → HasArchive image a → WasAsked more r → IsOwn a r.me → Allows a r

-- whichever image there is, and whatever archive it has, the change keeps it true
abbrev pub StaysTrueIn : View → Change → Type 0
StaysTrueIn now change =
    (w : World) (image : List ℕ) (a : Archive) → now.link.world ≡ Some w → now.image image
    → HasArchive image a → StaysTrue w a change
