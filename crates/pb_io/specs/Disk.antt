-- What the calls of a disk do to what it reports.
use Rattle.std.specs.Prelude.{◌≡◌}
use Rattle.pb_io.specs.Crash.{Within}
use Rattle.pb_io.specs.View.{View}

-- a call that only looks: the file as it reads stays, and so does each image
pub record ReadsOnly (old new : View) : Type 0 where
  pub file : new.file ≡ old.file
  pub fewer : Within old.image new.image
  pub more : Within new.image old.image
