-- What the collecting of one table leaves of an archive as it was.
use Rattle.std.specs.Prelude.{◌≡◌, ℕ, ◌≤◌, length, slice_get, Some}
use Rattle.pb_archive.specs.Opened.{Register}
use Rattle.pb_archive.specs.declared.held.Held.{Held}
use Rattle.pb_archive.specs.declared.table_view.Stop.{Stop}

-- A table of the archive later: the same table, with no lower front and no fewer gaps, and stopped where it was.
pub record GoesOnAs (before after : Held) : Type 0 where
  pub station : after.station ≡ before.station
  pub number : after.number ≡ before.number
  pub table : after.table ≡ before.table
  pub front : before.front ≤ after.front
  pub gaps : before.gaps ≤ after.gaps
  pub stop : (stop : Stop) → before.stop ≡ Some stop → after.stop ≡ Some stop

-- No table is added, and of the tables that are there only the one at this place changes.
pub record ChangesOnly (id : ℕ) (old new : Register) : Type 0 where
  pub plan : new.plan ≡ old.plan
  pub count : length new.tables ≡ length old.tables
  pub others : (n : ℕ) → (n ≡ id → ⊥) → slice_get new.tables n ≡ slice_get old.tables n
  pub here : (before after : Held) → slice_get old.tables id ≡ Some before → slice_get new.tables id ≡ Some after
      → GoesOnAs before after
