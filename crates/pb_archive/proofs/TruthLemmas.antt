-- Histories only grow later, and what was true of them stays true.
use Rattle.std.proofs.Common.{ℕ, suc, List, [], ◌∷◌, length, Some, None, ap, arith, length-append}
use Rattle.std.specs.Prelude.{Option}
use Rattle.pb_base.specs.History.{TableKey, History, GoesOn, Later}
use Rattle.pb_archive.specs.Archive.{Table, Archive}
use Rattle.pb_archive.specs.Truth.{RowIsTrue, RowsAreTrue, SoundTable, Sound}
use Rattle.pb_archive.proofs.ListLemmas.{slice_get-IsFront}

fits_later : (old new : History) (number : ℕ) (row : Option (List ℕ)) → GoesOn old new → RowIsTrue old number row → RowIsTrue new number row
fits_later old new number None later fits = omega (arith, later.oldest, fits)
fits_later old new number (Some bytes) later fits = record {
  stored = fits.stored;
  is = slice_get-IsFront old.records new.records number fits.stored later.records fits.is;
  same = fits.same;
}

all_fit_later : (old new : History) (number : ℕ) (rows : List (Option (List ℕ))) → GoesOn old new → RowsAreTrue old number rows → RowsAreTrue new number rows
all_fit_later old new number [] later fit = fit
all_fit_later old new number (row ∷ rows) later fit = (fits_later old new number row later fit.0, all_fit_later old new (suc number) rows later fit.1)

pub sound_table_later : (t : Table) (old new : History) → GoesOn old new → SoundTable t old → SoundTable t new
sound_table_later t old new later sound = record {
  below = let more = later.records in omega (arith, sound.below, ap length more.1, length-append old.records more.0);
  fit = all_fit_later old new 0 t.rows later sound.fit;
}

pub sound_later : (a : Archive) (old new : TableKey → History) → Later old new → Sound a old → Sound a new
sound_later a old new later sound id t is = sound_table_later t (old t.key) (new t.key) (later t.key) (sound id t is)
