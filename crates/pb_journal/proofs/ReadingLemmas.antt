-- For callers that read entries: what is still to be read.
use Rattle.std.proofs.Common.{◌≡◌, ◌∷◌, ℕ, Bool, List, true, subst}
use Rattle.std.specs.Option.{ForSome}
use Rattle.pb_io.specs.View.{View}
use Rattle.pb_journal.specs.Opened.{IsOpened}
use Rattle.pb_journal.specs.Reading.{Reading, IsReading, HasAhead, Read, ReadsAll}

-- from the first entry of a journal that was opened
pub opened_ahead : (gate : ℕ) (disk : View) (it : Reading) → IsOpened gate disk → ReadsAll it → ForSome disk.file (HasAhead it gate)
opened_ahead gate disk it opened reads = λ f view. let rests = opened.rests f view in (rests.0, reads gate f rests.0 rests.1)

-- after an entry that was read
pub read_on : (new : Reading) (gate : ℕ) (f : List ℕ) (bodies : List (List ℕ)) (more : Bool) → more ≡ true → Read new gate f bodies more → (rest : List (List ℕ)) × (bodies ≡ new.body ∷ rest) × IsReading new gate f rest
read_on new gate f bodies more is read = subst (Read new gate f bodies) is read
