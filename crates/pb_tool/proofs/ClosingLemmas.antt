-- What a page that was finished wrote.
use Rattle.std.proofs.Common.{◌≡◌, ℕ, List, [], inl, inr}
use Rattle.pb_io.specs.Outside.{Output}
use Rattle.pb_io.specs.Page.{Waiting, Adds, blank}
use Rattle.pb_io.proofs.PageLemmas.{Adds-flushed, Appends-flushed, BreaksOff-flushed}
use Rattle.pb_tool.specs.declared.status.Status.{Status}
use Rattle.pb_tool.specs.Closing.{Closes, Finished}

-- a text that was added to a new page, which was finished then
pub Closes-finished : (status result : Status) (text : List ℕ) (p q r : Waiting) (o n m : Output) → p ≡ blank → Adds text (record { page = p; out = o }) (record { page = q; out = n })
    → Adds [] (record { page = q; out = n }) (record { page = r; out = m }) → Finished status result r → Closes status result text o.written m.written
Closes-finished status result text p q r o n m empty adds flush finished =
    let all = Adds-flushed text p q r o n m empty adds flush in
    elim finished [
      | inl done ↦ inl (done.0, Appends-flushed text r o m done.1 all)
      | inr not ↦ inr (not.0, (BreaksOff-flushed text r o m not.1 all).prefix)
    ]
