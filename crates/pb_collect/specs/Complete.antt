-- What an undisturbed round comes to.
use Rattle.std.specs.Prelude.{◌≡◌, ℕ, ◌≤◌, List, ◌++◌, length, slice_get, None, Some, Ok}
use Rattle.pb_base.specs.declared.layout.Layout.{Layout}
use Rattle.pb_base.specs.History.{TableKey, history}
use Rattle.pb_base.specs.World.{World}
use Rattle.pb_bmp5.specs.TrueReply.{Stage}
use Rattle.pb_archive.specs.Entry.{address_of}
use Rattle.pb_archive.specs.Opened.{Register}
use Rattle.pb_archive.specs.Plan.{Plan}
use Rattle.pb_archive.specs.declared.held.Held.{Held}
use Rattle.pb_io.specs.Faults.{Rose}
use Rattle.pb_io.specs.View.{View}
use Rattle.pb_truth.specs.Bound.{bound}
use Rattle.pb_truth.specs.Pairs.{AreGood}
use Rattle.pb_truth.specs.Undisturbed.{IsExchange, Undisturbed}
use Rattle.pb_collect.specs.Kept.{HonestFrom}
use Rattle.pb_collect.specs.declared.collector.RoundResult.{RoundResult}
use Rattle.pb_collect.specs.declared.collector.RoundResult.TheVariants.{Done as RoundDone}
use Rattle.pb_collect.specs.declared.ending.End.TheVariants.{Done}
use Rattle.pb_collect.specs.declared.outcome.Outcome.{Outcome}

-- the table, as worlds tell of it
abbrev pub key_of : Plan → Held → TableKey
key_of plan held = record {
  station = address_of (slice_get plan.stations held.station);
  number = held.number.0;
  signature = held.table.signature;
}

-- No table has a stop, and each may take as many requests as full answers need for the records that were held from its front
-- on and those that came to be stored.
pub record CanComplete (budget : ℕ) (first last : World) (r : Register) : Type 0 where
  pub going_on : (n : ℕ) (held : Held) → slice_get r.tables n ≡ Some held → held.stop ≡ None
  pub enough : (n : ℕ) (held : Held) (layout : Layout) → slice_get r.tables n ≡ Some held → held.table.layout ≡ Ok layout
      → bound layout held.front (history first (key_of r.plan held)).oldest
      (length (history last (key_of r.plan held)).records) ≤ budget

-- The answer at this stage was heard meanwhile: the full one to a request for the table.
pub record HeardAt (first last : World) (key : TableKey) (stage : Stage) : Type 0 where
  pub from : World
  pub events : World
  pub after : World
  pub whole : last ≡ ((first ++ from) ++ events) ++ after
  pub exchange : IsExchange (first ++ from) events
  pub table : exchange.request.table ≡ key
  pub stage_is : stage ≡ (exchange.reply.is_true.says exchange.complete).answer.stage

-- The table is done, within the bound, and its new front is the number of records that its station had stored when it answered.
pub record IsComplete (first last : World) (plan : Plan) (held : Held) (o : Outcome) : Type 0 where
  pub done : o.end ≡ Done
  pub layout : Layout
  pub has_layout : held.table.layout ≡ Ok layout
  pub stage : Stage
  pub heard : HeardAt first last (key_of plan held) stage
  pub to : o.to.0 ≡ stage.next
  pub within : o.asked ≤ bound layout held.front (history first (key_of plan held)).oldest stage.next

-- of each table with an outcome
abbrev pub AllComplete : World → World → Register → List Outcome → Type 0
AllComplete first last r os =
    (n : ℕ) (o : Outcome) (held : Held) → slice_get os n ≡ Some o → slice_get r.tables n ≡ Some held
    → IsComplete first last r.plan held o

-- A round over a site whose file and world are known, in which nothing disturbs it: the world is undisturbed and honest, all was
-- good before, no call fails, and the budget is enough.
pub record IsUndisturbed (budget : ℕ) (r : Register) (old new : View) (first last : World) : Type 0 where
  pub before : old.link.world ≡ Some first
  pub after : new.link.world ≡ Some last
  pub file : List ℕ
  pub known : old.file ≡ Some file
  pub undisturbed : Undisturbed first last
  pub good : AreGood old
  pub honest : HonestFrom old new
  pub no_disk_fault : Rose old.faults new.faults → ⊥
  pub no_link_fault : Rose old.link.faults new.link.faults → ⊥
  pub can : CanComplete budget first last r

-- where nothing disturbs it, it is done, and each table is complete
abbrev pub Completes : RoundResult → ℕ → Register → List Outcome → View → View → Type 0
Completes result budget r os old new =
    (first last : World) → IsUndisturbed budget r old new first last → (result ≡ RoundDone) × AllComplete first last r os
