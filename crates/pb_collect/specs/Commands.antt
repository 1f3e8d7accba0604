-- Which command asks for a table.
use Rattle.std.specs.Prelude.{◌≡◌, ℕ, slice_get, Option, None, Some}
use Rattle.pb_archive.specs.Entry.{address_of}
use Rattle.pb_archive.specs.Opened.{OpenArchive}
use Rattle.pb_archive.specs.Plan.{Plan}
use Rattle.pb_archive.specs.declared.held.Held.{Held}
use Rattle.pb_archive.specs.declared.plan.StationPlan.{StationPlan}
use Rattle.pb_collect.specs.Progress.{Progress, question}
use Rattle.pb_collect.specs.declared.question.CollectCommand.{CollectCommand}

-- the security code of a station; 0 where there is none
abbrev pub code_of : Option StationPlan → ℕ
code_of None = 0
code_of (Some s) = s.code

-- The command is to the table's station, from the plan's address, under the table's number and signature, and asks for what is
-- asked next.
pub record IsCommandTo (plan : Plan) (held : Held) (p : Progress) (c : CollectCommand) : Type 0 where
  pub me : c.me ≡ plan.me
  pub via : c.via ≡ plan.via
  pub station : c.station ≡ address_of (slice_get plan.stations held.station)
  pub code : c.code ≡ code_of (slice_get plan.stations held.station)
  pub table : c.table ≡ held.number
  pub sig : c.sig ≡ held.table.signature
  pub layout : c.layout ≡ p.layout
  pub mode : c.mode ≡ question p

-- the same of the table at this place of an archive
pub record IsCommandOf (o : OpenArchive) (id : ℕ) (p : Progress) (c : CollectCommand) : Type 0 where
  pub held : Held
  pub there : slice_get o.tables id ≡ Some held
  pub to : IsCommandTo o.plan held p c
