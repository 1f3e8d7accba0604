-- What `collect` does: a round over the tables of an archive, and a line for each table that came to its end.
use Rattle.std.specs.Prelude.{◌≡◌, ℕ, List, [], ◌∷◌, ◌++◌, Option, None, Some, Result, Ok, Err, length, codes, decimal}
use Rattle.std.specs.Int.{w16, to_be_bytes}
use Rattle.std.specs.Option.{ForSome}
use Rattle.pb_archive.specs.Opened.{Register}
use Rattle.pb_archive.specs.Plan.{Plan}
use Rattle.pb_archive.specs.Refusals.{OpenRefuses}
use Rattle.pb_archive.specs.declared.fault.ArchiveFault.{ArchiveFault}
use Rattle.pb_archive.specs.declared.held.Held.{Held}
use Rattle.pb_collect.specs.Complete.{Completes}
use Rattle.pb_collect.specs.Kept.{AllGoOnBy, StaysOrCollects}
use Rattle.pb_collect.specs.Round.{AreInOrder, AsksBy, FrontsStand, Reaches, RoundIs}
use Rattle.pb_collect.specs.declared.collector.RoundResult.{RoundResult}
use Rattle.pb_collect.specs.declared.collector.RoundResult.TheVariants as round
use Rattle.pb_collect.specs.declared.ending.End.{End}
use Rattle.pb_collect.specs.declared.ending.End.TheVariants.{Done, NoAnswer, Flooded, Undelivered, Refused, Redefined, Budget}
use Rattle.pb_collect.specs.declared.outcome.Outcome.{Outcome}
use Rattle.pb_io.specs.Outside.{Output}
use Rattle.pb_io.specs.Page.{joined}
use Rattle.pb_io.specs.View.{View}
use Rattle.pb_tool.specs.Check.{IsKeptOf, names_text}
use Rattle.pb_tool.specs.Closing.{Closes}
use Rattle.pb_tool.specs.Refusal.{disk_fault_line, refusal_text, refusal_status}
use Rattle.pb_tool.specs.declared.status.Status.{Status}
use Rattle.pb_tool.specs.declared.status.Status.TheVariants as status
use Rattle.pb_trans.specs.declared.asked.Limits.{Limits}
use Rattle.pb_value.specs.Hex.{hex}

-- how many requests a table may take, where no number is given
abbrev pub budget_of : Option ℕ → ℕ
budget_of None = 10000
budget_of (Some budget) = budget

-- a request is sent three times at most, and again only after five quiet ticks
abbrev pub limits_of : ℕ → Limits
limits_of budget = record { budget = budget; sends = 3; quiets = 5 }

-- ---- what is printed

-- a signature, as four digits
abbrev pub signature_text : ℕ → List ℕ
signature_text n = hex (to_be_bytes w16 n)

unfoldable pub told_text : Option ℕ → List ℕ
told_text None = codes "-"
told_text (Some n) = signature_text n

-- `redefined OLD TOLD`
abbrev pub redefined_text : ℕ → Option ℕ → List ℕ
redefined_text old told = joined (codes "redefined " ∷ signature_text old ∷ codes " " ∷ told_text told ∷ [])

unfoldable pub end_text : End → List ℕ
end_text Done = codes "done"
end_text NoAnswer = codes "no answer"
end_text Flooded = codes "flooded"
end_text (Undelivered code) = joined (codes "undelivered " ∷ decimal code ∷ [])
end_text (Refused code) = joined (codes "refused " ∷ decimal code ∷ [])
end_text (Redefined old told) = redefined_text old told
end_text Budget = codes "budget"

-- ` FROM TO gap G asked N `
unfoldable pub numbers_text : Outcome → List ℕ
numbers_text o =
    joined (codes " " ∷ decimal o.from.0 ∷ codes " " ∷ decimal o.to.0 ∷ codes " gap " ∷ decimal o.gaps ∷ codes " asked "
    ∷ decimal o.asked ∷ codes " " ∷ [])

-- `STATION TABLE FROM TO gap G asked N END`
unfoldable pub line_text : Plan → Held → Outcome → List ℕ
line_text plan t o =
    joined (names_text plan t ∷ numbers_text o ∷ end_text o.end ∷ codes "\n" ∷ [])

-- a line for each table that came to its end, in the tables' order
abbrev pub report_text : Plan → List Held → List Outcome → List ℕ
report_text plan (t ∷ tables) (o ∷ outcomes) = line_text plan t o ++ report_text plan tables outcomes
report_text plan [] outcomes = []
report_text plan tables [] = []

-- the closing line of a round that was broken off
unfoldable pub fault_line : RoundResult → List ℕ
fault_line round.Done = []
fault_line round.Incomplete = []
fault_line round.DiskFault = disk_fault_line
fault_line round.LinkFault = codes "pakbus: link fault\n"

abbrev pub round_status : RoundResult → Status
round_status round.Done = status.Done
round_status round.Incomplete = status.Incomplete
round_status round.DiskFault = status.DiskFault
round_status round.LinkFault = status.LinkFault

-- ---- what it means

-- a round: what is kept of the archive before and after it, and what came of the tables that ended
pub record Round : Type 0 where
  pub result : RoundResult
  pub before : Register
  pub after : Register
  pub outcomes : List Outcome

-- What came of a round over a site that was so before and after it: its result; each table that ended, in order, with what
-- was asked of it; and the new fronts stand in each file that a crash may leave.
pub record Came (budget : ℕ) (r : Round) (old new : View) : Type 0 where
  pub result : RoundIs r.result r.outcomes (length r.after.tables)
  pub order : AreInOrder 0 r.outcomes
  pub reaches : Reaches r.outcomes r.before r.after
  pub asks : AsksBy r.result (limits_of budget) r.before r.outcomes old.link new.link
  pub fronts : FrontsStand r.outcomes new

abbrev pub round_text : Round → List ℕ
round_text r = report_text r.after.plan r.after.tables r.outcomes ++ fault_line r.result

-- The round was over the archive in the file as it read at entry, and whatever a crash leaves goes on from that. Where nothing
-- disturbed it, it is done, and each table is complete.
pub record Collects (budget : ℕ) (r : Round) (old new : View) : Type 0 where
  pub kept : ForSome old.file (IsKeptOf r.before)
  pub came : Came budget r old new
  pub goes_on : AllGoOnBy StaysOrCollects old.file new
  pub complete : Completes r.result budget r.before r.outcomes old new

abbrev pub Means : ℕ → Result Round ArchiveFault → View → View → Type 0
Means budget (Ok r) old new = Collects budget r old new
Means budget (Err fault) old new = OpenRefuses old.file fault × (new.link ≡ old.link)

unfoldable pub answer_text : Result Round ArchiveFault → List ℕ
answer_text (Ok r) = round_text r
answer_text (Err fault) = refusal_text fault

abbrev pub answer_status : Result Round ArchiveFault → Status
answer_status (Ok r) = round_status r.result
answer_status (Err fault) = refusal_status fault

-- the row of `collect`
pub record RanCollect (budget : ℕ) (result : Status) (before after : View) (out_before out_after : Output) : Type 0 where
  pub answer : Result Round ArchiveFault
  pub means : Means budget answer before after
  pub printed : Closes (answer_status answer) result (answer_text answer) out_before.written out_after.written

-- a round over an archive that is open
pub record RanRound (budget : ℕ) (result : Status) (first : Register) (before after : View)
    (out_before out_after : Output) : Type 0 where
  pub round : Round
  pub is : round.before ≡ first
  pub came : Came budget round before after
  pub complete : Completes round.result budget round.before round.outcomes before after
  pub printed : Closes (round_status round.result) result (round_text round) out_before.written out_after.written
