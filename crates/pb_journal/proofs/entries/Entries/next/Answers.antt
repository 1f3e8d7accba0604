use Rattle.std.proofs.Common.{Some, subst, sym}
use Rattle.std.specs.Prelude.{IfSome}
use Rattle.pb_journal.specs.Inside.{NextIs, IsAtHand}
use Rattle.pb_journal.specs.Reading.{Ahead, IsReading}
use Rattle.pb_journal.proofs.NextLemmas.{read_entry}
use Rattle.pb_journal.proofs.entries.Entries.next.Goals as goal

pub returns-in-Ok-Some-clause-read : goal.returns-in-Ok-Some-clause-read
returns-in-Ok-Some-clause-read g c f bodies view reading =
    let gate = c.gate.ensures.value in
    let end = c.args.journal.now.gate in
    let place = c.self.inside.place in
    let size = c.in-Ok-Some.size in
    let found = c.in-Ok-Some.ensures in
    let was = subst (λ r. IsReading r end f bodies) (sym c.self.view_is) reading in
    let next = subst (NextIs f place c.gate.result bodies) c.in-Ok-Some.field-0-is (found.next f view bodies (subst (λ n. Ahead f place n bodies) (sym gate) was.ahead)) in
    let covers = subst (λ o. IfSome o (IsAtHand c.next_body.new.window place c.gate.result)) c.in-Ok-Some.field-0-is found.covers in
    read_entry f place end bodies size c.next_body.new.window (subst (λ n. NextIs f place n bodies (Some size)) gate next) covers.covers (c.next_body.ensures.shows f view)
