use Rattle.std.proofs.Common.{◌≡◌, ◌<◌, get_or, refl, sym, subst, ◌∙◌}
use Rattle.pb_archive.specs.Entry.{advance_kind}
use Rattle.pb_archive.specs.Inside.{IsKnown, IsRunIn, HasNoRun}
use Rattle.pb_archive.specs.Reader.{Reader, Awaits}
use Rattle.pb_archive.proofs.OpeningLemmas.{read_some}
use Rattle.pb_archive.proofs.ReaderLemmas.{elsewhere, taken_up, never_wrong, none_known}
use Rattle.pb_archive.proofs.rows.Rows.read_entry.Goals as goal

pub returns-in-Err-clause-rows : goal.returns-in-Err-clause-rows
returns-in-Err-clause-rows g c f rows view awaits =
    let was = subst (λ r. Awaits r f rows) (sym c.self.view_is) awaits in
    let more = subst (λ (r : Reader). r.next < r.to) (sym c.self.view_is) c.requires.more in
    let unknown = subst (λ r. IsKnown r → ⊥) (sym c.self.view_is) c.requires.unknown in
    let some = read_some c.next.new.self c.self.inside.journal.now.gate f was.rest c.in_ok-next.field-0 c.if-not-branch.false (c.in_ok-next.ensures.read f was.rest view was.ahead) in
    absurd (never_wrong _ f rows was more unknown c.next.new.self some.0 some.2 some.1
    (subst (λ l. get_or l 0 0 ≡ advance_kind) c.body.ensures c.in-Err.ensures.kind)
    (λ change spelled bytes. c.in-Err.ensures.wrong change spelled (c.body.ensures ∙ bytes)))

pub returns-in-Err-clause-refused : goal.returns-in-Err-clause-refused
returns-in-Err-clause-refused g c = none_known _ (λ f view.
    let has = c.requires.rows f view in
    let was = subst (λ r. Awaits r f has.0) (sym c.self.view_is) has.1 in
    let more = subst (λ (r : Reader). r.next < r.to) (sym c.self.view_is) c.requires.more in
    let unknown = subst (λ r. IsKnown r → ⊥) (sym c.self.view_is) c.requires.unknown in
    let some = read_some c.next.new.self c.self.inside.journal.now.gate f was.rest c.in_ok-next.field-0 c.if-not-branch.false (c.in_ok-next.ensures.read f was.rest view was.ahead) in
    never_wrong _ f has.0 was more unknown c.next.new.self some.0 some.2 some.1
    (subst (λ l. get_or l 0 0 ≡ advance_kind) c.body.ensures c.in-Err.ensures.kind)
    (λ change spelled bytes. c.in-Err.ensures.wrong change spelled (c.body.ensures ∙ bytes)))

pub returns-in-Ok-None-clause-rows : goal.returns-in-Ok-None-clause-rows
returns-in-Ok-None-clause-rows g c f rows view awaits =
    let was = subst (λ r. Awaits r f rows) (sym c.self.view_is) awaits in
    let more = subst (λ (r : Reader). r.next < r.to) (sym c.self.view_is) c.requires.more in
    let unknown = subst (λ r. IsKnown r → ⊥) (sym c.self.view_is) c.requires.unknown in
    let some = read_some c.next.new.self c.self.inside.journal.now.gate f was.rest c.in_ok-next.field-0 c.if-not-branch.false (c.in_ok-next.ensures.read f was.rest view was.ahead) in
    let none = rw c.in-Ok-None.field-0-is at c.in-Ok-None.ensures.read in
    elsewhere _ f rows was more unknown c.next.new.self some.0 some.2 some.1 _ _ c.end-self-inside.ensures refl
    (subst (HasNoRun c.self.inside.id.0) c.body.ensures none)

pub returns-in-Ok-Some-clause-rows : goal.returns-in-Ok-Some-clause-rows
returns-in-Ok-Some-clause-rows g c f rows view awaits =
    let was = subst (λ r. Awaits r f rows) (sym c.self.view_is) awaits in
    let more = subst (λ (r : Reader). r.next < r.to) (sym c.self.view_is) c.requires.more in
    let unknown = subst (λ r. IsKnown r → ⊥) (sym c.self.view_is) c.requires.unknown in
    let some = read_some c.next.new.self c.self.inside.journal.now.gate f was.rest c.in_ok-next.field-0 c.if-not-branch.false (c.in_ok-next.ensures.read f was.rest view was.ahead) in
    let run = rw c.in-Ok-Some.field-0-is at c.in-Ok-Some.ensures.read in
    taken_up _ f rows was more unknown c.next.new.self some.0 some.2 some.1 _ _
    (subst (λ l. IsRunIn c.self.inside.id.0 c.self.inside.layout l c.in-Ok-Some.run') c.body.ensures run)
