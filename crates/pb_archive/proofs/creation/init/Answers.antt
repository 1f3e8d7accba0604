use Rattle.std.proofs.Common.{◌∙◌, ◌++◌, [], ℕ, List, length, sym, subst, ap, arith}
use Rattle.std.proofs.lemmas.List.{append-nil}
use Rattle.pb_journal.specs.Changes.{Same}
use Rattle.pb_archive.specs.Creation.{HasEntries, KeepsOrEmpties, KeepsOrInits}
use Rattle.pb_archive.proofs.CreationLemmas.{Leaves-trans, Leaves-weaker, empties_file, looked_file, init_file, empties_inits, empties_same, init_leaves, init_made, has_before, plan_short}
use Rattle.pb_archive.proofs.creation.init.Goals as goal

pub returns-in-Err-clause-file : goal.returns-in-Err-clause-file
returns-in-Err-clause-file g c = empties_file c.args.plan.now _ _ c.open_journal.ensures.file

pub returns-in-Ok-true-clause-file : goal.returns-in-Ok-true-clause-file
returns-in-Ok-true-clause-file g c = looked_file c.args.plan.now _ _ _ c.open_journal.ensures.file c.has_entry.ensures.peeks.disk.file

pub returns-in-Err-has_entry-clause-file : goal.returns-in-Err-has_entry-clause-file
returns-in-Err-has_entry-clause-file g c = looked_file c.args.plan.now _ _ _ c.open_journal.ensures.file c.has_entry.ensures.peeks.disk.file

pub returns-in-Err-plan_body-clause-file : goal.returns-in-Err-plan_body-clause-file
returns-in-Err-plan_body-clause-file g c = looked_file c.args.plan.now _ _ _ c.open_journal.ensures.file c.has_entry.ensures.peeks.disk.file

pub returns-in-Ok-append-clause-file : goal.returns-in-Ok-append-clause-file
returns-in-Ok-append-clause-file g c =
    let plan = c.args.plan.now in
    let peeks = c.has_entry.ensures.peeks in
    init_file plan (c.deref.result.now ++ []) c.in-Ok-plan_body.ensures.1 (append-nil c.deref.result.now ∙ c.deref.ensures.value ∙ c.in-Ok-plan_body.ensures.0) _ _ _ _
    c.open_journal.ensures.file peeks.disk.file
    (λ m view. subst (λ has. HasEntries has m) c.in-Ok-false.field-0-test (c.in-Ok-false.ensures.has m (sym peeks.disk.file ∙ view)))
    c.append.ensures.file

pub returns-clause-file : goal.returns-clause-file
returns-clause-file g c =
    let plan = c.args.plan.now in
    let peeks = c.has_entry.ensures.peeks in
    init_file plan (c.deref.result.now ++ []) c.in-Ok-plan_body.ensures.1 (append-nil c.deref.result.now ∙ c.deref.ensures.value ∙ c.in-Ok-plan_body.ensures.0) _ _ _ _
    c.open_journal.ensures.file peeks.disk.file
    (λ m view. subst (λ has. HasEntries has m) c.in-Ok-false.field-0-test (c.in-Ok-false.ensures.has m (sym peeks.disk.file ∙ view)))
    c.append.ensures.file

pub returns-in-Err-clause-leaves : goal.returns-in-Err-clause-leaves
returns-in-Err-clause-leaves g c = Leaves-weaker KeepsOrEmpties (KeepsOrInits c.args.plan.now) _ _ (λ f x image step. empties_inits c.args.plan.now f x step) c.open_journal.ensures.leaves

pub returns-in-Ok-true-clause-leaves : goal.returns-in-Ok-true-clause-leaves
returns-in-Ok-true-clause-leaves g c =
    Leaves-trans KeepsOrEmpties Same (KeepsOrInits c.args.plan.now) _ _ _ (g.met.D.Disk.lawful c.open_journal.new.disk) (empties_inits c.args.plan.now) (empties_same c.args.plan.now) c.open_journal.ensures.leaves c.has_entry.ensures.peeks.run.leaves

pub returns-in-Err-has_entry-clause-leaves : goal.returns-in-Err-has_entry-clause-leaves
returns-in-Err-has_entry-clause-leaves g c =
    Leaves-trans KeepsOrEmpties Same (KeepsOrInits c.args.plan.now) _ _ _ (g.met.D.Disk.lawful c.open_journal.new.disk) (empties_inits c.args.plan.now) (empties_same c.args.plan.now) c.open_journal.ensures.leaves c.has_entry.ensures.peeks.run.leaves

pub returns-in-Err-plan_body-clause-leaves : goal.returns-in-Err-plan_body-clause-leaves
returns-in-Err-plan_body-clause-leaves g c =
    Leaves-trans KeepsOrEmpties Same (KeepsOrInits c.args.plan.now) _ _ _ (g.met.D.Disk.lawful c.open_journal.new.disk) (empties_inits c.args.plan.now) (empties_same c.args.plan.now) c.open_journal.ensures.leaves c.has_entry.ensures.peeks.run.leaves

pub returns-in-Ok-true-clause-refused : goal.returns-in-Ok-true-clause-refused
returns-in-Ok-true-clause-refused g c f view =
    let m = c.in-Ok.ensures.ready.on f view in
    has_before f m.0 m.2 (subst (λ has. HasEntries has m.0) c.in-Ok-true.field-0-test (c.in-Ok-true.ensures.has m.0 m.1))

pub append-requires-clause-few : goal.append-requires-clause-few
append-requires-clause-few g c =
    omega (arith, (plan_short c.args.plan.now c.in-Ok-plan_body.ensures.1).1, ap (λ (l : List ℕ). length l) (c.deref.ensures.value ∙ c.in-Ok-plan_body.ensures.0))

pub returns-in-Ok-append-clause-made : goal.returns-in-Ok-append-clause-made
returns-in-Ok-append-clause-made g c =
    let plan = c.args.plan.now in
    init_made plan (c.deref.result.now ++ []) c.in-Ok-plan_body.ensures.1 (append-nil c.deref.result.now ∙ c.deref.ensures.value ∙ c.in-Ok-plan_body.ensures.0) _ _ _ _
    c.in-Ok.ensures.ready c.has_entry.ensures.peeks.disk.file
    (λ m view. subst (λ has. HasEntries has m) c.in-Ok-false.field-0-test (c.in-Ok-false.ensures.has m (sym c.has_entry.ensures.peeks.disk.file ∙ view)))
    c.in-Ok-append.ensures.added

pub returns-in-Ok-append-clause-leaves : goal.returns-in-Ok-append-clause-leaves
returns-in-Ok-append-clause-leaves g c =
    let plan = c.args.plan.now in
    let peeks = c.has_entry.ensures.peeks in
    init_leaves plan (c.deref.result.now ++ []) c.in-Ok-plan_body.ensures.1 (append-nil c.deref.result.now ∙ c.deref.ensures.value ∙ c.in-Ok-plan_body.ensures.0) _ _ _ _
    (g.met.D.Disk.lawful c.open_journal.new.disk) (g.met.D.Disk.lawful c.has_entry.new.disk) c.open_journal.ensures.leaves peeks.run.leaves c.append.ensures.leaves
    (λ m image. peeks.disk.file ∙ c.in-Ok.ensures.opened.settled m (peeks.disk.fewer m image))
    (λ m view. subst (λ has. HasEntries has m) c.in-Ok-false.field-0-test (c.in-Ok-false.ensures.has m (sym peeks.disk.file ∙ view)))

pub returns-clause-leaves : goal.returns-clause-leaves
returns-clause-leaves g c =
    let plan = c.args.plan.now in
    let peeks = c.has_entry.ensures.peeks in
    init_leaves plan (c.deref.result.now ++ []) c.in-Ok-plan_body.ensures.1 (append-nil c.deref.result.now ∙ c.deref.ensures.value ∙ c.in-Ok-plan_body.ensures.0) _ _ _ _
    (g.met.D.Disk.lawful c.open_journal.new.disk) (g.met.D.Disk.lawful c.has_entry.new.disk) c.open_journal.ensures.leaves peeks.run.leaves c.append.ensures.leaves
    (λ m image. peeks.disk.file ∙ c.in-Ok.ensures.opened.settled m (peeks.disk.fewer m image))
    (λ m view. subst (λ has. HasEntries has m) c.in-Ok-false.field-0-test (c.in-Ok-false.ensures.has m (sym peeks.disk.file ∙ view)))
