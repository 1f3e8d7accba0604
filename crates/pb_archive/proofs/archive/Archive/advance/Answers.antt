use Rattle.std.proofs.Common.{◌∙◌, subst, sym, ap, length, arith, List, ℕ}
use Rattle.pb_archive.specs.Entry.{Advanced}
use Rattle.pb_archive.specs.Inside as inside
use Rattle.pb_archive.specs.Opened.{Register, OpenArchive, GoesOn, register_of, register_after, advance_of}
use Rattle.pb_archive.proofs.CallLemmas.{advance_entry, made_by}
use Rattle.pb_archive.proofs.archive.Archive.advance.Goals as goal

pub write-requires-clause-few : goal.write-requires-clause-few
write-requires-clause-few g c =
    let going = subst (λ (r : Register). GoesOn r c.args.id.0) (ap register_of c.self.view_is) c.in-None.ensures in
    omega (arith, ap (λ (l : List ℕ). length l) c.advance_head.ensures.head, (c.requires.follows going.0 going.1.there).few)

pub advance-requires : goal.advance-requires
advance-requires g c =
    let going = subst (λ (r : Register). GoesOn r c.args.id.0) (ap register_of c.self.view_is) c.in-None.ensures in
    let same = ap register_of c.self-2.view_is ∙ c.write.ensures.same in
    record { there = (going.0, subst (λ (r : Register). inside.IsGoingOnHere r c.args.id.0 going.0) (sym same) going.1, c.requires.follows going.0 going.1.there) }

pub returns-in-Ok-clause-writes : goal.returns-in-Ok-clause-writes
returns-in-Ok-clause-writes g c =
    let a = advance_of c.args.form c.args.first.0 c.args.count c.args.bytes.now in
    c.write.ensures.writes (Advanced c.args.id.0 a)
    (advance_entry _ c.args.id.0 a c.advance_head.result (subst (λ (r : Register). GoesOn r c.args.id.0) (ap register_of c.self.view_is) c.in-None.ensures) c.requires.follows c.advance_head.ensures.ranges c.advance_head.ensures.head)

pub returns-in-Err-clause-writes : goal.returns-in-Err-clause-writes
returns-in-Err-clause-writes g c =
    let a = advance_of c.args.form c.args.first.0 c.args.count c.args.bytes.now in
    c.write.ensures.writes (Advanced c.args.id.0 a)
    (advance_entry _ c.args.id.0 a c.advance_head.result (subst (λ (r : Register). GoesOn r c.args.id.0) (ap register_of c.self.view_is) c.in-None.ensures) c.requires.follows c.advance_head.ensures.ranges c.advance_head.ensures.head)

pub returns-in-Ok-clause-wrote : goal.returns-in-Ok-clause-wrote
returns-in-Ok-clause-wrote g c =
    let a = advance_of c.args.form c.args.first.0 c.args.count c.args.bytes.now in
    (c.in-Ok.ensures.wrote (Advanced c.args.id.0 a)
    (advance_entry _ c.args.id.0 a c.advance_head.result (subst (λ (r : Register). GoesOn r c.args.id.0) (ap register_of c.self.view_is) c.in-None.ensures) c.requires.follows c.advance_head.ensures.ranges c.advance_head.ensures.head)).wrote

pub returns-in-Ok-clause-made : goal.returns-in-Ok-clause-made
returns-in-Ok-clause-made g c =
    let a = advance_of c.args.form c.args.first.0 c.args.count c.args.bytes.now in
    let change = Advanced c.args.id.0 a in
    let written = c.in-Ok.ensures.wrote change
    (advance_entry _ c.args.id.0 a c.advance_head.result (subst (λ (r : Register). GoesOn r c.args.id.0) (ap register_of c.self.view_is) c.in-None.ensures) c.requires.follows c.advance_head.ensures.ranges c.advance_head.ensures.head) in
    made_by _ _ _ _ change c.write.new.self.journal.gate written
    (c.advance.ensures ∙ ap (λ (r : Register). register_after r change) (ap register_of c.self-2.view_is ∙ c.write.ensures.same))
    (ap (λ (o : OpenArchive). o.journal.gate) c.self-2.view_is)
    (ap (λ (o : OpenArchive). o.journal.must_reopen) c.self-2.view_is ∙ c.in-Ok.ensures.must_reopen)
