use Rattle.std.proofs.Common.{◌∙◌, ◌≡◌, length, arith, subst}
use Rattle.std.specs.Prelude.{IfSome}
use Rattle.pb_journal.proofs.HeaderLemmas.{BeginsWith, header_refuses, header_read}
use Rattle.pb_journal.proofs.WindowLemmas.{shown_bytes}
use Rattle.pb_journal.proofs.opening.created_len.Goals as goal

pub returns-in-Some-clause-refused : goal.returns-in-Some-clause-refused
returns-in-Some-clause-refused g c =
    header_refuses _ c.bytes.result.now c.in_ok-len.len c.in-Some.fault
    (λ f view.
    let filled = c.in_ok-fill.ensures in
    record {
      size = subst (λ o. IfSome o (λ x. c.in_ok-len.len ≡ length x)) view c.in_ok-len.ensures.value;
      long = omega arith;
      bytes = c.bytes.ensures.value ∙ shown_bytes c.fill.new.self 0 9 f filled.covers (filled.shows f (c.len.ensures.disk.file ∙ view) (c.requires.shows f view));
    })
    c.in-Some.ensures.refused

pub returns-clause-header : goal.returns-clause-header
returns-clause-header g c f view =
    let filled = c.in_ok-fill.ensures in
    let begins : BeginsWith c.bytes.result.now c.in_ok-len.len f = record {
      size = subst (λ o. IfSome o (λ x. c.in_ok-len.len ≡ length x)) view c.in_ok-len.ensures.value;
      long = omega arith;
      bytes = c.bytes.ensures.value ∙ shown_bytes c.fill.new.self 0 9 f filled.covers (filled.shows f (c.len.ensures.disk.file ∙ view) (c.requires.shows f view));
    } in
    header_read c.bytes.result.now c.in_ok-len.len f begins (c.header_fault.ensures.same c.in_default.is)
