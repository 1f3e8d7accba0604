use Rattle.std.proofs.Common.{◌≡◌, ◌+◌, ◌++◌, ◌≤◌, take, length, arith, sym, ap, ◌∙◌}
use Rattle.std.proofs.lemmas.List.{length-take-le}
use Rattle.pb_frame.specs.declared.state.State.TheVariants.{Plain, Whole}
use Rattle.pb_frame.specs.Signature.{start, sig}
use Rattle.pb_frame.specs.Hearing.{Hearing, hearing}
use Rattle.pb_frame.proofs.SignatureLemmas.{sig-append}
use Rattle.pb_frame.proofs.RunLemmas.{take-written}
use Rattle.pb_frame.proofs.unframer.Unframer.take_body.Goals as goal

pub invariant_of-self : goal.invariant_of-self
invariant_of-self c =
    let u = c.self.inside in
    let n = c.copy_plain-n.result in
    let state = ap (λ (h : Hearing). h.state) c.self.view_is ∙ c.requires.state in
    let long = length-take-le u.length u.body (omega (arith, c.self.told)) in
    let fits : n ≤ length c.copy_plain-n.new.room = omega (arith, c.copy_plain-n.auto.room) in
    record {
      room = omega (arith, c.copy_plain-n.ensures.room);
      signed =
          c.copy_plain-n.ensures.signed
          ∙ ap (λ s. sig (take n c.args.bytes.now) s) c.self.invariant.signed
          ∙ sym (sig-append (take u.length u.body) (take n c.args.bytes.now) start)
          ∙ sym (ap (λ t. sig t start) (take-written (take u.length u.body) c.copy_plain-n.new.room _ u.length n long fits ∙ ap (λ t. take u.length u.body ++ t) c.copy_plain-n.ensures.copied));
      size = λ whole _. let none : Plain ≡ Whole = sym state ∙ whole in cc;
      some = λ whole. let none : Plain ≡ Whole = sym state ∙ whole in cc;
    }

pub returns-clause-after : goal.returns-clause-after
returns-clause-after c =
    let u = c.self.inside in
    let n = c.copy_plain-n.result in
    let long = length-take-le u.length u.body (omega (arith, c.self.told)) in
    let fits : n ≤ length c.copy_plain-n.new.room = omega (arith, c.copy_plain-n.auto.room) in
    ap (λ b. hearing u.state (u.count + n) u.piece b) (take-written (take u.length u.body) c.copy_plain-n.new.room _ u.length n long fits ∙ ap (λ t. take u.length u.body ++ t) c.copy_plain-n.ensures.copied)
    ∙ ap (λ (h : Hearing). hearing h.state (h.count + n) h.piece (h.body ++ take n c.args.bytes.now)) c.self.view_is
