use Rattle.std.proofs.Common.{◌+◌, ◌++◌, take, arith, sym, ap, ◌∙◌}
use Rattle.std.proofs.lemmas.List.{length-take-le}
use Rattle.pb_frame.specs.Hearing.{Hearing, hearing}
use Rattle.pb_frame.proofs.TurnLemmas.{Follows-run, Follows-skipped, run_of_none, skip_of_none}
use Rattle.pb_frame.proofs.unframer.Unframer.take_plain.Goals as goal

pub returns-in-Plain-clause-none : goal.returns-in-Plain-clause-none
returns-in-Plain-clause-none c none = c.take_body.ensures.after ∙ run_of_none _ _ _ _ _ c.self.view_is c.take_body.result c.args.bytes.now none

pub returns-in-Skipping-clause-none : goal.returns-in-Skipping-clause-none
returns-in-Skipping-clause-none c none = c.skip.ensures.after ∙ skip_of_none _ _ _ _ _ c.self.view_is c.skip.result none

pub returns-in-Plain-clause-follows : goal.returns-in-Plain-clause-follows
returns-in-Plain-clause-follows c =
    let h = c.args.self.now in
    let long = length-take-le c.take_body.result c.args.bytes.now c.take_body.ensures.front in
    Follows-run _ _ _ (ap (λ (h : Hearing). h.state) (sym c.self.view_is) ∙ c.in-Plain.is) c.take_body.ensures.plain
    (omega (arith, c.take_body.ensures.room))
    (c.take_body.ensures.after ∙ ap (λ n. hearing h.state (h.count + n) h.piece (h.body ++ take c.take_body.result c.args.bytes.now)) (sym long))

pub returns-in-Skipping-clause-follows : goal.returns-in-Skipping-clause-follows
returns-in-Skipping-clause-follows c =
    let h = c.args.self.now in
    let long = length-take-le c.skip.result c.args.bytes.now c.skip.ensures.front in
    Follows-skipped _ _ _ (ap (λ (h : Hearing). h.state) (sym c.self.view_is) ∙ c.in-Skipping.is) c.skip.ensures.no_flag
    (c.skip.ensures.after ∙ ap (λ n. hearing h.state (h.count + n) h.piece h.body) (sym long))
