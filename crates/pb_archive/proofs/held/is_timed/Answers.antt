use Rattle.std.proofs.Common.{arith, ◌∙◌}
use Rattle.pb_archive.proofs.held.is_timed.Goals as goal

pub returns : goal.returns
returns c = (
  λ is. record {
    form = c.requires.form;
    interval = c.if-layout.false;
    some = omega arith;
    run = record {
      len = c.if-advance-run_len.false ∙ c.run_len.ensures;
      numbers = c.requires.numbers;
      times = λ event. c.has_times.ensures.0 is;
    };
  },
  λ timed. c.has_times.ensures.1 (timed.run.times timed.interval),
)
