use Rattle.std.proofs.Common.{arith, refl}
use Rattle.pb_archive.specs.Entry as entry
use Rattle.pb_archive.proofs.EntryLemmas.{no_table, first_and}
use Rattle.pb_archive.proofs.entry.read_change.Goals as goal

pub returns-in-Err-clause-wrong : goal.returns-in-Err-clause-wrong
returns-in-Err-clause-wrong c is said spelled bytes = no_table c.args.body.now (λ station number d. c.in-Err.ensures.wrong is station number d) c.in-84.is said spelled bytes

pub returns-in-Ok-clause-read : goal.returns-in-Ok-clause-read
returns-in-Ok-clause-read c =
    let r = c.in-Ok.ensures.read in (
      entry.Added c.in-Ok.station c.in-Ok.number.0 r.0,
      (r.0, r.1, r.2, refl),
      (c.in-Ok.ensures.ranges.0, c.in-Ok.ensures.ranges.1, r.1),
      first_and c.args.body.now 84 _ (omega arith) c.in-84.is r.3,
    )
