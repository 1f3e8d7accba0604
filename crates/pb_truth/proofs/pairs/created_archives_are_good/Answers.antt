use Rattle.std.proofs.lemmas.Option.{none-some}
use Rattle.pb_archive.specs.Entry.{created}
use Rattle.pb_truth.proofs.PairLemmas.{good_of}
use Rattle.pb_truth.proofs.pairs.created_archives_are_good.Goals as goal

pub returns-clause-good : goal.returns-clause-good
returns-clause-good c w image plan has never = record {
  archive = created plan;
  has = has;
  sound = λ id t is. absurd (none-some t is);
  asked = λ r asked own. absurd (never r asked own);
}

pub returns-clause-only : goal.returns-clause-only
returns-clause-only c w image plan r has asked own good =
    let of = good_of c.entries_are_one.ensures c.entries_are_one_archive.ensures w image (created plan) good has in
    let allows = of.1 r asked own in
    none-some allows.table allows.there
