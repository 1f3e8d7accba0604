use Rattle.std.proofs.Common.{List, ℕ, ◌∷◌, ◌++◌, subst}
use Rattle.pb_journal.proofs.LawLemmas.{one_list}
use Rattle.pb_archive.specs.Entry.{IsArchive}
use Rattle.pb_archive.proofs.LeadsLemmas.{IsArchive-left}
use Rattle.pb_archive.proofs.laws.refused_files_have_no_archive.Goals as goal

pub returns : goal.returns
returns c file at a breaks has =
    let same = one_list file has.bodies (breaks.before ++ breaks.body ∷ breaks.after) has.entries breaks.entries in
    let left = IsArchive-left a breaks.before breaks.body breaks.after (subst (λ (l : List (List ℕ)). IsArchive l a) same has.archive) in
    breaks.broken left.0 left.1
