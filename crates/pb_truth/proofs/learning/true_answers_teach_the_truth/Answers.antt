use Rattle.std.proofs.Common.{sym, subst}
use Rattle.std.specs.List.{Contains}
use Rattle.pb_base.specs.History.{TableKey}
use Rattle.pb_bmp5.specs.CollectReply.{CollectReads}
use Rattle.pb_bmp5.specs.TrueReply.{IsTrueAnswer}
use Rattle.pb_bmp5.proofs.TrueLemmas.{truth-read}
use Rattle.pb_archive.specs.Archive.{record_layout}
use Rattle.pb_truth.proofs.LearningLemmas.{learned_sound}
use Rattle.pb_truth.proofs.learning.true_answers_teach_the_truth.Goals as goal

pub returns : goal.returns
returns c k r m histories reply sound is_true key only below reads complete fits =
    let layout = record_layout k.table.definition in
    let answer = truth-read r m histories layout reply is_true
    (λ d has. only d (subst (λ (x : TableKey). Contains (histories x).definitions d) key has))
    (subst (λ (x : TableKey). CollectReads x.number layout reply m.message) (sym key) reads) complete in
    learned_sound k (histories k.table.key) r.mode reply m.message sound
    (subst (λ (x : TableKey). IsTrueAnswer layout r.mode (histories x) reply) key answer) reads complete below fits
