use Rattle.std.proofs.Common.{◌≡◌, ◌⊎◌, inl, inr, ◌≤◌, ℕ, List, Result, Ok, length, drop, refl, sym, ◌∙◌, ap, subst, arith, length-drop, rules}
use Rattle.std.proofs.lemmas.Result.{on_ok_weaker}
use Rattle.pb_base.specs.declared.layout.Layout.{Layout}
use Rattle.pb_bmp5.specs.declared.message.Mode.{Mode}
use Rattle.pb_bmp5.specs.CollectReply.{SeenFragment, SeenReply, CollectReads}
use Rattle.pb_archive.specs.Entry.{advance_bytes_max}
use Rattle.pb_collect.specs.Kept.{KeepsWhere, KnowsTrue}
use Rattle.pb_collect.specs.Progress.{CanTakeAll, Suits, after_all, partial_bytes}
use Rattle.pb_collect.specs.Taking.{AreBrief}
use Rattle.pb_collect.proofs.AnswerLemmas.{reply_brief}
use Rattle.pb_collect.proofs.exchanging.take_heard.Goals as goal

same_ok : {E : Type 0} (r : Result SeenReply E) (a b : SeenReply) → r ≡ Ok a → r ≡ Ok b → a ≡ b
same_ok r a b p q = cc

size_small : (n : ℕ) → (n ≡ 4) ⊎ ((8 ≤ n) × (n ≤ 1008)) → n ≤ 1008
size_small n (inl four) = omega (arith, four)
size_small n (inr some) = omega (arith, some.1)

short : (m content message : List ℕ) → message ≡ m → m ≡ drop 8 content → (length content ≡ 4) ⊎ ((8 ≤ length content) × (length content ≤ 1008)) → length message ≤ advance_bytes_max
short m content message is cut size = omega (arith, ap length is, ap length cut, length-drop 8 content, size_small (length content) size)

pub unreachable-requires : goal.unreachable-requires
unreachable-requires g c =
    let a = c.args.command.now in
    let m = c.requires.means in
    c.in_default.not-Ok m.reply (c.read_collect.ensures.only m.reply (subst (λ (l : List ℕ). CollectReads a.table.0 a.layout m.reply l) (sym c.message-message.ensures) m.reads))

pub take_answer-requires-clause-can : goal.take_answer-requires-clause-can
take_answer-requires-clause-can g c =
    let a = c.args.command.now in
    let p = c.args.progress.now in
    let m = c.requires.means in
    let of = c.requires.command in
    let fragments : c.fragments.result ≡ m.reply.fragments =
    c.fragments.ensures ∙ ap (λ (r : SeenReply). r.fragments) (same_ok c.read_collect.result c.in-Ok.reply m.reply c.in-Ok.is (c.read_collect.ensures.only m.reply (subst (λ (l : List ℕ). CollectReads a.table.0 a.layout m.reply l) (sym c.message-message.ensures) m.reads))) in
    subst (λ (l : List SeenFragment). CanTakeAll p l) (sym fragments)
    (c.answers_can_be_taken.ensures.taken p a.table.0 m.reply (drop 8 c.args.listener.now.ear.content) (subst (λ (l : Layout). CollectReads a.table.0 l m.reply (drop 8 c.args.listener.now.ear.content)) of.to.layout m.reads)
    (m.resp ∙ c.requires.served) (subst (λ (k : Mode). Suits k m.reply) of.to.mode m.fits))

pub take_answer-requires-clause-brief : goal.take_answer-requires-clause-brief
take_answer-requires-clause-brief g c =
    let a = c.args.command.now in
    let m = c.requires.means in
    let fragments : c.fragments.result ≡ m.reply.fragments =
    c.fragments.ensures ∙ ap (λ (r : SeenReply). r.fragments) (same_ok c.read_collect.result c.in-Ok.reply m.reply c.in-Ok.is (c.read_collect.ensures.only m.reply (subst (λ (l : List ℕ). CollectReads a.table.0 a.layout m.reply l) (sym c.message-message.ensures) m.reads))) in
    subst (λ (l : List SeenFragment). AreBrief l) (sym fragments)
    (reply_brief a.table.0 a.layout m.reply c.message-message.result.now (subst (λ (l : List ℕ). CollectReads a.table.0 a.layout m.reply l) (sym c.message-message.ensures) m.reads) (m.resp ∙ c.requires.served)
    (search rules) (short (drop 8 c.args.listener.now.ear.content) c.args.listener.now.ear.content c.message-message.result.now c.message-message.ensures refl c.requires.holds.size))

pub returns-clause-took : goal.returns-clause-took
returns-clause-took g c =
    let a = c.args.command.now in
    let m = c.requires.means in
    let fragments : c.fragments.result ≡ m.reply.fragments =
    c.fragments.ensures ∙ ap (λ (r : SeenReply). r.fragments) (same_ok c.read_collect.result c.in-Ok.reply m.reply c.in-Ok.is (c.read_collect.ensures.only m.reply (subst (λ (l : List ℕ). CollectReads a.table.0 a.layout m.reply l) (sym c.message-message.ensures) m.reads))) in
    on_ok_weaker c.take_answer.result (λ taken. record {
      reply = m.reply;
      reads = m.reads;
      fits = m.fits;
      resp = m.resp;
      more = m.more;
      taken = λ served. taken ∙ ap (λ (l : List SeenFragment). after_all c.args.progress.now l) fragments;
      refused = λ not. absurd (not c.requires.served);
    }) c.take_answer.ensures.progress

pub returns-clause-keeps : goal.returns-clause-keeps
returns-clause-keeps g c reply reads =
    let a = c.args.command.now in
    let fragments : c.fragments.result ≡ reply.fragments =
    c.fragments.ensures ∙ ap (λ (r : SeenReply). r.fragments) (same_ok c.read_collect.result c.in-Ok.reply reply c.in-Ok.is (c.read_collect.ensures.only reply (subst (λ (l : List ℕ). CollectReads a.table.0 a.layout reply l) (sym c.message-message.ensures) reads))) in
    let old = g.D.Disk.view c.args.disk.now in
    subst (λ (l : List SeenFragment). KeepsWhere (KnowsTrue old c.args.id.0 (partial_bytes c.args.progress.now) l) old (g.D.Disk.view c.take_answer.new.disk)) fragments c.take_answer.ensures.keeps

pub returns-clause-knows : goal.returns-clause-knows
returns-clause-knows g c =
    let a = c.args.command.now in
    let old = g.D.Disk.view c.args.disk.now in
    on_ok_weaker c.take_answer.result (λ knows reply reads.
    let fragments : c.fragments.result ≡ reply.fragments =
    c.fragments.ensures ∙ ap (λ (r : SeenReply). r.fragments) (same_ok c.read_collect.result c.in-Ok.reply reply c.in-Ok.is (c.read_collect.ensures.only reply (subst (λ (l : List ℕ). CollectReads a.table.0 a.layout reply l) (sym c.message-message.ensures) reads))) in
    λ taught. knows (subst (λ (l : List SeenFragment). KnowsTrue old c.args.id.0 (partial_bytes c.args.progress.now) l) (sym fragments) taught)) c.take_answer.ensures.knows
