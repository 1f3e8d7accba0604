-- One request of a table and its answer together.
use Rattle.std.proofs.Common.{◌≡◌, ◌⊎◌, inl, inr, ⊎_elim, ℕ, zero, suc, ◌+◌, ◌<◌, Bool, true, false, List, [], ◌∷◌, Some, Ok, refl, sym, ◌∙◌, ap, subst, arith}
use Rattle.std.specs.Prelude.{if◌then◌else◌}
use Rattle.pb_base.specs.declared.layout.Layout.{Layout}
use Rattle.pb_base.specs.World.{World}
use Rattle.pb_bmp5.specs.CollectReply.{SeenFragment, whole, part}
use Rattle.pb_io.specs.Disk.{ReadsOnly}
use Rattle.pb_io.specs.View.{View, Link, IsLawful}
use Rattle.pb_archive.specs.Archive.{Archive}
use Rattle.pb_archive.specs.Held.{HasArchive}
use Rattle.pb_archive.specs.Opened.{OpenArchive, IsOpen}
use Rattle.pb_trans.specs.declared.asked.Limits.{Limits}
use Rattle.pb_bmp5.specs.declared.message.Mode.{Mode}
use Rattle.pb_ask.specs.Listening.{Listening}
use Rattle.pb_ask.specs.declared.question.Conclusion.{Conclusion}
use Rattle.pb_ask.specs.declared.question.Conclusion.TheVariants.{Answer, Undelivered, NoAnswer, Flooded}
use Rattle.pb_truth.specs.Honest.{Honest}
use Rattle.pb_truth.specs.Pairs.{AreGood}
use Rattle.pb_collect.specs.Commands.{IsCommandOf}
use Rattle.pb_collect.specs.Ends.{Comes, asked_once_more, has_part}
use Rattle.pb_collect.specs.Exchanges.{TeachesTrue, Took, TookBy, Exchanged}
use Rattle.pb_collect.specs.Heard.{HeardBy}
use Rattle.pb_collect.specs.Kept.{HonestFrom, KeepsWhere, Keeps, KeepsHonest, KnowsTrue}
use Rattle.pb_collect.specs.Progress.{Progress, partial_bytes, question, after, after_all}
use Rattle.pb_collect.specs.Taking.{IsReady}
use Rattle.pb_collect.specs.declared.answer.Said.{Said}
use Rattle.pb_collect.specs.declared.ending.End.{End}
use Rattle.pb_collect.specs.declared.ending.Next.{Next}
use Rattle.pb_collect.specs.declared.ending.Next.TheVariants.{Ask, Stop, Ends}
use Rattle.pb_collect.specs.declared.question.CollectCommand.{CollectCommand}
use Rattle.pb_collect.proofs.AnswerLemmas.{ContentEnds, knows_heard}
use Rattle.pb_collect.proofs.TakingLemmas.{after_layout}
use Rattle.pb_collect.proofs.KeptLemmas.{honest_keeps, honest_where, honest_first, knows_grown}

-- calls of the link leave an archive open
pub open_beside : (o : OpenArchive) (old new : View) → ReadsOnly old new → IsOpen o old → IsOpen o new
open_beside o old new reads opened = record {
  stands = λ f is. opened.stands f (sym reads.file ∙ is);
  settled = λ image is. reads.file ∙ opened.settled image (reads.fewer image is);
}

module _ (o : OpenArchive) (old mid : View) (id : ℕ) (p : Progress) (c : CollectCommand) (l : Listening) (opened : IsOpen o old) (ready : IsReady o id p) (of : IsCommandOf o id p c) (reads : ReadsOnly old mid) (ends : ContentEnds) (keeps : Keeps old mid) where
  honest_mid : HonestFrom old mid → (w : World) (image : List ℕ) (a : Archive) → mid.link.world ≡ Some w → mid.image image → HasArchive image a → Honest w a
  honest_mid honest w image a world is has = honest w image a world (reads.fewer image is) has

  -- what the conclusion teaches is true
  pub teaches : (conclusion : Conclusion Said) → HeardBy c conclusion l mid.link → KnowsTrue old id (partial_bytes p) [] → AreGood old → AreGood mid → HonestFrom old mid → TeachesTrue c l mid id p conclusion
  teaches (Answer said) heard knows good_old good honest = λ served reply reads_now complete fits.
      knows_heard o mid id p (open_beside o old mid reads opened) ready c of ends said l reply good (honest_mid honest)
      (knows_grown old mid id (partial_bytes p) [] keeps.grows reads.fewer knows) heard reads_now complete fits
  teaches (Undelivered code) heard knows good_old good honest = tt
  teaches NoAnswer heard knows good_old good honest = tt
  teaches Flooded heard knows good_old good honest = tt

  pub keeps_exchange : (new : View) (conclusion : Conclusion Said) → IsLawful mid → HeardBy c conclusion l mid.link → KeepsWhere (TeachesTrue c l mid id p conclusion) mid new → KeepsHonest (KnowsTrue old id (partial_bytes p) []) old new
  keeps_exchange new conclusion lawful heard settled =
      let P = KnowsTrue old id (partial_bytes p) [] in
      honest_where P (TeachesTrue c l mid id p conclusion) old mid new lawful (honest_keeps P old mid keeps) (λ knows good_old good honest. teaches conclusion heard knows good_old good honest) settled

  pub knows_exchange : (new : View) (q : Progress) (conclusion : Conclusion Said) → HeardBy c conclusion l mid.link → KeepsWhere (TeachesTrue c l mid id p conclusion) mid new
      → (TeachesTrue c l mid id p conclusion → KnowsTrue mid id (partial_bytes p) [] → KnowsTrue new id (partial_bytes q) [])
      → KnowsTrue old id (partial_bytes p) [] → AreGood old → HonestFrom old new → KnowsTrue new id (partial_bytes q) []
  knows_exchange new q conclusion heard settled later knows good honest =
      let honest_before = honest_first old mid new settled.grows honest in
      let first = keeps.good good honest_before in
      later (teaches conclusion heard knows good first.here honest_before) (knows_grown old mid id (partial_bytes p) [] keeps.grows reads.fewer knows)

-- ---- what an answer and what comes next leave of how far a table came

after_asked : (p : Progress) (f : SeenFragment) → (after p f).asked ≡ p.asked
after_asked p (whole first zero bytes) = refl
after_asked p (whole first (suc n) bytes) = refl
after_asked p (part number offset bytes) = refl

all_asked : (fs : List SeenFragment) (p : Progress) → (after_all p fs).asked ≡ p.asked
all_asked [] p = refl
all_asked (f ∷ fs) p = all_asked fs (after p f) ∙ after_asked p f

all_layout : (fs : List SeenFragment) (p : Progress) → (after_all p fs).layout ≡ p.layout
all_layout [] p = refl
all_layout (f ∷ fs) p = all_layout fs (after p f) ∙ after_layout p f

took_at : (c : CollectCommand) (l : Listening) (said : Said) (p mid : Progress) (n : ℕ) → said.resp ≡ n → Took c l said p mid → (mid.asked ≡ p.asked) × (mid.layout ≡ p.layout)
took_at c l said p mid zero is took =
    let same = took.taken is in
    (ap (λ (x : Progress). x.asked) same ∙ all_asked took.reply.fragments p, ap (λ (x : Progress). x.layout) same ∙ all_layout took.reply.fragments p)
took_at c l said p mid (suc n) is took =
    let same = took.refused (λ none. absurd (omega (arith, is, none))) in
    (ap (λ (x : Progress). x.asked) same, ap (λ (x : Progress). x.layout) same)

pub took_same : (c : CollectCommand) (l : Listening) (conclusion : Conclusion Said) (p mid : Progress) → TookBy c l conclusion p mid → (mid.asked ≡ p.asked) × (mid.layout ≡ p.layout)
took_same c l (Answer said) p mid took = took_at c l said p mid said.resp refl took
took_same c l (Undelivered code) p mid same = (ap (λ (x : Progress). x.asked) same, ap (λ (x : Progress). x.layout) same)
took_same c l NoAnswer p mid same = (ap (λ (x : Progress). x.asked) same, ap (λ (x : Progress). x.layout) same)
took_same c l Flooded p mid same = (ap (λ (x : Progress). x.asked) same, ap (λ (x : Progress). x.layout) same)

-- where a table stays, with its partial record or without
record Stays (p q : Progress) : Type 0 where
  front : q.front ≡ p.front
  layout : q.layout ≡ p.layout
  bytes : (partial_bytes q ≡ partial_bytes p) ⊎ (partial_bytes q ≡ [])

abbrev given_up : Progress → Progress
given_up p = record p { is_partial = false }

stays_next : (b : Bool) (p : Progress) → Stays p (asked_once_more (if b then p else given_up p))
stays_next true p = record { front = refl; layout = refl; bytes = inl refl }
stays_next false p = record { front = refl; layout = refl; bytes = inr refl }

comes_stays : (budget : ℕ) (p : Progress) (o : Conclusion Said) (next : Next) (q : Progress) → Comes budget p o next q → Stays p q
comes_stays budget p o (Ask mode) q comes = subst (λ (x : Progress). Stays p x) (sym comes.4) (stays_next (has_part p) p)
comes_stays budget p o Stop q comes = subst (λ (x : Progress). Stays p x) (sym comes.1) (record { front = refl; layout = refl; bytes = inl refl })
comes_stays budget p o (Ends end) q comes = subst (λ (x : Progress). Stays p x) (sym comes.1) (record { front = refl; layout = refl; bytes = inl refl })

pub comes_layout : (budget : ℕ) (p : Progress) (o : Conclusion Said) (next : Next) (q : Progress) → Comes budget p o next q → q.layout ≡ p.layout
comes_layout budget p o next q comes = (comes_stays budget p o next q comes).layout

pub ready_comes : (archive : OpenArchive) (id budget : ℕ) (p : Progress) (o : Conclusion Said) (next : Next) (q : Progress) → IsReady archive id p → Comes budget p o next q → IsReady archive id q
ready_comes archive id budget p o next q ready comes =
    let stays = comes_stays budget p o next q comes in
    record {
      held = ready.held;
      there = ready.there;
      far = record {
        front = ready.far.front ∙ sym stays.front;
        layout = ready.far.layout ∙ ap (λ (l : Layout). Ok l) (sym stays.layout);
        going_on = ready.far.going_on;
      };
    }

pub knows_closed : (now : View) (id : ℕ) (partial : List ℕ) → KnowsTrue now id partial [] → KnowsTrue now id [] []
knows_closed now id partial knows w image a t world is has at = record { table = (knows w image a t world is has at).table; partial = λ some. absurd (omega (arith, some)) }

pub knows_comes : (now : View) (id budget : ℕ) (p : Progress) (o : Conclusion Said) (next : Next) (q : Progress) → Comes budget p o next q → KnowsTrue now id (partial_bytes p) [] → KnowsTrue now id (partial_bytes q) []
knows_comes now id budget p o next q comes knows =
    ⊎_elim (λ same. subst (λ b. KnowsTrue now id b []) (sym same) knows) (λ none. subst (λ b. KnowsTrue now id b []) (sym none) (knows_closed now id (partial_bytes p) knows))
    (comes_stays budget p o next q comes).bytes

-- ---- one request more

kept_asked : (b : Bool) (p : Progress) → (asked_once_more (if b then p else given_up p)).asked ≡ p.asked + 1
kept_asked true p = refl
kept_asked false p = refl

pub ready_asked : (o : OpenArchive) (id : ℕ) (p q : Progress) → q ≡ asked_once_more p → IsReady o id p → IsReady o id q
ready_asked o id p q is ready = subst (λ (x : Progress). IsReady o id x) (sym is) (record { held = ready.held; there = ready.there; far = record { front = ready.far.front; layout = ready.far.layout; going_on = ready.far.going_on } })

pub closed_bytes : (p q : Progress) → q ≡ asked_once_more p → p.is_partial ≡ false → partial_bytes q ≡ []
closed_bytes p q is closed = ap (λ (x : Progress). partial_bytes x) is ∙ rw closed refl

module _ (c : CollectCommand) (limits : Limits) (l_old : Listening) (k_old : Link) (p : Progress) (next : Next) (l_new : Listening) (k_new : Link) (q : Progress) (e : Exchanged c limits l_old k_old p next l_new k_new q) where
  pub exchanged_layout : q.layout ≡ p.layout
  exchanged_layout = comes_layout limits.budget e.mid e.conclusion next q e.comes ∙ (took_same c l_new e.conclusion p e.mid e.took).1

  pub asks_next : (mode : Mode) → next ≡ Ask mode → (mode ≡ question q) × (q.asked ≡ p.asked + 1) × (p.asked < limits.budget)
  asks_next mode is =
      let comes = subst (λ (n : Next). Comes limits.budget e.mid e.conclusion n q) is e.comes in
      let same = (took_same c l_new e.conclusion p e.mid e.took).0 in
      (comes.5, ap (λ (x : Progress). x.asked) comes.4 ∙ kept_asked (has_part e.mid) e.mid ∙ ap (λ n. n + 1) same, omega (arith, comes.3, same))

  pub ends_same : (end : End) → next ≡ Ends end → q.asked ≡ p.asked
  ends_same end is =
      let comes = subst (λ (n : Next). Comes limits.budget e.mid e.conclusion n q) is e.comes in
      ap (λ (x : Progress). x.asked) comes.1 ∙ (took_same c l_new e.conclusion p e.mid e.took).0
