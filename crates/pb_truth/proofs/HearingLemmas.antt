-- What is heard in an honest world.
use Rattle.std.proofs.Common.{◌≡◌, ◌⊎◌, inl, inr, ⊎_elim, ℕ, List, [], ◌∷◌, ◌++◌, length, Some, refl, sym, ◌∙◌, ap, subst, arith, append_assoc, length-append}
use Rattle.std.specs.Prelude.{slice_get}
use Rattle.std.specs.List.{Contains}
use Rattle.pb_base.specs.World.{Event, Begin, Sent, Heard, Quiet, Defined, Stored, Oldest, World, heard_from, heard}
use Rattle.pb_base.specs.History.{TableKey, history}
use Rattle.pb_base.specs.Request.{Request}
use Rattle.pb_io.proofs.WorldLemmas.{history-later}
use Rattle.pb_frame.specs.Framing.{flag}
use Rattle.pb_bmp5.specs.CollectReply.{SeenReply, CollectReads}
use Rattle.pb_bmp5.specs.TrueReply.{Delivered, TrueReply, IsTrueAnswer}
use Rattle.pb_bmp5.proofs.TrueLemmas.{reply-stays, truth-read, one-table}
use Rattle.pb_archive.specs.Archive.{Table, Archive, front, record_layout}
use Rattle.pb_truth.specs.Asked.{HasContent, WasAsked, AsksFromAtMost, Allows, IsOwn, HasOneEach, AskedBelow}
use Rattle.pb_truth.specs.Honest.{EndsGoodPiece, IsCollectReply, IsAnswer, WasHeard, RepliesFor, Honest}
use Rattle.pb_truth.specs.Learning.{Known, SoundKnown, FitsKnown, learned}
use Rattle.pb_truth.proofs.AskedLemmas.{asked_before}
use Rattle.pb_truth.proofs.LearningLemmas.{learned_sound}
use Rattle.pb_truth.proofs.StreamLemmas.{ends_later}

-- ---- the moment at which a byte was heard

heads : {A : Type 0} {x y : A} {xs ys : List A} → x ∷ xs ≡ y ∷ ys → x ≡ y
heads e = cc e

tails : {A : Type 0} {x y : A} {xs ys : List A} → x ∷ xs ≡ y ∷ ys → xs ≡ ys
tails e = cc e

-- a byte in a list with one more at its end is that one, or is before it
push_split : (had xs zs : List ℕ) (c b : ℕ) → had ++ c ∷ [] ≡ xs ++ b ∷ zs → ((had ≡ xs) × (c ≡ b)) ⊎ ((ys : List ℕ) × (had ≡ xs ++ b ∷ ys))
push_split [] [] zs c b same = inl (refl, heads same)
push_split [] (x ∷ xs) zs c b same = absurd (omega (arith, ap length (tails same), length-append xs (b ∷ zs)))
push_split (a ∷ had) [] zs c b same = inr (had, ap (λ x. x ∷ had) (heads same))
push_split (a ∷ had) (x ∷ xs) zs c b same =
    ⊎_elim (λ e. inl (ap (λ l. l ∷ had) (heads same) ∙ ap (λ l. x ∷ l) e.0, e.1)) (λ e. inr (e.0, ap (λ l. l ∷ had) (heads same) ∙ ap (λ l. x ∷ l) e.1)) (push_split had xs zs c b (tails same))

-- the byte was among those that were heard before these events, or is heard by one of them
abbrev Moment : World → List ℕ → List ℕ → ℕ → Type 0
Moment w had xs b = ((zs : List ℕ) × (had ≡ xs ++ b ∷ zs)) ⊎ ((v more : World) × (w ≡ v ++ Heard b ∷ more) × (heard_from had v ≡ xs))

further : (e : Event) (w : World) (had now xs : List ℕ) (b : ℕ) → ((v : World) → heard_from had (e ∷ v) ≡ heard_from now v)
    → ((v more : World) × (w ≡ v ++ Heard b ∷ more) × (heard_from now v ≡ xs)) → Moment (e ∷ w) had xs b
further e w had now xs b same (v, more, split, is) = inr (e ∷ v, more, ap (λ l. e ∷ l) split, same v ∙ is)

moment_of : (w : World) (had xs ys : List ℕ) (b : ℕ) → heard_from had w ≡ xs ++ b ∷ ys → Moment w had xs b
moment_of [] had xs ys b is = inl (ys, is)
moment_of (Begin ∷ w) had xs ys b is =
    ⊎_elim (λ old. absurd (omega (arith, ap length old.1, length-append xs (b ∷ old.0)))) (λ new. further Begin w had [] xs b (λ v. refl) new) (moment_of w [] xs ys b is)
moment_of (Sent frame ∷ w) had xs ys b is = ⊎_elim (λ old. inl old) (λ new. further (Sent frame) w had had xs b (λ v. refl) new) (moment_of w had xs ys b is)
moment_of (Heard c ∷ w) had xs ys b is =
    ⊎_elim (λ old. ⊎_elim (λ here. inr ([], w, ap (λ x. Heard x ∷ w) here.1, here.0)) (λ before. inl before) (push_split had xs old.0 c b old.1))
    (λ new. further (Heard c) w had (had ++ c ∷ []) xs b (λ v. refl) new) (moment_of w (had ++ c ∷ []) xs ys b is)
moment_of (Quiet ∷ w) had xs ys b is = ⊎_elim (λ old. inl old) (λ new. further Quiet w had had xs b (λ v. refl) new) (moment_of w had xs ys b is)
moment_of (Defined station number d ∷ w) had xs ys b is = ⊎_elim (λ old. inl old) (λ new. further (Defined station number d) w had had xs b (λ v. refl) new) (moment_of w had xs ys b is)
moment_of (Stored station number r ∷ w) had xs ys b is = ⊎_elim (λ old. inl old) (λ new. further (Stored station number r) w had had xs b (λ v. refl) new) (moment_of w had xs ys b is)
moment_of (Oldest station number n ∷ w) had xs ys b is = ⊎_elim (λ old. inl old) (λ new. further (Oldest station number n) w had had xs b (λ v. refl) new) (moment_of w had xs ys b is)

abbrev HeardAt : World → List ℕ → ℕ → Type 0
HeardAt w xs b = (v more : World) × (w ≡ v ++ Heard b ∷ more) × (heard v ≡ xs)

heard_at : (w : World) (xs ys : List ℕ) (b : ℕ) → heard w ≡ xs ++ b ∷ ys → HeardAt w xs b
heard_at w xs ys b is =
    ⊎_elim (λ old. absurd (omega (arith, ap length old.1, length-append xs (b ∷ old.0)))) (λ new. new) (moment_of w [] xs ys b is)

-- ---- answers

-- the bytes of a stream around a good piece's last byte
around : (earlier judged waiting prefix rest : List ℕ) (before text : List ℕ) → judged ≡ prefix ++ rest → prefix ≡ before ++ flag ∷ (text ++ flag ∷ [])
    → (earlier ++ judged) ++ waiting ≡ (earlier ++ (before ++ flag ∷ text)) ++ flag ∷ (rest ++ waiting)
around earlier judged waiting prefix rest before text split is =
    ap (λ l. (earlier ++ l) ++ waiting) (split ∙ ap (λ l. l ++ rest) is) ∙ together earlier before text rest waiting
  where
    together : (earlier before text rest waiting : List ℕ)
        → (earlier ++ ((before ++ flag ∷ (text ++ flag ∷ [])) ++ rest)) ++ waiting ≡ (earlier ++ (before ++ flag ∷ text)) ++ flag ∷ (rest ++ waiting)
    together earlier before text rest waiting = simp append_assoc refl

-- what EndsGoodPiece says of the bytes before the last one
abbrev but_last : List ℕ → List ℕ → List ℕ
but_last before text = before ++ flag ∷ text

ends_at : (earlier prefix content : List ℕ) (ends : EndsGoodPiece prefix content) → EndsGoodPiece ((earlier ++ (ends.before ++ flag ∷ ends.text)) ++ flag ∷ []) content
ends_at earlier prefix content ends =
    subst (λ l. EndsGoodPiece l content)
    (ap (λ l. earlier ++ l) (ends.is ∙ sym (append_assoc ends.before (flag ∷ ends.text) (flag ∷ []))) ∙ sym (append_assoc earlier (ends.before ++ flag ∷ ends.text) (flag ∷ [])))
    (ends_later earlier prefix content ends)

abbrev ContentEnds : Type 0
ContentEnds = (stream content : List ℕ) → HasContent stream content → (prefix rest : List ℕ) × (stream ≡ prefix ++ rest) × EndsGoodPiece prefix content

-- a collect reply that was heard is an answer, at its moment
pub heard_answer : ContentEnds → (w : World) (a : Archive) (m : Delivered) → Honest w a → WasHeard w m → IsCollectReply m → IsOwn a m.dst
    → (v more : World) × (w ≡ v ++ more) × IsAnswer v m
heard_answer content_ends w a m honest h is own =
    let c = content_ends h.judged h.content h.has in
    let e = c.3 in
    let at = heard_at w (h.earlier ++ (e.before ++ flag ∷ e.text)) (c.1 ++ h.waiting) flag (h.stream ∙ around h.earlier h.judged h.waiting c.0 c.1 e.before e.text c.2 e.is) in
    let ends = subst (λ l. EndsGoodPiece (l ++ flag ∷ []) h.content) (sym at.3) (ends_at h.earlier c.0 h.content e) in
    (at.0 ++ Heard flag ∷ [], at.1, at.2 ∙ sym (append_assoc at.0 (Heard flag ∷ []) at.1), honest.answers at.0 at.1 flag m at.2 (h.content, ends, h.delivers) is own)

-- ---- what is learned

is_reply : (t : Table) (m : Delivered) (reply : SeenReply) → RepliesFor t m reply → IsCollectReply m
is_reply t m reply r = record { proto = r.proto; tran = reply.tran; resp = reply.resp; body = r.reads.body; message = r.reads.parts }

nothing_learned : (k : Known) (reply : SeenReply) (h : _) → reply.fragments ≡ [] → SoundKnown k h → SoundKnown (learned (record_layout k.table.definition) k reply.fragments) h
nothing_learned k reply h none sound = subst (λ fs. SoundKnown (learned (record_layout k.table.definition) k fs) h) (sym none) sound

-- an answer to the table's own request
own_answer : (w : World) (a : Archive) (id : ℕ) (k : Known) (m : Delivered) (reply : SeenReply) (r : Request) → Honest w a → slice_get a.tables id ≡ Some k.table
    → SoundKnown k (history w k.table.key) → RepliesFor k.table m reply → FitsKnown k reply.fragments → TrueReply r m (history w)
    → r.table ≡ k.table.key → AsksFromAtMost (front k.table) r.mode → SoundKnown (learned (record_layout k.table.definition) k reply.fragments) (history w k.table.key)
own_answer w a id k m reply r honest there sound replies fits is_true key below =
    let layout = record_layout k.table.definition in
    let answer = truth-read r m (history w) layout reply is_true
    (λ d has. ap (λ x. x.layout) (honest.defined id k.table d there (subst (λ (x : TableKey). Contains (history w x).definitions d) key has)))
    (subst (λ (x : TableKey). CollectReads x.number layout reply m.message) (sym key) replies.reads) replies.complete in
    learned_sound k (history w k.table.key) r.mode reply m.message sound
    (subst (λ (x : TableKey). IsTrueAnswer layout r.mode (history w x) reply) key answer) replies.reads replies.complete below fits

pub heard_sound : ContentEnds → (w : World) (a : Archive) (id : ℕ) (k : Known) (m : Delivered) (reply : SeenReply) → Honest w a → AskedBelow w a → HasOneEach a
    → slice_get a.tables id ≡ Some k.table → SoundKnown k (history w k.table.key) → WasHeard w m → RepliesFor k.table m reply → FitsKnown k reply.fragments
    → SoundKnown (learned (record_layout k.table.definition) k reply.fragments) (history w k.table.key)
heard_sound content_ends w a id k m reply honest asked each there sound h replies fits =
    let own = each.own id k.table there in
    let answer = heard_answer content_ends w a m honest h (is_reply k.table m reply replies) (replies.dst ∙ own) in
    let v = answer.0 in
    let more = answer.1 in
    let r = answer.3.request in
    let is_true = subst (λ x. TrueReply r m (history x)) (sym answer.2) (reply-stays r m (history v) (history (v ++ more)) answer.3.reply (history-later v more)) in
    let allows = asked r (subst (λ x. WasAsked x r) (sym answer.2) (asked_before v more r answer.3.asked)) (sym is_true.dst ∙ replies.dst ∙ own) in
    go r is_true allows
  where
    same_resp : (r : Request) (t : TrueReply r m (history w)) → t.resp ≡ 0
    same_resp r t =
        let e : 0x89 ∷ r.tran ∷ t.resp ∷ t.body ≡ 0x89 ∷ reply.tran ∷ reply.resp ∷ replies.reads.body = sym t.parts ∙ replies.reads.parts in
        let same : t.resp ≡ reply.resp = cc in
        same ∙ replies.complete

    go : (r : Request) → TrueReply r m (history w) → Allows a r → SoundKnown (learned (record_layout k.table.definition) k reply.fragments) (history w k.table.key)
    go r is_true allows =
        let says = is_true.says (same_resp r is_true) in
        ⊎_elim (λ none. nothing_learned k reply (history w k.table.key) none.1 sound)
        (λ number.
        let one : allows.table ≡ k.table = each.one allows.id id allows.table k.table allows.there there (sym allows.me ∙ sym is_true.dst ∙ replies.dst)
        (ap (λ x. x.station) (sym allows.key) ∙ sym is_true.src ∙ replies.src) (ap (λ x. x.number) (sym allows.key) ∙ number) in
        own_answer w a id k m reply r honest there sound replies fits is_true (allows.key ∙ ap (λ x. x.key) one) (subst (λ x. AsksFromAtMost (front x) r.mode) one allows.below))
        (one-table r.table.number k.table.key.number says.definition.layout (record_layout k.table.definition) says.reply reply m.message says.reads replies.reads)
