-- What a crash may leave while frames are sent and bytes are heard.
use Rattle.std.proofs.Common.{◌≡◌, ℕ, List, [], ◌++◌, refl, sym, ap, ◌∙◌, append_assoc}
use Rattle.std.proofs.lemmas.List.{append-nil}
use Rattle.std.proofs.lemmas.Grind.{flat_map-append}
use Rattle.pb_base.specs.World.{World, sent}
use Rattle.pb_io.proofs.Moments.{started, goes_on, LeavesOnly-trans, LeavesOnly-weaker}
use Rattle.pb_io.proofs.WorldLemmas.{sent-grown}
use Rattle.pb_io.specs.Disk.{ReadsOnly}
use Rattle.pb_io.specs.Site.{GrowsBy, SendsAtMost}
use Rattle.pb_io.specs.View.{View, IsLawful, Elapses, LeavesOnly}

pub ReadsOnly-refl : (d : View) → ReadsOnly d d
ReadsOnly-refl d = record { file = refl; fewer = λ c is. is; more = λ c is. is }

pub ReadsOnly-trans : (a b c : View) → ReadsOnly a b → ReadsOnly b c → ReadsOnly a c
ReadsOnly-trans a b c p q = record { file = q.file ∙ p.file; fewer = λ x is. p.fewer x (q.fewer x is); more = λ x is. q.more x (p.more x is) }

sent-append : (a b : World) → sent (a ++ b) ≡ sent a ++ sent b
sent-append a b = flat_map-append _ a b

-- nothing was sent yet
pub sends_none : (frames : List (List ℕ)) (d : View) → IsLawful d → LeavesOnly d d (SendsAtMost frames d)
sends_none frames d lawful =
    started d (SendsAtMost frames d) lawful (λ w c is image. record { image = image; before = w; more = []; known = is; is = sym (append-nil w); rest = frames; prefix = refl })

-- one link call more, after which a prefix was sent
pub sends_on : (frames rest : List (List ℕ)) (old mid new : View) (events : World) → LeavesOnly old mid (SendsAtMost frames old) → Elapses mid new → ReadsOnly old new
    → GrowsBy old.link.world new.link.world events → sent events ++ rest ≡ frames → LeavesOnly old new (SendsAtMost frames old)
sends_on frames rest old mid new events so_far time looks grows prefix =
    goes_on old mid new (SendsAtMost frames old) so_far time (λ w c is image.
    let x = sent-grown _ _ events w grows is in
    record { image = looks.fewer c image; before = x.0; more = x.1; known = x.2; is = x.3; rest = rest; prefix = ap (λ l. l ++ rest) x.4 ∙ prefix })

-- one run of link calls after another
pub sends_then : (frames first second : List (List ℕ)) (old mid new : View) (events : World) → LeavesOnly old mid (SendsAtMost frames old) → ReadsOnly old mid
    → GrowsBy old.link.world mid.link.world events → sent events ≡ first → first ++ second ≡ frames → LeavesOnly mid new (SendsAtMost second mid)
    → LeavesOnly old new (SendsAtMost frames old)
sends_then frames first second old mid new events one looks grows is_first both two =
    LeavesOnly-trans old mid new _ (SendsAtMost second mid) _ one two (λ w c p. p) (λ w c (s : SendsAtMost second mid w c).
    let x = sent-grown _ _ events s.before grows s.known in
    record {
      image = looks.fewer c s.image;
      before = x.0;
      more = x.1 ++ s.more;
      known = x.2;
      is = s.is ∙ ap (λ l. l ++ s.more) x.3 ∙ append_assoc x.0 x.1 s.more;
      rest = s.rest;
      prefix = ap (λ l. l ++ s.rest) (sent-append x.1 s.more) ∙ append_assoc (sent x.1) (sent s.more) s.rest ∙ ap (λ l. sent x.1 ++ l) s.prefix ∙ ap (λ l. l ++ second) (x.4 ∙ is_first) ∙ both;
    })

-- no more than more frames
pub sends_less : (few more : List (List ℕ)) (old new : View) → LeavesOnly old new (SendsAtMost few old) → LeavesOnly old new (SendsAtMost (few ++ more) old)
sends_less few more old new leaves =
    LeavesOnly-weaker old new _ _ leaves (λ w c (s : SendsAtMost few old w c). record {
      image = s.image;
      before = s.before;
      more = s.more;
      known = s.known;
      is = s.is;
      rest = s.rest ++ more;
      prefix = sym (append_assoc (sent s.more) s.rest more) ∙ ap (λ l. l ++ more) s.prefix;
    })
