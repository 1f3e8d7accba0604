-- What a crash may leave while a request is asked.
use Rattle.std.proofs.Common.{◌≡◌, ◌⊎◌, inl, inr, ℕ, ◌+◌, ◌<◌, ◌≤◌, List, [], ◌∷◌, ◌++◌, refl, sym, ap, subst, ◌∙◌, append_assoc, append-nil, length-append, arith}
use Rattle.std.proofs.lemmas.List.Elements.{All-append, All-cons, All-nil}
use Rattle.pb_base.specs.World.{World, Sent, sent}
use Rattle.pb_io.specs.ChangeLog.{arrival}
use Rattle.pb_io.specs.Disk.{ReadsOnly}
use Rattle.pb_io.specs.Site.{GrowsBy}
use Rattle.pb_io.specs.View.{View, IsLawful, Elapses}
use Rattle.pb_io.proofs.Moments.{Now, started, goes_on, LeavesOnly-trans, LeavesOnly-weaker}
use Rattle.pb_io.proofs.SendLemmas.{ReadsOnly-refl, ReadsOnly-trans}
use Rattle.pb_io.proofs.WorldLemmas.{GrowsBy-nil, GrowsBy-trans, sent-grown}
use Rattle.pb_ask.specs.Events.{Repeats, Resending, Passes}
use Rattle.pb_ask.proofs.EventLemmas.{sent-append, HearsOnly-sent, HearsOnly-arrival}

-- ---- frames

pub Repeats-none : (frame : List ℕ) → Repeats frame 0 []
Repeats-none frame = record { each = All-nil (λ (f : List ℕ). f ≡ frame); few = omega arith }

Repeats-one : (frame : List ℕ) → Repeats frame 1 (frame ∷ [])
Repeats-one frame = record { each = All-cons (λ (f : List ℕ). f ≡ frame) frame [] refl (All-nil (λ (f : List ℕ). f ≡ frame)); few = omega arith }

pub Repeats-append : (frame : List ℕ) (m n : ℕ) (a b : List (List ℕ)) → Repeats frame m a → Repeats frame n b → Repeats frame (m + n) (a ++ b)
Repeats-append frame m n a b p q = record { each = All-append (λ (f : List ℕ). f ≡ frame) a b p.each q.each; few = omega (arith, p.few, q.few, length-append a b) }

pub Repeats-less : (frame : List ℕ) (m n : ℕ) (a : List (List ℕ)) → m ≤ n → Repeats frame m a → Repeats frame n a
Repeats-less frame m n a le p = record { each = p.each; few = omega (arith, le, p.few) }

-- ---- what is sent

resending_now : (frame : List ℕ) (old : View) → Now old (Resending frame 0 old)
resending_now frame old w c is image = record { image = image; before = w; more = []; known = is; is = sym (append-nil w); frames = Repeats-none frame }

resending_then : (frame : List ℕ) (n : ℕ) (old new : View) (events : World) → ReadsOnly old new → GrowsBy old.link.world new.link.world events → Repeats frame n (sent events) → Now new (Resending frame n old)
resending_then frame n old new events reads grows frames w c is image =
    let x = sent-grown _ _ events w grows is in
    record { image = reads.fewer c image; before = x.0; more = x.1; known = x.2; is = x.3; frames = subst (Repeats frame n) (sym x.4) frames }

more_often : (frame : List ℕ) (m n : ℕ) (old : View) → m ≤ n → (w : World) (c : List ℕ) → Resending frame m old w c → Resending frame n old w c
more_often frame m n old le w c r = record { image = r.image; before = r.before; more = r.more; known = r.known; is = r.is; frames = Repeats-less frame m n (sent r.more) le r.frames }

-- nothing was done
pub Passes-refl : (frame : List ℕ) (old : View) → IsLawful old → Passes frame 0 old old
Passes-refl frame old lawful = record {
  reads = ReadsOnly-refl old;
  disk_faults = refl;
  leaves = started old (Resending frame 0 old) lawful (resending_now frame old);
  link_faults = omega arith;
  events = [];
  grows = GrowsBy-nil old.link.world;
  frames = Repeats-none frame;
}

pub Passes-less : (frame : List ℕ) (m n : ℕ) (old new : View) → m ≤ n → Passes frame m old new → Passes frame n old new
Passes-less frame m n old new le p = record {
  reads = p.reads;
  disk_faults = p.disk_faults;
  leaves = LeavesOnly-weaker old new (Resending frame m old) (Resending frame n old) p.leaves (more_often frame m n old le);
  link_faults = p.link_faults;
  events = p.events;
  grows = p.grows;
  frames = Repeats-less frame m n (sent p.events) le p.frames;
}

-- one call
pub Passes-call : (frame : List ℕ) (n : ℕ) (old new : View) (events : World) → IsLawful old → ReadsOnly old new → new.faults ≡ old.faults → Elapses old new → old.link.faults ≤ new.link.faults
    → GrowsBy old.link.world new.link.world events → Repeats frame n (sent events) → Passes frame n old new
Passes-call frame n old new events lawful reads faults time later grows frames = record {
  reads = reads;
  disk_faults = faults;
  leaves = goes_on old old new (Resending frame n old)
      (LeavesOnly-weaker old old (Resending frame 0 old) (Resending frame n old) (started old (Resending frame 0 old) lawful (resending_now frame old)) (more_often frame 0 n old (omega arith)))
      time (resending_then frame n old new events reads grows frames);
  link_faults = later;
  events = events;
  grows = grows;
  frames = frames;
}

again : (frame : List ℕ) (m n : ℕ) (old mid : View) → Passes frame m old mid → (w : World) (c : List ℕ) → Resending frame n mid w c → Resending frame (m + n) old w c
again frame m n old mid p w c r =
    let x = sent-grown _ _ p.events r.before p.grows r.known in
    record {
      image = p.reads.fewer c r.image;
      before = x.0;
      more = x.1 ++ r.more;
      known = x.2;
      is = r.is ∙ ap (λ l. l ++ r.more) x.3 ∙ append_assoc x.0 x.1 r.more;
      frames = subst (Repeats frame (m + n)) (sym (sent-append x.1 r.more)) (Repeats-append frame m n (sent x.1) (sent r.more) (subst (Repeats frame m) (sym x.4) p.frames) r.frames);
    }

pub Passes-trans : (frame : List ℕ) (m n : ℕ) (old mid new : View) → Passes frame m old mid → Passes frame n mid new → Passes frame (m + n) old new
Passes-trans frame m n old mid new p q = record {
  reads = ReadsOnly-trans old mid new p.reads q.reads;
  disk_faults = q.disk_faults ∙ p.disk_faults;
  leaves = LeavesOnly-trans old mid new (Resending frame m old) (Resending frame n mid) (Resending frame (m + n) old) p.leaves q.leaves (more_often frame m (m + n) old (omega arith)) (again frame m n old mid p);
  link_faults = omega (arith, p.link_faults, q.link_faults);
  events = p.events ++ q.events;
  grows = GrowsBy-trans _ _ _ p.events q.events p.grows q.grows;
  frames = subst (Repeats frame (m + n)) (sym (sent-append p.events q.events)) (Repeats-append frame m n (sent p.events) (sent q.events) p.frames q.frames);
}

none_frames : (frame : List ℕ) (events : World) → sent events ≡ [] → Repeats frame 0 (sent events)
none_frames frame events none = subst (Repeats frame 0) (sym none) (Repeats-none frame)

-- something came, or a call failed
pub Passes-heard : (frame : List ℕ) (old mid new : View) (bytes : List ℕ) → Passes frame 0 old mid → IsLawful mid → ReadsOnly mid new → new.faults ≡ mid.faults → Elapses mid new → mid.link.faults ≤ new.link.faults
    → GrowsBy mid.link.world new.link.world (arrival bytes) → Passes frame 0 old new
Passes-heard frame old mid new bytes p lawful reads faults time later grows =
    Passes-trans frame 0 0 old mid new p (Passes-call frame 0 mid new (arrival bytes) lawful reads faults time later grows (none_frames frame (arrival bytes) (HearsOnly-sent (arrival bytes) (HearsOnly-arrival bytes))))

pub Passes-nothing : (frame : List ℕ) (n : ℕ) (old new : View) → IsLawful old → ReadsOnly old new → new.faults ≡ old.faults → Elapses old new → old.link.faults ≤ new.link.faults
    → GrowsBy old.link.world new.link.world [] → Passes frame n old new
Passes-nothing frame n old new lawful reads faults time later grows = Passes-call frame n old new [] lawful reads faults time later grows (Repeats-less frame 0 n [] (omega arith) (Repeats-none frame))

-- the frame was sent
pub Passes-sent : (frame : List ℕ) (old new : View) → IsLawful old → ReadsOnly old new → new.faults ≡ old.faults → Elapses old new → old.link.faults ≤ new.link.faults
    → GrowsBy old.link.world new.link.world (Sent frame ∷ []) → Passes frame 1 old new
Passes-sent frame old new lawful reads faults time later grows = Passes-call frame 1 old new (Sent frame ∷ []) lawful reads faults time later grows (Repeats-one frame)

-- it was sent, or not, by a call that failed
pub Passes-maybe : (frame : List ℕ) (old new : View) → IsLawful old → ReadsOnly old new → new.faults ≡ old.faults → Elapses old new → old.link.faults ≤ new.link.faults
    → GrowsBy old.link.world new.link.world (Sent frame ∷ []) ⊎ GrowsBy old.link.world new.link.world [] → Passes frame 1 old new
Passes-maybe frame old new lawful reads faults time later (inl grows) = Passes-sent frame old new lawful reads faults time later grows
Passes-maybe frame old new lawful reads faults time later (inr grows) = Passes-nothing frame 1 old new lawful reads faults time later grows

-- one more sending, and what was heard after it, within the limit
pub Passes-sending : (frame : List ℕ) (n most : ℕ) (old a b new : View) → n < most → Passes frame n old a → Passes frame 1 a b → Passes frame 0 b new → Passes frame most old new
Passes-sending frame n most old a b new fewer p q r = Passes-less frame ((n + 1) + 0) most old new (omega (arith, fewer)) (Passes-trans frame (n + 1) 0 old b new (Passes-trans frame n 1 old a b p q) r)
