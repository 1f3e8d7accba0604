-- Calls of the link, one after another.
use Rattle.std.proofs.Common.{◌≡◌, ℕ, List, [], ◌++◌, Some, refl, sym, ap, ◌∙◌, append_assoc, append-nil}
use Rattle.pb_base.specs.World.{World}
use Rattle.pb_io.specs.Disk.{ReadsOnly}
use Rattle.pb_io.specs.Site.{GrowsBy}
use Rattle.pb_io.specs.View.{View, IsLawful, Elapses}
use Rattle.pb_io.proofs.Moments.{started, goes_on, LeavesOnly-trans}
use Rattle.pb_io.proofs.SendLemmas.{ReadsOnly-refl, ReadsOnly-trans}
use Rattle.pb_io.proofs.WorldLemmas.{GrowsBy-nil, GrowsBy-trans}
use Rattle.pb_serve.specs.Talks.{Between, Talks}

first_of : (old new : View) (events : World) → GrowsBy old.link.world new.link.world events → (w : World) (c : List ℕ) → old.link.world ≡ Some w → old.image c → Between old new w c
first_of old new events grows w c is image =
    let x = grows.on w is in
    record { image = image; before = w; more = []; rest = x.0; known = is; is = sym (append-nil w); prefix = x.1 }

last_of : (old new : View) (events : World) → ReadsOnly old new → GrowsBy old.link.world new.link.world events → (w : World) (c : List ℕ) → new.link.world ≡ Some w → new.image c → Between old new w c
last_of old new events reads grows w c is image =
    let x = grows.back w is in
    record { image = reads.fewer c image; before = x.0; more = x.1; rest = []; known = x.2; is = x.3; prefix = is ∙ ap (λ l. Some l) (sym (append-nil w)) }

-- nothing was done
pub Talks-refl : (d : View) → IsLawful d → Talks d d
Talks-refl d lawful = record {
  reads = ReadsOnly-refl d;
  disk_faults = refl;
  leaves = started d (Between d d) lawful (first_of d d [] (GrowsBy-nil d.link.world));
  events = [];
  grows = GrowsBy-nil d.link.world;
}

-- one call
pub Talks-call : (old new : View) (events : World) → IsLawful old → ReadsOnly old new → new.faults ≡ old.faults → Elapses old new → GrowsBy old.link.world new.link.world events → Talks old new
Talks-call old new events lawful reads faults time grows = record {
  reads = reads;
  disk_faults = faults;
  leaves = goes_on old old new (Between old new) (started old (Between old new) lawful (first_of old new events grows)) time (last_of old new events reads grows);
  events = events;
  grows = grows;
}

-- one run of calls after another
pub Talks-trans : (old mid new : View) → Talks old mid → Talks mid new → Talks old new
Talks-trans old mid new p q = record {
  reads = ReadsOnly-trans old mid new p.reads q.reads;
  disk_faults = q.disk_faults ∙ p.disk_faults;
  leaves = LeavesOnly-trans old mid new (Between old mid) (Between mid new) (Between old new) p.leaves q.leaves
      (λ w c (b : Between old mid w c).
      let x = q.grows.on (w ++ b.rest) b.prefix in
      record { image = b.image; before = b.before; more = b.more; rest = b.rest ++ x.0; known = b.known; is = b.is; prefix = x.1 ∙ ap (λ l. Some l) (append_assoc w b.rest x.0) })
      (λ w c (b : Between mid new w c).
      let x = p.grows.back b.before b.known in
      record {
        image = p.reads.fewer c b.image;
        before = x.0;
        more = x.1 ++ b.more;
        rest = b.rest;
        known = x.2;
        is = b.is ∙ ap (λ l. l ++ b.more) x.3 ∙ append_assoc x.0 x.1 b.more;
        prefix = b.prefix;
      });
  events = p.events ++ q.events;
  grows = GrowsBy-trans old.link.world mid.link.world new.link.world p.events q.events p.grows q.grows;
}
