use Rattle.std.proofs.Common.{◌∙◌, ◌-◌, inr, refl, subst, arith}
use Rattle.pb_journal.specs.Inside.{GateIs, EndsWithin}
use Rattle.pb_journal.specs.declared.walk.Gate.TheVariants.{Open}
use Rattle.pb_journal.proofs.RunLemmas.{Peeks-none, Peeks-trans}
use Rattle.pb_journal.proofs.WalkLemmas.{walked_start, walked_on, walked_to_end, walked_to_break}
use Rattle.pb_journal.proofs.opening.closing_gate.Goals as goal

pub loop-size-init : goal.loop-size-init
loop-size-init g c = record {
  within = omega arith;
  walked = λ f view. walked_start c.args.len f (c.requires.header f view);
  shows = c.requires.shows;
  held = refl;
  peeks = Peeks-none _ (g.met.D.Disk.lawful c.args.disk.now);
  kept = refl;
}

pub returns-in-Closed-clause-ends : goal.returns-in-Closed-clause-ends
returns-in-Closed-clause-ends g c f view =
    let walk = c.loop-size.invariant in
    let at_gate = c.in_ok-look.ensures.gate f (walk.peeks.disk.file ∙ view) (walk.shows f view) in
    walked_to_end f _ _ (c.requires.header f view).size (walk.walked f view) (subst (GateIs _) c.in-Closed.is at_gate)

pub returns-in-Broken-clause-refused : goal.returns-in-Broken-clause-refused
returns-in-Broken-clause-refused g c f view =
    let walk = c.loop-size.invariant in
    let header = c.requires.header f view in
    let at_gate = c.in_ok-look.ensures.gate f (walk.peeks.disk.file ∙ view) (walk.shows f view) in
    (header.created, inr (walked_to_break f _ _ header.size (walk.walked f view) (subst (GateIs _) c.in-Broken.is at_gate)))

pub loop-size-preserved : goal.loop-size-preserved
loop-size-preserved g c =
    let walk = c.loop-size.invariant in
    let looked = c.in_ok-look.ensures in
    let fits : EndsWithin (Open c.in-Open.size) (c.args.len - c.loop-size.place) = subst (λ k. EndsWithin k (c.args.len - c.loop-size.place)) c.in-Open.is looked.fits in
    record {
      within = omega (arith, fits.1, walk.within);
      walked = λ f view.
          walked_on f _ _ (c.requires.header f view).size (walk.walked f view) _ (subst (GateIs _) c.in-Open.is (looked.gate f (walk.peeks.disk.file ∙ view) (walk.shows f view)));
      shows = λ f view. looked.shows f (walk.peeks.disk.file ∙ view) (walk.shows f view);
      held = looked.held ∙ walk.held;
      peeks = Peeks-trans _ _ _ walk.peeks looked.peeks;
      kept = looked.cause.kept ∙ walk.kept;
    }
