use Rattle.std.proofs.Common.{◌+◌, ◌≤◌, [], None, drop, length, length-drop, refl, sym, ap, ◌++◌, subst, ◌∙◌, arith, append-nil, MatchOption}
use Rattle.pb_io.proofs.WorldLemmas.{GrowsBy-nil}
use Rattle.pb_serve.specs.Inside.{IsGoing, Leads, Stands, work}
use Rattle.pb_serve.proofs.ServeLemmas.{any_waiting, leads_on, none_left, whole_tail}
use Rattle.pb_serve.proofs.TalkLemmas.{Talks-refl, Talks-trans}
use Rattle.pb_serve.proofs.server.Server.hear.Goals as goal

pub loop-rest-init : goal.loop-rest-init
loop-rest-init g c = record {
  so_far = λ first w s. ([], GrowsBy-nil _, subst (λ v. Stands first c.args.self.now v c.args.bytes.now) (sym (append-nil w)) s);
  going = c.requires.going;
  alive = c.requires.alive;
  goal = refl;
  quiets = refl;
  less = omega arith;
  talks = Talks-refl (g.S.Disk.view c.args.site.now) (g.met.S.Disk.lawful c.args.site.now);
  faults = refl;
}

pub returns-in-Some-clause-leads : goal.returns-in-Some-clause-leads
returns-in-Some-clause-leads g c first w s =
    let so = c.loop-rest.invariant in
    let x = so.so_far first w s in
    let old = (g.S.Disk.view c.args.site.now).link in
    let mid = (g.S.Disk.view c.loop-rest.site).link in
    let now = (g.S.Disk.view c.step-step.new.site).link in
    let step = c.step-step.result in
    let rest = c.loop-rest.rest.now in
    any_waiting first c.args.self.now.goal w old now c.in-Some.end c.step-step.new.self (drop step.taken rest) []
    (subst (λ r. Leads first c.args.self.now.goal w old now r c.step-step.new.self (drop step.taken rest)) c.in-Some.is
    (leads_on first c.args.self.now.goal w x.0 old mid now step.end c.loop-rest.self c.step-step.new.self rest (drop step.taken rest) x.1 so.goal x.2 (c.step-step.ensures.leads first)))

pub returns-in-Some-clause-talks : goal.returns-in-Some-clause-talks
returns-in-Some-clause-talks g c =
    Talks-trans (g.S.Disk.view c.args.site.now) (g.S.Disk.view c.loop-rest.site) (g.S.Disk.view c.step-step.new.site) c.loop-rest.invariant.talks c.step-step.ensures.talks

pub loop-rest-preserved : goal.loop-rest-preserved
loop-rest-preserved g c =
    let so = c.loop-rest.invariant in
    let old = (g.S.Disk.view c.args.site.now).link in
    let mid = (g.S.Disk.view c.loop-rest.site).link in
    let now = (g.S.Disk.view c.step-step.new.site).link in
    let step = c.step-step.result in
    let rest = c.loop-rest.rest.now in
    let new = c.step-step.new.self in
    let goes = c.step-step.ensures.goes in
    let less : work new + step.taken ≤ work c.loop-rest.self = subst (λ r. MatchOption r (work new + step.taken ≤ work c.loop-rest.self) (λ end. Unit {0})) c.in_default.is goes.less in
    record {
      so_far = λ first w s.
          let x = so.so_far first w s in
          let l : Leads first c.args.self.now.goal w old now None new (drop step.taken rest) = subst (λ r. Leads first c.args.self.now.goal w old now r new (drop step.taken rest)) c.in_default.is
          (leads_on first c.args.self.now.goal w x.0 old mid now step.end c.loop-rest.self new rest (drop step.taken rest) x.1 so.goal x.2 (c.step-step.ensures.leads first)) in
          (l.more, l.grows, subst (λ t. Stands first new (w ++ l.more) t) (sym (whole_tail step.taken rest)) l.leads);
      going = subst (λ r. MatchOption r (IsGoing new) (λ end. Unit {0})) c.in_default.is goes.going;
      alive = goes.alive;
      goal = goes.goal ∙ so.goal;
      quiets = goes.quiets ∙ so.quiets;
      less = omega (arith, so.less, less, ap length (whole_tail step.taken rest), length-drop step.taken rest, c.step-step.ensures.taken.1);
      talks = Talks-trans (g.S.Disk.view c.args.site.now) (g.S.Disk.view c.loop-rest.site) (g.S.Disk.view c.step-step.new.site) so.talks c.step-step.ensures.talks;
      faults = c.step-step.ensures.faults.kept (λ e. cc (e, c.in_default.is)) ∙ so.faults;
    }

pub returns-clause-leads : goal.returns-clause-leads
returns-clause-leads g c first w s =
    let x = c.loop-rest.invariant.so_far first w s in
    record { more = x.0; grows = x.1; leads = subst (λ l. Stands first c.loop-rest.self (w ++ x.0) l) (none_left c.loop-rest.rest.now (omega arith)) x.2 }
