use Rattle.std.proofs.Common.{[], Some, take, refl, subst, ◌∙◌, arith, MatchOption}
use Rattle.pb_io.specs.ChangeLog.{arrival}
use Rattle.pb_io.proofs.WorldLemmas.{GrowsBy-nil}
use Rattle.pb_serve.specs.Inside.{IsGoing, Stands}
use Rattle.pb_serve.specs.Serving.{Ends}
use Rattle.pb_serve.proofs.ServeLemmas.{arrives, takes_on, receive_fails}
use Rattle.pb_serve.proofs.TalkLemmas.{Talks-refl, Talks-call, Talks-trans}
use Rattle.pb_serve.proofs.server.Server.run.Goals as goal

pub loop-n-init : goal.loop-n-init
loop-n-init g c = record {
  so_far = λ first s. ([], GrowsBy-nil _, s);
  going = c.requires.going;
  alive = c.requires.alive;
  goal = refl;
  talks = Talks-refl (g.S.Disk.view c.args.site.now) (g.met.S.Disk.lawful c.args.site.now);
  faults = refl;
}

pub returns-in-Err-clause-ends : goal.returns-in-Err-clause-ends
returns-in-Err-clause-ends g c first s =
    let so = c.loop-n.invariant in
    let x = so.so_far first s in
    receive_fails first c.args.self.now.goal x.0 (g.S.Disk.view c.args.site.now).link (g.S.Disk.view c.loop-n.site).link (g.S.Disk.view c.recv.new.self).link c.loop-n.self x.1 c.in-Err.ensures.world so.goal so.going x.2

pub returns-in-Err-clause-talks : goal.returns-in-Err-clause-talks
returns-in-Err-clause-talks g c =
    let e = c.in-Err.ensures in
    Talks-trans (g.S.Disk.view c.args.site.now) (g.S.Disk.view c.loop-n.site) (g.S.Disk.view c.recv.new.self) c.loop-n.invariant.talks
    (Talks-call (g.S.Disk.view c.loop-n.site) (g.S.Disk.view c.recv.new.self) [] (g.met.S.Disk.lawful c.loop-n.site) e.disk e.disk_faults e.time e.world)

pub returns-in-Some-clause-ends : goal.returns-in-Some-clause-ends
returns-in-Some-clause-ends g c first s =
    let so = c.loop-n.invariant in
    let x = so.so_far first s in
    let old = (g.S.Disk.view c.args.site.now).link in
    let mid = (g.S.Disk.view c.loop-n.site).link in
    let got = (g.S.Disk.view c.recv.new.self).link in
    let now = (g.S.Disk.view c.take.new.site).link in
    let came = arrives mid.world got.world c.recv.new.to c.in-Ok.n (omega (arith, c.in-Ok.ensures.bound)) c.in-Ok.ensures.world in
    takes_on first c.args.self.now.goal x.0 (take c.in-Ok.n c.recv.new.to) old mid got now (Some c.in-Some.end) c.loop-n.self c.take.new.self x.1 came so.goal (c.in-Some.ensures.takes first x.0 x.2)

pub returns-in-Some-clause-talks : goal.returns-in-Some-clause-talks
returns-in-Some-clause-talks g c =
    let e = c.in-Ok.ensures in
    let mid = (g.S.Disk.view c.loop-n.site).link in
    let got = (g.S.Disk.view c.recv.new.self).link in
    let came = arrives mid.world got.world c.recv.new.to c.in-Ok.n (omega (arith, e.bound)) e.world in
    Talks-trans (g.S.Disk.view c.args.site.now) (g.S.Disk.view c.loop-n.site) (g.S.Disk.view c.take.new.site) c.loop-n.invariant.talks
    (Talks-trans (g.S.Disk.view c.loop-n.site) (g.S.Disk.view c.recv.new.self) (g.S.Disk.view c.take.new.site)
    (Talks-call (g.S.Disk.view c.loop-n.site) (g.S.Disk.view c.recv.new.self) (arrival (take c.in-Ok.n c.recv.new.to)) (g.met.S.Disk.lawful c.loop-n.site) e.disk e.disk_faults e.time came) c.take.ensures.talks)

pub loop-n-preserved : goal.loop-n-preserved
loop-n-preserved g c =
    let e = c.in-Ok.ensures in
    let so = c.loop-n.invariant in
    let old = (g.S.Disk.view c.args.site.now).link in
    let mid = (g.S.Disk.view c.loop-n.site).link in
    let got = (g.S.Disk.view c.recv.new.self).link in
    let now = (g.S.Disk.view c.take.new.site).link in
    let came = arrives mid.world got.world c.recv.new.to c.in-Ok.n (omega (arith, e.bound)) e.world in
    let goes = c.take.ensures.goes in
    let new = c.take.new.self in
    record {
      so_far = λ first s.
          let x = so.so_far first s in
          let on = takes_on first c.args.self.now.goal x.0 (take c.in-Ok.n c.recv.new.to) old mid got now c.take.result c.loop-n.self new x.1 came so.goal (c.take.ensures.takes first x.0 x.2) in
          (on.0, on.1, subst (λ r. MatchOption r (Stands first new on.0 []) (λ end. Ends first c.args.self.now.goal on.0 end)) c.in_default.is on.2);
      going = subst (λ r. MatchOption r (IsGoing new) (λ end. Unit {0})) c.in_default.is goes.going;
      alive = goes.alive;
      goal = goes.goal ∙ so.goal;
      talks = Talks-trans (g.S.Disk.view c.args.site.now) (g.S.Disk.view c.loop-n.site) (g.S.Disk.view c.take.new.site) so.talks
          (Talks-trans (g.S.Disk.view c.loop-n.site) (g.S.Disk.view c.recv.new.self) (g.S.Disk.view c.take.new.site)
          (Talks-call (g.S.Disk.view c.loop-n.site) (g.S.Disk.view c.recv.new.self) (arrival (take c.in-Ok.n c.recv.new.to)) (g.met.S.Disk.lawful c.loop-n.site) e.disk e.disk_faults e.time came) c.take.ensures.talks);
      faults = c.take.ensures.faults.kept (λ f. cc (f, c.in_default.is)) ∙ e.cause.kept ∙ so.faults;
    }
