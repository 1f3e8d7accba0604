use Rattle.pb_archive.specs.Opened.{register_of}
use Rattle.pb_collect.proofs.ChangingLemmas.{changes_trans}
use Rattle.pb_collect.proofs.FragmentLemmas.{ready_there, follows_gap, follows_kept, mid_there, mid_going, ready_new, keeps_gap, keeps_both, knows_new}
use Rattle.pb_collect.proofs.taking.take_fragment.Goals as goal

pub append-requires-clause-follows : goal.append-requires-clause-follows
append-requires-clause-follows g c =
    follows_gap c.args.archive.now c.args.id.0 c.args.progress.now c.take-effects.new.self c.args.fragment.now c.take-effects.result c.take-effects.ensures.after c.take-effects.ensures.exactly c.requires.ready c.requires.can c.requires.brief c.requires.small

pub append-requires-clause-there : goal.append-requires-clause-there
append-requires-clause-there g c = ready_there c.args.archive.now c.args.id.0 c.args.progress.now c.requires.ready

pub returns-in_err-append-clause-keeps : goal.returns-in_err-append-clause-keeps
returns-in_err-append-clause-keeps g c fs =
    keeps_gap c.args.archive.now c.args.id.0 c.args.progress.now c.take-effects.new.self c.args.fragment.now c.take-effects.result c.take-effects.ensures.after c.take-effects.ensures.exactly c.requires.ready c.requires.can c.requires.brief c.requires.small
    (g.D.Disk.view c.args.disk.now) c.requires.opened c.take-effects.ensures.effects (g.D.Disk.view c.append.new.disk) fs c.append.ensures.keeps

pub append-requires-2-clause-follows : goal.append-requires-2-clause-follows
append-requires-2-clause-follows g c =
    follows_kept c.args.archive.now c.args.id.0 c.args.progress.now c.take-effects.new.self c.args.fragment.now c.take-effects.result c.take-effects.ensures.after c.take-effects.ensures.exactly c.requires.ready c.requires.can c.requires.brief c.requires.small
    c.append.new.archive c.in_ok-append.ensures.register

pub append-requires-2-clause-going : goal.append-requires-2-clause-going
append-requires-2-clause-going g c =
    mid_going c.args.archive.now c.args.id.0 c.args.progress.now c.take-effects.new.self c.args.fragment.now c.take-effects.result c.take-effects.ensures.after c.take-effects.ensures.exactly c.requires.ready c.requires.can c.requires.brief c.requires.small
    c.append.new.archive c.in_ok-append.ensures.register

pub append-requires-2-clause-there : goal.append-requires-2-clause-there
append-requires-2-clause-there g c =
    mid_there c.args.archive.now c.args.id.0 c.args.progress.now c.take-effects.new.self c.args.fragment.now c.take-effects.result c.take-effects.ensures.after c.take-effects.ensures.exactly c.requires.ready c.requires.can c.requires.brief c.requires.small
    c.append.new.archive c.in_ok-append.ensures.register

pub returns-in_err-append-2-clause-keeps : goal.returns-in_err-append-2-clause-keeps
returns-in_err-append-2-clause-keeps g c fs =
    keeps_both c.args.archive.now c.args.id.0 c.args.progress.now c.take-effects.new.self c.args.fragment.now c.take-effects.result c.take-effects.ensures.after c.take-effects.ensures.exactly c.requires.ready c.requires.can c.requires.brief c.requires.small
    (g.D.Disk.view c.args.disk.now) c.requires.opened c.take-effects.ensures.effects (g.D.Disk.view c.append.new.disk) (g.D.Disk.view c.append-2.new.disk) fs
    (g.met.D.Disk.lawful c.append.new.disk) c.append.ensures.link c.in_ok-append.ensures.came c.append.ensures.keeps c.append-2.ensures.keeps

pub returns-clause-ready : goal.returns-clause-ready
returns-clause-ready g c =
    ready_new c.args.archive.now c.args.id.0 c.args.progress.now c.take-effects.new.self c.args.fragment.now c.take-effects.result c.take-effects.ensures.after c.take-effects.ensures.exactly c.requires.ready c.requires.can c.requires.brief c.requires.small
    c.append.new.archive c.in_ok-append.ensures.register c.append-2.new.archive c.in_ok-append-2.ensures.register

pub returns-clause-keeps : goal.returns-clause-keeps
returns-clause-keeps g c fs =
    keeps_both c.args.archive.now c.args.id.0 c.args.progress.now c.take-effects.new.self c.args.fragment.now c.take-effects.result c.take-effects.ensures.after c.take-effects.ensures.exactly c.requires.ready c.requires.can c.requires.brief c.requires.small
    (g.D.Disk.view c.args.disk.now) c.requires.opened c.take-effects.ensures.effects (g.D.Disk.view c.append.new.disk) (g.D.Disk.view c.append-2.new.disk) fs
    (g.met.D.Disk.lawful c.append.new.disk) c.append.ensures.link c.in_ok-append.ensures.came c.append.ensures.keeps c.append-2.ensures.keeps

pub returns-clause-knows : goal.returns-clause-knows
returns-clause-knows g c fs =
    knows_new c.args.archive.now c.args.id.0 c.args.progress.now c.take-effects.new.self c.args.fragment.now c.take-effects.result c.take-effects.ensures.after c.take-effects.ensures.exactly c.requires.ready c.requires.can c.requires.brief c.requires.small
    (g.D.Disk.view c.args.disk.now) c.requires.opened c.take-effects.ensures.effects (g.D.Disk.view c.append.new.disk) (g.D.Disk.view c.append-2.new.disk) fs
    c.append.ensures.link c.append-2.ensures.link c.in_ok-append.ensures.came c.in_ok-append-2.ensures.came

pub returns-clause-changes : goal.returns-clause-changes
returns-clause-changes g c =
    changes_trans c.args.id.0 (register_of c.args.archive.now) (register_of c.append.new.archive) (register_of c.append-2.new.archive) c.append.ensures.changes c.append-2.ensures.changes
