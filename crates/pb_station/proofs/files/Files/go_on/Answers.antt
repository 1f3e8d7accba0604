use Rattle.std.proofs.Common.{◌<◌, Bool, cond, List, length, length-take, take, set, slice_get, ap, subst, arith}
use Rattle.pb_station.specs.State.{File}
use Rattle.pb_station.specs.Files.{goes_on}
use Rattle.pb_station.specs.Inside.Steps.{Becomes}
use Rattle.pb_station.proofs.FileLemmas.{went-on}
use Rattle.pb_station.proofs.files.Files.go_on.Goals as goal

pub returns-then-not-take_part : goal.returns-then-not-take_part
returns-then-not-take_part c =
    let i = c.self.inside in
    let items = i.slots.items in
    let within : c.args.place < i.used = omega (arith, ap length c.self.view_is, length-take i.used items) in
    let b = went-on items i.used c.args.place c.index_mut.result.now c.take_part.new.self c.args.offset c.args.bytes.now c.take_part.result within (omega arith) c.index_mut.ensures.value c.take_part.ensures in
    subst (λ (d : Bool). Becomes (goes_on c.args.self.now c.args.place (slice_get c.args.self.now c.args.place) c.args.offset c.args.bytes.now) (take i.used (set items c.args.place c.take_part.new.self)) (cond d 0 14))
    c.if-not-take_part.true
    (subst (λ (fs : List File). Becomes (goes_on fs c.args.place (slice_get fs c.args.place) c.args.offset c.args.bytes.now) (take i.used (set items c.args.place c.take_part.new.self)) (cond c.take_part.result 0 14)) c.self.view_is b)

pub returns : goal.returns
returns c =
    let i = c.self.inside in
    let items = i.slots.items in
    let within : c.args.place < i.used = omega (arith, ap length c.self.view_is, length-take i.used items) in
    let b = went-on items i.used c.args.place c.index_mut.result.now c.take_part.new.self c.args.offset c.args.bytes.now c.take_part.result within (omega arith) c.index_mut.ensures.value c.take_part.ensures in
    subst (λ (d : Bool). Becomes (goes_on c.args.self.now c.args.place (slice_get c.args.self.now c.args.place) c.args.offset c.args.bytes.now) (take i.used (set items c.args.place c.take_part.new.self)) (cond d 0 14))
    c.if-not-take_part.false
    (subst (λ (fs : List File). Becomes (goes_on fs c.args.place (slice_get fs c.args.place) c.args.offset c.args.bytes.now) (take i.used (set items c.args.place c.take_part.new.self)) (cond c.take_part.result 0 14)) c.self.view_is b)
