use Rattle.std.proofs.Common.{rules, ◌≡◌, ◌*◌, ◌-◌, ◌+◌, ◌++◌, List, ℕ, arith, ◌∙◌, sym, ap, subst, length}
use Rattle.circular_buffer.specs.Buffer.{Buffer, buffer, keep_last}
use Rattle.pb_base.specs.Time.{time_bytes}
use Rattle.pb_ring.specs.Ring.{Kept, StandsFor}
use Rattle.pb_ring.proofs.RingLemmas.{extended, left_of, left-len-with, held-more, stands-more}
use Rattle.pb_ring.proofs.ring.Ring.store.Goals as goal

record-len : (c : goal.After-self-1) → c.args.self.now.record_len ≡ c.self.inside.record_len
record-len c = ap (λ (k : Kept). k.record_len) (sym c.self.view_is)

left : (c : goal.After-self-1) → c.extend_from_slice-2.new.self
    ≡ buffer (left_of c.self.inside.capacity (8 + c.self.inside.record_len) c.self.inside.bytes.items ++ (time_bytes c.args.time ++ c.args.bytes.now)) (c.self.inside.capacity * (8 + c.self.inside.record_len))
left c =
    let i = c.self.inside in
    extended i.capacity (8 + i.record_len) (c.capacity.result - c.content_len.result) i.bytes c.truncate_front.new.self c.extend_from_slice.new.self c.extend_from_slice-2.new.self (time_bytes c.args.time) c.args.bytes.now
    c.self.invariant.some c.self.invariant.room (omega (arith, record-len c)) (omega (arith, record-len c)) c.truncate_front.ensures
    (c.extend_from_slice.ensures ∙ ap (λ (t : List ℕ). buffer (keep_last c.truncate_front.new.self.capacity (c.truncate_front.new.self.items ++ t)) c.truncate_front.new.self.capacity) c.time_bytes.ensures)
    c.extend_from_slice-2.ensures

pub invariant_of-self : goal.invariant_of-self
invariant_of-self c =
    let i = c.self.inside in
    let e = left c in
    record {
      some = c.self.invariant.some;
      few = c.self.invariant.few;
      room = ap (λ (b : Buffer ℕ). b.capacity) e;
      held = ap (λ (b : Buffer ℕ). length b.items) e
          ∙ left-len-with i.capacity (8 + i.record_len) (left_of i.capacity (8 + i.record_len) i.bytes.items) (time_bytes c.args.time) c.args.bytes.now (omega (arith, record-len c))
          ∙ held-more i.capacity (8 + i.record_len) i.next i.bytes.items c.self.invariant.some c.self.invariant.held;
      word = omega arith;
    }

pub returns-clause-stores : goal.returns-clause-stores
returns-clause-stores c = λ all stands.
    let i = c.self.inside in
    let ring : Kept = record { record_len = i.record_len; capacity = i.capacity; next = i.next; bytes = i.bytes.items } in
    let stood : StandsFor ring all = subst (λ (k : Kept). StandsFor k all) (sym c.self.view_is) stands in (
      stood.next,
      omega (arith, stood.next),
      stands-more ring all (record { time = c.args.time; bytes = c.args.bytes.now }) c.extend_from_slice-2.new.self.items c.self.invariant.some stood (omega (arith, stood.next)) (c.requires ∙ record-len c, search rules, search rules) (ap (λ (b : Buffer ℕ). b.items) (left c)),
    )
