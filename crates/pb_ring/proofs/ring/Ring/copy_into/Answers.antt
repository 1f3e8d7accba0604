use Rattle.std.proofs.Common.{◌≡◌, ◌*◌, ◌-◌, ◌+◌, List, ℕ, refl, arith, ◌∙◌, sym, ap, subst, length, take, drop, length-append}
use Rattle.pb_ring.specs.Ring.{Kept, oldest_of, StandsFor}
use Rattle.pb_ring.proofs.RingLemmas.{copies, part-fits}
use Rattle.pb_ring.proofs.ring.Ring.copy_into.Goals as goal

pub copy_joined-requires : goal.copy_joined-requires
copy_joined-requires c =
    let i = c.self.inside in
    let low : c.oldest-oldest.result.0 ≡ i.next - i.capacity = c.oldest-oldest.ensures ∙ ap oldest_of (sym c.self.view_is) in
    let len : c.content_len-len.result ≡ 8 + i.record_len = c.content_len-len.ensures ∙ ap (λ (k : Kept). 8 + k.record_len) (sym c.self.view_is) in
    let p = part-fits i.capacity (8 + i.record_len) i.next c.args.number.0 c.args.offset (length c.args.out.now) (length i.bytes.items) (omega arith) (omega (arith, low)) (omega (arith, len)) c.self.invariant.held in
    let e = ap length c.as_slices.ensures in
    rw (low, len) (omega (arith, p, e, length-append c.as_slices.result.0.now c.as_slices.result.1.now))

same-place : (a b c d o : ℕ) (xs ys : List ℕ) (n : ℕ) → a ≡ b → c ≡ d → xs ≡ ys → take n (drop (a * c + o) xs) ≡ take n (drop (b * d + o) ys)
same-place a b c d o xs ys n e f g = rw (e, f, g) refl

pub returns-clause-copied : goal.returns-clause-copied
returns-clause-copied c = λ all stands holds.
    let i = c.self.inside in
    let ring : Kept = record { record_len = i.record_len; capacity = i.capacity; next = i.next; bytes = i.bytes.items } in
    let low : c.oldest-oldest.result.0 ≡ i.next - i.capacity = c.oldest-oldest.ensures ∙ ap oldest_of (sym c.self.view_is) in
    let len : c.content_len-len.result ≡ 8 + i.record_len = c.content_len-len.ensures ∙ ap (λ (k : Kept). 8 + k.record_len) (sym c.self.view_is) in
    copies ring all c.args.number.0 c.args.offset (length c.args.out.now) (subst (λ (k : Kept). StandsFor k all) (sym c.self.view_is) stands) (omega (arith, low)) (omega arith) (omega (arith, len)) c.copy_joined.new.out
    (c.copy_joined.ensures ∙ same-place _ _ _ _ c.args.offset _ _ (length c.args.out.now) (ap (λ (o : ℕ). c.args.number.0 - o) low) len c.as_slices.ensures)
