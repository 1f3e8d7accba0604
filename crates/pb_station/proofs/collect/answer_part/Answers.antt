use Rattle.std.proofs.Common.{Ok, ◌≡◌, ◌+◌, ◌-◌, ◌&&◌, eqb, min, ℕ, length, sym, ap, ap₂, subst, ◌∙◌, arith}
use Rattle.std.specs.List.{AllByRecursion}
use Rattle.pb_base.specs.Record.{content_len}
use Rattle.pb_ring.specs.Ring.{Kept, IsRecord, StandsFor, oldest_of}
use Rattle.pb_station.specs.Collect.{Collected}
use Rattle.pb_station.specs.Inside.Commands.{IsCollected}
use Rattle.pb_station.proofs.AnswerLemmas.{part-answer}
use Rattle.pb_station.proofs.collect.answer_part.Goals as goal

pub returns-clause-collected : goal.returns-clause-collected
returns-clause-collected c = λ all stands.
    let number = c.args.number in
    let offset = c.args.offset in
    let next : c.next-next.result.0 ≡ length all.stored =
    c.next-next.ensures ∙ ap (λ (k : Kept). k.next) c.ring.ensures.value ∙ stands.stored.next in
    let oldest : c.oldest.result.0 ≡ length all.stored - all.capacity =
    c.oldest.ensures ∙ ap oldest_of c.ring-2.ensures.value ∙ ap₂ (λ (n m : ℕ). n - m) stands.stored.next stands.capacity in
    let content : c.content_len-content.result ≡ content_len all.layout =
    c.content_len-content.ensures ∙ ap content_len (c.layout.ensures.value ∙ stands.layout) in
    let own = subst (λ (k : Kept). StandsFor k all.stored) (sym c.ring-3.ensures.value) stands.stored in
    let each = subst (λ n. AllByRecursion (IsRecord n) all.stored) stands.record_len stands.stored.each in
    let len : c.min-len.result ≡ min 960 (content_len all.layout - offset) = c.min-len.ensures ∙ ap (λ (x : ℕ). min 960 (x - offset)) content in
    let last = c.ends_newest-is_last.ensures ∙ ap₂ (λ (n m : ℕ). eqb (number + 1) n && eqb (offset + c.min-len.result) m) next content in
    subst (λ (x : Collected). IsCollected x c.args.table.0 c.args.body.now c.write_part.new.out (Ok c.write_part.result))
    (sym (part-answer all number offset c.min-len.result c.ends_newest-is_last.result (omega (arith, oldest)) (omega (arith, next)) (omega (arith, content)) each len last))
    (c.write_part.ensures.written all.stored own)
