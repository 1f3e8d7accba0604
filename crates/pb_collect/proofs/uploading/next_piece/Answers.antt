use Rattle.std.proofs.Common.{◌≡◌, List, ℕ, [], ◌∷◌, ◌++◌, ◌<◌, length, refl, sym, ◌∙◌, ap, subst, arith, rules, append-nil}
use Rattle.pb_ask.specs.declared.question.Conclusion.TheVariants as conclusion
use Rattle.pb_collect.specs.Tables.{channel}
use Rattle.pb_collect.specs.Uploads.{Brought}
use Rattle.pb_collect.specs.declared.upload.FileReply.{FileReply}
use Rattle.pb_collect.proofs.UploadingLemmas.{asked_at, brought_at, stops_at}
use Rattle.pb_collect.proofs.uploading.next_piece.Goals as goal

none : (bytes : List ℕ) → length bytes ≡ 0 → bytes ≡ []
none [] is = refl
none (b ∷ bytes) is = absurd (omega (arith, is))

pub returns-in-Err-clause-stops : goal.returns-in-Err-clause-stops
returns-in-Err-clause-stops g c =
    stops_at c.args.limits c.args.contact.now c.args.tran.now c.len.result (length c.args.file.now.items) (search rules) c.args.listener.now c.ask_piece.new.listener (g.S.Disk.view c.args.site.now).link (g.S.Disk.view c.ask_piece.new.site).link
    c.in-Err.ensures.stops

pub returns-then-join-eq0-clause-step : goal.returns-then-join-eq0-clause-step
returns-then-join-eq0-clause-step g c =
    let j = c.join.ensures.joined in
    let d = c.in-Ok-Answer-Data in
    let nothing = none j.0 (sym j.2 ∙ c.if-join-eq0.true) in
    let from = channel c.args.listener.now (g.S.Disk.view c.args.site.now).link in
    let to = channel c.ask_piece.new.listener (g.S.Disk.view c.ask_piece.new.site).link in (
      j.1 ∙ ap (λ l. c.args.file.now.items ++ l) nothing ∙ append-nil c.args.file.now.items,
      subst (λ l. Brought c.args.limits c.args.contact.now (length c.args.file.now.items) l from to) nothing
          (brought_at c.args.limits c.args.contact.now c.args.tran.now c.len.result (length c.args.file.now.items) (search rules) c.args.listener.now c.ask_piece.new.listener (g.S.Disk.view c.args.site.now).link (g.S.Disk.view c.ask_piece.new.site).link
          d.field-0 j.0 (d.field-0-is ∙ ap (λ (x : FileReply). conclusion.Answer x) d.field-0-0-is) d.ensures.asks j.3),
    )

pub returns-else-join-eq0-clause-step : goal.returns-else-join-eq0-clause-step
returns-else-join-eq0-clause-step g c =
    let j = c.join.ensures.joined in
    let d = c.in-Ok-Answer-Data in
    let some : 0 < length j.0 = omega (arith, j.2, c.if-join-eq0.false) in (
      j.0,
      j.1,
      some,
      brought_at c.args.limits c.args.contact.now c.args.tran.now c.len.result (length c.args.file.now.items) (search rules) c.args.listener.now c.ask_piece.new.listener (g.S.Disk.view c.args.site.now).link (g.S.Disk.view c.ask_piece.new.site).link
          d.field-0 j.0 (d.field-0-is ∙ ap (λ (x : FileReply). conclusion.Answer x) d.field-0-0-is) d.ensures.asks j.3,
    )

pub returns-in-Ok-Answer-Refused-clause-step : goal.returns-in-Ok-Answer-Refused-clause-step
returns-in-Ok-Answer-Refused-clause-step g c = (
  refl,
  asked_at c.args.limits c.args.contact.now c.args.tran.now c.len.result (length c.args.file.now.items) (search rules) c.args.listener.now c.ask_piece.new.listener (g.S.Disk.view c.args.site.now).link (g.S.Disk.view c.ask_piece.new.site).link
      _ c.in-Ok-Answer-Refused.field-0 (c.in-Ok-Answer-Refused.field-0-is ∙ ap (λ (x : FileReply). conclusion.Answer x) c.in-Ok-Answer-Refused.field-0-0-is) c.in-Ok-Answer-Refused.ensures.asks,
)

pub returns-in-Ok-Undelivered-clause-step : goal.returns-in-Ok-Undelivered-clause-step
returns-in-Ok-Undelivered-clause-step g c = (
  refl,
  asked_at c.args.limits c.args.contact.now c.args.tran.now c.len.result (length c.args.file.now.items) (search rules) c.args.listener.now c.ask_piece.new.listener (g.S.Disk.view c.args.site.now).link (g.S.Disk.view c.ask_piece.new.site).link
      _ c.in-Ok-Undelivered.field-0 c.in-Ok-Undelivered.field-0-is c.in-Ok-Undelivered.ensures.asks,
)

pub returns-in-Ok-NoAnswer-clause-step : goal.returns-in-Ok-NoAnswer-clause-step
returns-in-Ok-NoAnswer-clause-step g c = (
  refl,
  asked_at c.args.limits c.args.contact.now c.args.tran.now c.len.result (length c.args.file.now.items) (search rules) c.args.listener.now c.ask_piece.new.listener (g.S.Disk.view c.args.site.now).link (g.S.Disk.view c.ask_piece.new.site).link
      _ c.in-Ok-NoAnswer.field-0 c.in-Ok-NoAnswer.field-0-is c.in-Ok-NoAnswer.ensures.asks,
)

pub returns-in-Ok-Flooded-clause-step : goal.returns-in-Ok-Flooded-clause-step
returns-in-Ok-Flooded-clause-step g c = (
  refl,
  asked_at c.args.limits c.args.contact.now c.args.tran.now c.len.result (length c.args.file.now.items) (search rules) c.args.listener.now c.ask_piece.new.listener (g.S.Disk.view c.args.site.now).link (g.S.Disk.view c.ask_piece.new.site).link
      _ c.in-Ok-Flooded.field-0 c.in-Ok-Flooded.field-0-is c.in-Ok-Flooded.ensures.asks,
)
