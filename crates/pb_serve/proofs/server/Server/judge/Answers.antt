use Rattle.std.proofs.Common.{◌∷◌, [], Some, ap, subst, refl, sym}
use Rattle.pb_frame.specs.Framing.{Faulty}
use Rattle.pb_serve.specs.Inside.{Kept, IsGoing, LeadsByte, passed, answered}
use Rattle.pb_serve.specs.declared.server.End.TheVariants.{LinkFault}
use Rattle.pb_serve.proofs.ServeLemmas.{miss_leads, done_leads, fail_leads}
use Rattle.pb_serve.proofs.TalkLemmas.{Talks-refl}
use Rattle.pb_serve.proofs.server.Server.judge.Goals as goal

pub returns-in-Nothing-clause-leads : goal.returns-in-Nothing-clause-leads
returns-in-Nothing-clause-leads g c =
    let i = c.self.inside in
    let k : Kept = record { ear = i.ear; station = i.station; goal = i.goal; good = i.good; since = i.since; quiets = i.quiets } in
    let link = (g.S.Disk.view c.args.site.now).link in
    subst (λ (x : Kept). IsGoing x → LeadsByte c.args.byte x link link c.flooded.result (passed c.push.new.self 1 k)) c.self.view_is
    (λ going. miss_leads k c.push.new.self c.args.byte [] link c.flooded.result going c.in-Nothing.ensures.follows refl c.flooded.ensures) c.requires.going

pub returns-in-Nothing-clause-talks : goal.returns-in-Nothing-clause-talks
returns-in-Nothing-clause-talks g c = Talks-refl (g.S.Disk.view c.args.site.now) (g.met.S.Disk.lawful c.args.site.now)

pub returns-in-Bad-clause-leads : goal.returns-in-Bad-clause-leads
returns-in-Bad-clause-leads g c =
    let i = c.self.inside in
    let k : Kept = record { ear = i.ear; station = i.station; goal = i.goal; good = i.good; since = i.since; quiets = i.quiets } in
    let link = (g.S.Disk.view c.args.site.now).link in
    subst (λ (x : Kept). IsGoing x → LeadsByte c.args.byte x link link c.flooded-in-Bad.result (passed c.push.new.self 1 k)) c.self.view_is
    (λ going. miss_leads k c.push.new.self c.args.byte (record { piece = c.push.new.self.piece; outcome = Faulty c.in-Bad.at c.in-Bad.why } ∷ []) link c.flooded-in-Bad.result going c.in-Bad.ensures.follows refl c.flooded-in-Bad.ensures) c.requires.going

pub returns-in-Bad-clause-talks : goal.returns-in-Bad-clause-talks
returns-in-Bad-clause-talks g c = Talks-refl (g.S.Disk.view c.args.site.now) (g.met.S.Disk.lawful c.args.site.now)

pub returns-in-Ok-clause-leads : goal.returns-in-Ok-clause-leads
returns-in-Ok-clause-leads g c =
    let i = c.self.inside in
    let k : Kept = record { ear = i.ear; station = i.station; goal = i.goal; good = i.good; since = i.since; quiets = i.quiets } in
    let old = (g.S.Disk.view c.args.site.now).link in
    let new = (g.S.Disk.view c.send_reply.new.site).link in
    let reply = c.in-Ok.ensures in
    subst (λ (x : Kept). IsGoing x → LeadsByte c.args.byte x old new c.done.result (answered c.push.new.self c.send_reply.new.station k)) c.self.view_is
    (λ going. done_leads k c.push.new.self c.send_reply.new.station c.args.byte c.content.result.now _ old new c.done.result going c.in-Body.ensures.follows (ap (λ l. l ∷ []) (sym c.content.ensures.value)) reply.leaves reply.sends c.done.ensures) c.requires.going

pub returns-in-Err-clause-leads : goal.returns-in-Err-clause-leads
returns-in-Err-clause-leads g c =
    let i = c.self.inside in
    let k : Kept = record { ear = i.ear; station = i.station; goal = i.goal; good = i.good; since = i.since; quiets = i.quiets } in
    let old = (g.S.Disk.view c.args.site.now).link in
    let new = (g.S.Disk.view c.send_reply.new.site).link in
    subst (λ (x : Kept). IsGoing x → LeadsByte c.args.byte x old new (Some LinkFault) (answered c.push.new.self c.send_reply.new.station k)) c.self.view_is
    (λ going. fail_leads k (answered c.push.new.self c.send_reply.new.station k) c.push.new.self c.args.byte c.content.result.now _ old new c.in-Err.field-0 going c.in-Body.ensures.follows (ap (λ l. l ∷ []) (sym c.content.ensures.value)) c.in-Err.ensures.sends) c.requires.going
