use Rattle.std.proofs.Common.{sym, ap, ◌∙◌, [], ◌∷◌, ◌++◌}
use Rattle.pakbus.proofs.PeerLemmas.{bracketed}
use Rattle.pakbus.proofs.peer.host_of.Goals as goal

pub returns : goal.returns
returns c =
    let opens = c.in-Some.ensures.cases in
    let closes = c.in_ok-host.ensures.cases in
    bracketed c.args.text.now c.in-Some.rest.now c.in_ok-host.host.now c.some_host-2.result (opens.1.1 ∙ ap (λ l. 91 ∷ l) (sym opens.2))
    (closes.1.1 ∙ ap (λ l. l ++ (93 ∷ [])) (sym closes.2)) c.some_host-2.ensures
