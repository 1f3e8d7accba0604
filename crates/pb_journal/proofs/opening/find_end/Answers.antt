use Rattle.std.proofs.Common.{◌∙◌, sym}
use Rattle.pb_journal.proofs.opening.find_end.Goals as goal

pub closing_gate-requires-clause-header : goal.closing_gate-requires-clause-header
closing_gate-requires-clause-header g c f view = c.in_ok-len.ensures.header f (sym c.created_len.ensures.peeks.disk.file ∙ view)

pub is_at_rest-requires-clause-size : goal.is_at_rest-requires-clause-size
is_at_rest-requires-clause-size g c f view =
    c.in_ok-len.ensures.header f (sym (c.closing_gate.ensures.peeks.disk.file ∙ c.created_len.ensures.peeks.disk.file) ∙ view)
