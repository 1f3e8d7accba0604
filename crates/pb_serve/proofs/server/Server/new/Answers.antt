use Rattle.std.proofs.Common.{refl}
use Rattle.pb_serve.proofs.ServeLemmas.{stands_start}
use Rattle.pb_serve.proofs.server.Server.new.Goals as goal

pub returns-clause-starts : goal.returns-clause-starts
returns-clause-starts c state stands = stands_start state _ stands c.new.ensures.stands refl refl refl
