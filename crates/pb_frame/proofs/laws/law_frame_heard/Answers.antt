use Rattle.pb_frame.proofs.FrameLemmas.{frame-heard, frame-heard_next, frame-closed}
use Rattle.pb_frame.proofs.laws.law_frame_heard.Goals as goal

pub returns-clause-heard : goal.returns-clause-heard
returns-clause-heard c = frame-heard

pub returns-clause-closed : goal.returns-clause-closed
returns-clause-closed c = frame-closed

pub returns-clause-next : goal.returns-clause-next
returns-clause-next c = frame-heard_next
