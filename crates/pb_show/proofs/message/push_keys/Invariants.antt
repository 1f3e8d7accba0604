use Rattle.std.proofs.Common.{take, map}
use Rattle.pb_io.specs.Page.{Adds, printing}
use Rattle.pb_show.specs.Inside.{key_view}
use Rattle.pb_show.specs.MessageText.{keys_text}
use Rattle.pb_show.proofs.message.push_keys.Given as goal

abbrev pub invariant-loop-key : goal.invariant-loop-key
invariant-loop-key g l = Adds (keys_text (map key_view (take l.key-index l.keys))) (printing g.O.Sink l.fn.page l.fn.out) (printing g.O.Sink l.page l.out)
