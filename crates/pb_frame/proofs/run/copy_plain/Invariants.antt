use Rattle.std.proofs.Common.{◌-◌, ◌≡◌, ◌+◌, ◌*◌, ◌≤◌, All, take}
use Rattle.pb_frame.specs.Signature.{sig}
use Rattle.pb_frame.specs.Framing.{IsPlain}
use Rattle.pb_frame.proofs.run.copy_plain.Given as goal

abbrev pub invariant-loop-done : goal.invariant-loop-done
invariant-loop-done l = record {
  within : l.done ≤ l.end;
  plain : All IsPlain (take l.done l.bytes);
  copied : take l.done l.room ≡ take l.done l.bytes;
  signed : 256 * l.sum.high + l.sum.low ≡ sig (take l.done l.bytes) (256 * l.fn.signer.high + l.fn.signer.low);
}

abbrev pub decreases-loop-done : goal.decreases-loop-done
decreases-loop-done l = l.end - l.done

abbrev pub invariant-loop-done-2 : goal.invariant-loop-done-2
invariant-loop-done-2 l = record {
  within : l.done ≤ l.end;
  plain : All IsPlain (take l.done l.bytes);
  copied : take l.done l.room ≡ take l.done l.bytes;
  signed : 256 * l.sum.high + l.sum.low ≡ sig (take l.done l.bytes) (256 * l.fn.signer.high + l.fn.signer.low);
}

abbrev pub decreases-loop-done-2 : goal.decreases-loop-done-2
decreases-loop-done-2 l = l.end - l.done
