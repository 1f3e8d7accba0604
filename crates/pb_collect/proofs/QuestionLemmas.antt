-- The frame of a collect command, from what each writer wrote.
use Rattle.std.proofs.Common.{◌≡◌, inr, ℕ, ◌≤◌, List, [], Result, Ok, Err, IfOk, length, refl, arith, rules}
use Rattle.std.specs.Prelude.{OnErr, IsOk}
use Rattle.pb_base.specs.declared.refusal.Full.{Full as NoRoom}
use Rattle.pb_base.specs.Put.{IsWritten, DoesNotFit}
use Rattle.pb_frame.specs.Framing.{IsContentSize}
use Rattle.pb_bmp5.specs.declared.message.Mode.{Mode}
use Rattle.pb_bmp5.specs.declared.message.Mode.TheVariants.{All, From, Newest, Range, Times, Part}
use Rattle.pb_bmp5.specs.Message.{Collect, CollectKeys, Valid, message_bytes}
use Rattle.pb_collect.specs.Question.{command_content}
use Rattle.pb_collect.specs.declared.question.CollectCommand.{CollectCommand}
use Rattle.pb_collect.proofs.CommandLemmas.{at_ok}

abbrev plain_keys : ℕ → Mode → ℕ → ℕ → CollectKeys
plain_keys code mode table sig = record { code = code; mode = mode; table = table; sig = sig; fields = [] }

pub valid : (tran code : ℕ) (mode : Mode) (table sig : ℕ) → Valid (Collect tran (plain_keys code mode table sig))
valid tran code All table sig = record { obeys = search rules; makes = refl }
valid tran code (From p1) table sig = record { obeys = search rules; makes = refl }
valid tran code (Newest p1) table sig = record { obeys = search rules; makes = refl }
valid tran code (Range p1 p2) table sig = record { obeys = search rules; makes = refl }
valid tran code (Times p1 p2) table sig = record { obeys = search rules; makes = refl }
valid tran code (Part p1 p2) table sig = record { obeys = search rules; makes = refl }

pub short : (tran code : ℕ) (mode : Mode) (table sig : ℕ) → length (message_bytes (Collect tran (plain_keys code mode table sig))) ≤ 32
short tran code All table sig = omega arith
short tran code (From p1) table sig = omega arith
short tran code (Newest p1) table sig = omega arith
short tran code (Range p1 p2) table sig = omega arith
short tran code (Times p1 p2) table sig = omega arith
short tran code (Part p1 p2) table sig = omega arith

pub fits : (r : Result ℕ NoRoom) (bytes old new : List ℕ) → length bytes ≤ 32 → 32 ≤ length old → OnErr r (DoesNotFit bytes old new) → IsOk r
fits (Ok n) bytes old new small room refused = search rules
fits (Err e) bytes old new small room refused = absurd (omega (arith, refused.short, small, room))

pub within : (r : Result ℕ NoRoom) (bytes old new : List ℕ) (n : ℕ) → length bytes ≤ 32 → IfOk r (IsWritten bytes old new) → r ≡ Ok n → n ≤ 32
within r bytes old new n small written is = let w = at_ok r n (IsWritten bytes old new) is written in omega (arith, w.len, small)

-- ---- the content

pub content_size : (c : CollectCommand) → IsContentSize (length (command_content c))
content_size c = inr (omega (arith, short c.tran c.code c.mode c.table.0 c.sig), omega (arith, short c.tran c.code c.mode c.table.0 c.sig))
