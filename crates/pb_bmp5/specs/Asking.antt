-- What a collect command asks, in the words of histories.
use Rattle.std.specs.Prelude.{ℕ}
use Rattle.pb_base.specs.Request as asked
use Rattle.pb_base.specs.Request.{Request}
use Rattle.pb_bmp5.specs.declared.message.Mode.{Mode}
use Rattle.pb_bmp5.specs.declared.message.Mode.TheVariants as mode
use Rattle.pb_bmp5.specs.Message.{CollectKeys}

abbrev pub asked_mode : Mode → asked.Mode
asked_mode mode.All = asked.All
asked_mode (mode.From number) = asked.From number
asked_mode (mode.Newest count) = asked.Newest count
asked_mode (mode.Range from to) = asked.Range from to
asked_mode (mode.Times from to) = asked.Times from to
asked_mode (mode.Part number offset) = asked.Part number offset

-- what an address asks of a station by a collect command with these keys
abbrev pub request_by : (me station tran : ℕ) → CollectKeys → Request
request_by me station tran keys = record {
  me = me;
  table = record { station = station; number = keys.table; signature = keys.sig };
  tran = tran;
  mode = asked_mode keys.mode;
}
