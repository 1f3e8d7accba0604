-- Values as they are handed out.
use Rattle.pb_value.specs.declared.value.Value.{Value}
use Rattle.pb_value.specs.Values.{ValueView}

abbrev pub value_view : Value → ValueView
value_view v = record { kind = v.kind; bytes = v.bytes.now }
