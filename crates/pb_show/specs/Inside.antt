-- Between the code's own types and the texts.
use Rattle.pb_show.specs.declared.message.Key as code
use Rattle.pb_show.specs.declared.value.Shown as value
use Rattle.pb_show.specs.MessageText.{Shown, Number, Signature, Time, Name, Bytes, Numbers, Settings, Key, mode_number}

-- what is seen of a value
abbrev pub shown_view : value.Shown → Shown
shown_view (value.TheVariants.Byte n) = Number n
shown_view (value.TheVariants.Half n) = Number n
shown_view (value.TheVariants.Word n) = Number n
shown_view (value.TheVariants.Mode m) = Number (mode_number m)
shown_view (value.TheVariants.Signature n) = Signature n
shown_view (value.TheVariants.Time t) = Time t
shown_view (value.TheVariants.Name text) = Name text.now
shown_view (value.TheVariants.Bytes bytes) = Bytes bytes.now
shown_view (value.TheVariants.Numbers bytes) = Numbers bytes.now
shown_view (value.TheVariants.Settings bytes) = Settings bytes.now

-- what is seen of a key
abbrev pub key_view : code.Key → Key
key_view k = record { name = k.0.now; value = shown_view k.1 }
