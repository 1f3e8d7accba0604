-- Text on its way to a sink: what waits on a page, and what was written.
use Rattle.std.specs.Prelude.{◌≡◌, ℕ, ◌≤◌, List, [], ◌∷◌, ◌++◌, Bool, true, false, Option, decimal}
use Rattle.std.specs.Fmt.{signed_decimal}
use Rattle.std.specs.List.{flat_map}
use Rattle.std.specs.Io.KnownBytes.{Appends}
use Rattle.pb_io.specs.Faults.{Rose}
use Rattle.pb_io.specs.Outside.{Output, output_view}
use Rattle.pb_io.specs.Sink.{AppendsPrefix}
use Rattle.pb_io.specs.declared.page.Part as part
use Rattle.pb_io.specs.declared.sink.Sink as sink

-- a page: the text that isn't written yet, and whether a write has failed
pub record Waiting : Type 0 where
  pub text : List ℕ
  pub failed : Bool

-- a page and its sink
pub record Printing : Type 0 where
  pub page : Waiting
  pub out : Output

abbrev pub blank : Waiting
blank = record { text = []; failed = false }

abbrev pub printing : {O : Type 0} → sink.Ghosts O → Waiting → O → Printing
printing o page out = record { page = page; out = output_view o out }

-- the written text, with what waits after it, grew by this text
pub record Grows (text : List ℕ) (old new : Printing) : Type 0 where
  pub flushed : List ℕ
  pub appends : Appends old.out.written new.out.written flushed
  pub same : flushed ++ new.page.text ≡ old.page.text ++ text
  pub faults : new.out.faults ≡ old.out.faults

-- a write failed: a prefix was written of what waited and of this text
pub record BreaksOff (text : List ℕ) (old new : Printing) : Type 0 where
  pub prefix : AppendsPrefix old.out.written new.out.written (old.page.text ++ text)
  pub rose : Rose old.out.faults new.out.faults
  pub later : old.out.faults ≤ new.out.faults

-- a page that has failed before writes nothing more
pub record StandsStill (old new : Printing) : Type 0 where
  pub out : new.out ≡ old.out

-- This text was added, by whether a write had failed before and whether one has failed now.
abbrev pub AddsBy : Bool → Bool → List ℕ → Printing → Printing → Type 0
AddsBy false false text old new = Grows text old new
AddsBy false true text old new = BreaksOff text old new
AddsBy true false text old new = ⊥
AddsBy true true text old new = StandsStill old new

pub record Adds (text : List ℕ) (old new : Printing) : Type 0 where
  pub by : AddsBy old.page.failed new.page.failed text old new

-- texts one after another
abbrev pub joined : List (List ℕ) → List ℕ
joined [] = []
joined (text ∷ texts) = text ++ joined texts

abbrev pub part_text : part.Part → List ℕ
part_text (part.TheVariants.Text text) = text.now
part_text (part.TheVariants.Number n) = decimal n
part_text (part.TheVariants.Signed n) = signed_decimal n

-- the text of parts, one after another
abbrev pub parts_text : List part.Part → List ℕ
parts_text parts = flat_map part_text parts
