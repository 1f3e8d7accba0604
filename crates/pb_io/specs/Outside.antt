-- What the outside of a call reports at one moment: its source, its sink, and its site.
use Rattle.std.specs.Prelude.{ℕ, List, Option}
use Rattle.pb_io.specs.View.{View}
use Rattle.pb_io.specs.declared.disk.Disk as disk
use Rattle.pb_io.specs.declared.sink.Sink as sink
use Rattle.pb_io.specs.declared.source.Source as source

-- of a source: the bytes that are left, how often a read found the end, and how often one has failed
pub record Input : Type 0 where
  pub left : Option (List ℕ)
  pub ends : ℕ
  pub faults : ℕ

-- of a sink: the bytes that were written, and how often a write has failed
pub record Output : Type 0 where
  pub written : Option (List ℕ)
  pub faults : ℕ

pub record Outside : Type 1 where
  pub site : View
  pub input : Input
  pub out : Output

-- the streams of what has no site
pub record Streams : Type 0 where
  pub input : Input
  pub out : Output

-- the site and the sink of what has no source
pub record Talk : Type 1 where
  pub site : View
  pub out : Output

abbrev pub streams_of : Outside → Streams
streams_of o = record { input = o.input; out = o.out }

abbrev pub talk_of : Outside → Talk
talk_of o = record { site = o.site; out = o.out }

abbrev pub input_view : {I : Type 0} → source.Ghosts I → I → Input
input_view i input = record { left = i.left input; ends = i.ends input; faults = i.read_faults input }

abbrev pub output_view : {O : Type 0} → sink.Ghosts O → O → Output
output_view o out = record { written = o.written out; faults = o.write_faults out }

abbrev pub outside : {S I O : Type 0} → disk.Ghosts S → source.Ghosts I → sink.Ghosts O → S → I → O → Outside
outside s i o site input out = record { site = s.view site; input = input_view i input; out = output_view o out }

abbrev pub streams : {I O : Type 0} → source.Ghosts I → sink.Ghosts O → I → O → Streams
streams i o input out = record { input = input_view i input; out = output_view o out }

abbrev pub talk : {S O : Type 0} → disk.Ghosts S → sink.Ghosts O → S → O → Talk
talk s o site out = record { site = s.view site; out = output_view o out }
