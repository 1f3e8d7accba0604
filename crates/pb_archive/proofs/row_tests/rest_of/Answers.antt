use Rattle.std.proofs.Common.{◌≡◌, ℕ, Bool, true, false, List, sym, ◌∙◌}
use Rattle.std.proofs.lemmas.Bool.{false≢true}
use Rattle.pb_archive.specs.Reader.{Reader, HasRows, ReadRow}
use Rattle.pb_archive.specs.Rows.{SeenRow}
use Rattle.pb_archive.proofs.row_tests.rest_of.Goals as goal

goes_on : (new : Reader) (file : List ℕ) (all : List SeenRow) (more : Bool) → more ≡ true → ReadRow new file all more → HasRows new file
goes_on new file all true is read = (read.1, read.4)
goes_on new file all false is read = absurd (false≢true is)

pub next-requires : goal.next-requires
next-requires g c f view = c.loop-found.invariant.rows f (sym c.loop-found.invariant.same ∙ view)

pub loop-found-preserved : goal.loop-found-preserved
loop-found-preserved g c = record {
  rows = λ f view.
      let has = c.loop-found.invariant.rows f view in
      goes_on c.next.new.self f has.0 _ c.in-Ok-true.field-0-test (c.in-Ok-true.ensures.read f has.0 (c.loop-found.invariant.same ∙ view) has.1);
  same = c.next.ensures.disk.file ∙ c.loop-found.invariant.same;
}
