use Rattle.std.proofs.Common.{refl, sym, ap, subst, ◌∙◌}
use Rattle.std.specs.Prelude.{slice_get}
use Rattle.pb_archive.specs.Opened.{OpenArchive, Stands, register_of}
use Rattle.pb_archive.proofs.ReaderLemmas.{begins_at}
use Rattle.pb_archive.proofs.archive.Archive.read.Goals as goal

pub returns-clause-begins : goal.returns-clause-begins
returns-clause-begins c f stands =
    let here = subst (λ (o : OpenArchive). Stands (register_of o) o.journal.gate f) (sym c.self.view_is) stands in
    let held = c.layout-layout.ensures in
    let front = c.requires.front held.0 (ap (λ (o : OpenArchive). slice_get o.tables c.args.id.0) (sym c.self.view_is) ∙ held.1) in
    begins_at _ _ f here c.args.id.0 c.args.from.0 c.args.to.0 held.0 c.layout-layout.result c.in_ok-start.field-0 _ held.1 front held.2 c.in_ok-start.ensures.reads refl
