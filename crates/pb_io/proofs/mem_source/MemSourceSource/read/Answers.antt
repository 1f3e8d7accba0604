use Rattle.std.proofs.Common.{arith, ◌≡◌, take, drop, ◌∙◌, length-drop}
use Rattle.std.proofs.lemmas.Grind.{common_steps}
use Rattle.pb_io.proofs.SourceLemmas.{read_consumes, read_at_end}
use Rattle.pb_io.proofs.mem_source.MemSourceSource.read.Goals as goal

pub returns-clause-bytes : goal.returns-clause-bytes
returns-clause-bytes c =
    let all = c.self.inside.bytes.items in
    let at = c.self.inside.at in
    let n = c.min-n.result in
    let to = c.args.to.now in
    let copied : c.copy_from_slice.new.self ≡ take n (drop at all) = grind (arith, common_steps) in
    let left : c.args.self.now.left ≡ drop at all = cc in (
      left ∙ read_consumes all _ (drop n to) at n (omega (arith, length-drop at all)) copied,
      λ none room. read_at_end all _ to at n c.self.inside.chunk (omega arith) (omega (arith, length-drop at all)) copied none room,
    )
