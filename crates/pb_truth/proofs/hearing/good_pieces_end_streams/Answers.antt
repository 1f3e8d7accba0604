use Rattle.std.proofs.Common.{◌++◌, refl}
use Rattle.pb_frame.specs.Signature.{start, sig, null}
use Rattle.pb_frame.specs.Framing.{quoted}
use Rattle.pb_truth.proofs.StreamLemmas.{content_ends, ends_later, written_ends, frame_has}
use Rattle.pb_truth.proofs.hearing.good_pieces_end_streams.Goals as goal

pub returns-clause-ends : goal.returns-clause-ends
returns-clause-ends c = content_ends c.law_cut.ensures.whole c.law_pieces.ensures c.law_good.ensures.whole

pub returns-clause-later : goal.returns-clause-later
returns-clause-later c = ends_later

pub returns-clause-has : goal.returns-clause-has
returns-clause-has c = frame_has

pub returns-clause-written : goal.returns-clause-written
returns-clause-written c content size =
    let body = content ++ null (sig content start) in
    written_ends content size ((c.law_quoted.ensures.text body (quoted body)).1 refl) (c.law_nullifier.ensures content)
