use Rattle.pb_archive.proofs.TruthLemmas.{sound_later}
use Rattle.pb_archive.proofs.laws.sound_archives_stay_sound.Goals as goal

pub returns : goal.returns
returns c = sound_later
