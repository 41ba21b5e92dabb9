use Rattle.til_resolve.proofs.SoundProjectLemmas.{sound-project}
use Rattle.til_resolve.proofs.laws.projects_are_sound.Goals as goal

pub returns : goal.returns
returns c = sound-project
