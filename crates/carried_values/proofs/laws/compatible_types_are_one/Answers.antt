use Rattle.carried_values.proofs.CompatibleLemmas.{types_are_one}
use Rattle.carried_values.proofs.HeadLemmas.{ports_clash}
use Rattle.carried_values.proofs.laws.compatible_types_are_one.Goals as goal

pub returns-clause-types : goal.returns-clause-types
returns-clause-types c = types_are_one

pub returns-clause-clash : goal.returns-clause-clash
returns-clause-clash c = ports_clash
