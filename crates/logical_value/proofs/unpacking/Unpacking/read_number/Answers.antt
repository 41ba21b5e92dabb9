use Rattle.logical_value.specs.Unpacking.{left_of}
use Rattle.logical_value.proofs.UnpackingLemmas.{read-number}
use Rattle.logical_value.proofs.unpacking.Unpacking.read_number.Goals as goal

pub returns-clause-number : goal.returns-clause-number
returns-clause-number c = λ few there.
    read-number c.args.width (left_of c.args.self.now) c.in_ok-bits.bits c.number.result c.unwrap_or-number.result c.try_from.result _ _ c.unwrap_or.result
    (c.in_ok-bits.ensures.bits there) c.number.ensures c.unwrap_or-number.ensures c.try_from.ensures c.unwrap_or.ensures few
