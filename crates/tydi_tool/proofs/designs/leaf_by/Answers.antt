use Rattle.std.proofs.Common.{◌≡◌, refl}
use Rattle.tydi_tool.proofs.DesignSteps.{given, leaf-by-last}
use Rattle.tydi_tool.proofs.designs.leaf_by.Goals as goal

pub returns : goal.returns
returns c =
    leaf-by-last c.args.top c.args.names.now c.in-Some.outer.now c.in_ok-instances.instances c.in-Some.port.now c.in_ok-port.port c.in-Some.ensures.cases.0
    (given (λ all. all ≡ c.in-Some.outer.now) c.copies.result c.in_ok-instances.instances c.in_ok-instances.instances c.in_ok-instances.was refl c.copies.ensures)
    (given (λ copy. copy ≡ c.in-Some.port.now) c.try_clone.result c.in_ok-port.port c.in_ok-port.port c.in_ok-port.was refl c.try_clone.ensures)
