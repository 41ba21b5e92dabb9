use Rattle.std.proofs.Common.{map, subst}
use Rattle.til_resolve.specs.PlainProject.{plain_streamlet}
use Rattle.link_check.specs.Steps.{IsNext}
use Rattle.link_check.proofs.StepLemmas.{come-end, come-on}
use Rattle.link_check.proofs.nets.Nets.end_of.Goals as goal

pub returns-in-None : goal.returns-in-None
returns-in-None c =
    come-end (map plain_streamlet c.args.streamlets.now) c.args.self.now c.args.source.now c.nets.at c.requires.nets c.requires.source c.nets.invariant
    (subst (IsNext (map plain_streamlet c.args.streamlets.now) c.args.self.now.impls c.nets.at) c.in-None.is c.in_ok-next.ensures)

pub nets-preserved : goal.nets-preserved
nets-preserved c =
    come-on (map plain_streamlet c.args.streamlets.now) c.args.self.now c.args.source.now c.nets.at c.in-Some.next c.nets.invariant
    (subst (IsNext (map plain_streamlet c.args.streamlets.now) c.args.self.now.impls c.nets.at) c.in-Some.is c.in_ok-next.ensures)
