use Rattle.std.proofs.Common.{map, sym, ◌∙◌}
use Rattle.til_resolve.specs.PlainProject.{plain_streamlet}
use Rattle.link_check.proofs.StepLemmas.{next-inside, next-ok}
use Rattle.link_check.proofs.nets.Nets.next.Goals as goal

pub returns-in-None : goal.returns-in-None
returns-in-None c =
    next-ok (map plain_streamlet c.args.streamlets.now) c.args.self.now c.args.at.now c.next_outside.result c.requires
    (sym c.in_ok-next_inside.ensures ∙ c.in-None.is) c.next_outside.ensures

pub returns-in-Some : goal.returns-in-Some
returns-in-Some c =
    next-inside (map plain_streamlet c.args.streamlets.now) c.args.self.now c.args.at.now c.in-Some.next (sym c.in_ok-next_inside.ensures ∙ c.in-Some.is)
