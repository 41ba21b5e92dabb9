use Rattle.std.proofs.Common.{ap, sym, ◌∙◌}
use Rattle.std.specs.Ordering.{is_eq}
use Rattle.til_resolve.specs.OrderLaws.{by_path-ties}
use Rattle.til_resolve.proofs.ordered.OrderedPathPartialEq.eq.Goals as goal

pub returns : goal.returns
returns c = c.is_eq.ensures ∙ ap is_eq c.cmp.ensures ∙ sym (by_path-ties c.args.self.now c.args.other.now)
