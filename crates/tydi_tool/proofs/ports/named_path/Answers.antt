use Rattle.std.proofs.Common.{true, sym, ◌∙◌}
use Rattle.tydi_base.specs.Path.{path_at}
use Rattle.tydi_tool.proofs.PortLemmas.{some-name}
use Rattle.tydi_tool.proofs.ports.named_path.Goals as goal

pub returns : goal.returns
returns c =
    some-name (path_at true c.args.front.now) c.in-Some.path c.push.new.self c.args.name.now c.in-Some-2.name
    (sym c.in_ok-path.ensures ∙ c.in-Some.is) (sym c.in-Some-2.is ∙ c.in_ok-name.ensures.ok) c.in_ok-push.ensures.ok
