use Rattle.std.proofs.Common.{ap, ◌∙◌}
use Rattle.link_check.specs.Tables.{instance_in, lent_instance}
use Rattle.link_check.proofs.wiring.Wiring.instance.Goals as goal

pub returns : goal.returns
returns c = ap lent_instance (c.copied.ensures ∙ c.get.ensures.value) ∙ c.args.self.now.found.inside c.new.result ∙ ap (instance_in c.args.self.now.instances.now) c.new.ensures
