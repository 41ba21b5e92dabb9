use Rattle.std.proofs.Common.{option_copied, ap, ◌∙◌}
use Rattle.link_check.specs.Ends.{instance_named}
use Rattle.vhdl_writer.proofs.inside.Inside.instance.Goals as goal

pub returns : goal.returns
returns c = ap option_copied (c.copied.ensures ∙ c.get.ensures.value) ∙ c.args.self.now.found.inside c.new.result ∙ ap (instance_named c.args.self.now.instances.now) c.new.ensures
