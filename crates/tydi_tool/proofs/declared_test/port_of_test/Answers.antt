use Rattle.std.proofs.Common.{ap, sym, ◌∙◌, option_map}
use Rattle.std.specs.Option.{option_copied}
use Rattle.til_resolve.specs.PlainProject.{plain_port, plain_project}
use Rattle.tydi_tool.proofs.TestLemmas.{port-not_none}
use Rattle.tydi_tool.proofs.declared_test.port_of_test.Goals as goal

pub unreachable-requires : goal.unreachable-requires
unreachable-requires c =
    port-not_none (plain_project c.args.project.now) c.args.test.now c.requires (ap (λ o. option_map plain_port (option_copied o)) (sym c.in-None.is) ∙ c.tested.ensures)

pub returns : goal.returns
returns c = sym (ap (λ o. option_map plain_port (option_copied o)) (sym c.in-Some.is) ∙ c.tested.ensures)
