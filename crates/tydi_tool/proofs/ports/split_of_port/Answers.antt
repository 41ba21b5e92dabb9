use Rattle.std.proofs.Common.{Result, sym, ap, subst, ◌∙◌}
use Rattle.til_resolve.specs.PlainProject.{plain_project}
use Rattle.type_split.specs.Streams.{PlainSplit}
use Rattle.tydi_tool.specs.Ports.{port_path}
use Rattle.tydi_tool.specs.Reading.{IsRefusedBy, refusal_in}
use Rattle.tydi_tool.specs.Refusals.{Refusal}
use Rattle.tydi_tool.proofs.PortLemmas.{port_named-none, split_at-none}
use Rattle.tydi_tool.proofs.ports.split_of_port.Goals as goal

pub returns-in-Ok-None-clause-split : goal.returns-in-Ok-None-clause-split
returns-in-Ok-None-clause-split c =
    subst (λ (w : Result PlainSplit Refusal). IsRefusedBy (refusal_in w) c.no_port.result)
    (sym (split_at-none (plain_project c.args.project.now) c.args.port.now (port_named-none (plain_project c.args.project.now) c.args.port.now (ap port_path (sym c.as_bytes.ensures) ∙ sym c.in-Ok-None.ensures ∙ c.in-Ok-None.field-0-is)))) c.no_port.ensures
