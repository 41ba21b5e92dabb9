use Rattle.std.proofs.Common.{Option, Err, sym, subst, Bor, rules, tests}
use Rattle.std.specs.Option.{option_copied}
use Rattle.logical_types.specs.Tree.{plain_of_stream}
use Rattle.til_resolve.specs.PlainProject.{plain_port, plain_project}
use Rattle.til_resolve.specs.PortTypes.{IsPortType}
use Rattle.link_check.specs.declared.leaf.LeafPort.{LeafPort}
use Rattle.type_split.specs.Streams.{clash_of}
use Rattle.tydi_tool.specs.Designs.{ClashRead}
use Rattle.tydi_tool.specs.Ports.{split_unless}
use Rattle.tydi_tool.specs.Reading.{IsRefusedBy, ReadsAs, refusal_in}
use Rattle.tydi_tool.proofs.DesignLemmas.{leaf-typed}
use Rattle.tydi_tool.proofs.DesignSteps.{two-told}
use Rattle.tydi_tool.proofs.designs.check_apart.Goals as goal

pub split_apart-requires : goal.split_apart-requires
split_apart-requires c =
    subst (λ t. IsPortType (plain_of_stream t)) (sym c.deref.ensures)
    (leaf-typed (plain_project c.args.project.now) c.requires c.in-Some.source.now (plain_port c.in-Some-find_port.port.now) (sym c.in-Some-find_port.ensures))

pub returns : goal.returns
returns c =
    let refused = subst (λ t. IsRefusedBy (refusal_in (split_unless (plain_of_stream t) (clash_of (plain_of_stream t)))) c.in-Err.reply) c.deref.ensures c.in-Err.ensures.split in
    subst (λ (l : Option (Bor LeafPort)). ReadsAs (ClashRead (plain_project c.args.project.now).streamlets (option_copied l)) (Err c.in-Err.reply)) (sym c.in-Some.is)
    (two-told (plain_project c.args.project.now).streamlets c.in-Some.source.now (plain_port c.in-Some-find_port.port.now) c.in-Err.reply
    (c.is_source.ensures.0 (search (rules, tests))) (sym c.in-Some-find_port.ensures) refused)
