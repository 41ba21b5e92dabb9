use Rattle.std.proofs.Common.{Some, None, Result, option_copied, ap, sym, subst, ◌∙◌}
use Rattle.logical_types.specs.declared.ltype.StreamType.{StreamType}
use Rattle.logical_types.specs.Tree.{plain_of_stream}
use Rattle.til_resolve.specs.PlainProject.{plain_port, plain_project}
use Rattle.til_resolve.specs.PortTypes.{IsPortType}
use Rattle.type_split.specs.Streams.{PlainSplit, clash_of, plain_split}
use Rattle.tydi_tool.specs.Ports.{split_unless}
use Rattle.tydi_tool.specs.Reading.{Gives, IsRefusedBy, refusal_in}
use Rattle.tydi_tool.specs.Refusals.{Refusal}
use Rattle.tydi_tool.proofs.PortLemmas.{port_named-at, port_named-type, split_at-none, split_at-some}
use Rattle.tydi_tool.proofs.ports.split_at.Goals as goal

pub split_apart-requires : goal.split_apart-requires
split_apart-requires c =
    let named = port_named-at c.args.project.now c.args.port.now c.args.path.now (Some c.in-Some.found.now) c.requires.path (sym (ap option_copied c.in-Some.is) ∙ c.port.ensures) in
    subst (λ (ltype : StreamType). IsPortType (plain_of_stream ltype)) (sym c.deref.ensures)
    (port_named-type (plain_project c.args.project.now) c.args.port.now c.args.path.now (plain_port c.in-Some.found.now) c.requires.sound.types c.requires.path named)

pub returns-in-Some-clause-split : goal.returns-in-Some-clause-split
returns-in-Some-clause-split c =
    let named = port_named-at c.args.project.now c.args.port.now c.args.path.now (Some c.in-Some.found.now) c.requires.path (sym (ap option_copied c.in-Some.is) ∙ c.port.ensures) in
    subst (λ (w : Result PlainSplit Refusal). Gives plain_split w c.split_apart.result)
    (sym (split_at-some (plain_project c.args.project.now) c.args.port.now (plain_port c.in-Some.found.now) named
    ∙ ap (λ (ltype : StreamType). split_unless (plain_of_stream ltype) (clash_of (plain_of_stream ltype))) (sym c.deref.ensures)))
    c.split_apart.ensures.split

pub returns-in-None-clause-split : goal.returns-in-None-clause-split
returns-in-None-clause-split c =
    let named = port_named-at c.args.project.now c.args.port.now c.args.path.now None c.requires.path (sym (ap option_copied c.in-None.is) ∙ c.port.ensures) in
    subst (λ (w : Result PlainSplit Refusal). IsRefusedBy (refusal_in w) c.no_port.result) (sym (split_at-none (plain_project c.args.project.now) c.args.port.now named)) c.no_port.ensures
