use Rattle.std.proofs.Common.{sym}
use Rattle.til_resolve.specs.PlainProject.{plain_port, plain_project}
use Rattle.tydi_tool.proofs.DesignLemmas.{leaf-typed}
use Rattle.tydi_tool.proofs.DesignSteps.{compatible-at, heads-between, none-at}
use Rattle.tydi_tool.proofs.designs.heads_of.Goals as goal

pub heads_of_ports-requires-clause-one : goal.heads_of_ports-requires-clause-one
heads_of_ports-requires-clause-one c =
    leaf-typed (plain_project c.args.project.now) c.requires.sound c.args.source.now (plain_port c.in-Some-Some.one.now) (sym c.in-Some-Some.ensures)

pub heads_of_ports-requires-clause-other : goal.heads_of_ports-requires-clause-other
heads_of_ports-requires-clause-other c =
    leaf-typed (plain_project c.args.project.now) c.requires.sound c.args.sink.now (plain_port c.in-Some-Some.other.now) (sym c.in-Some-Some.ensures')

pub heads_of_ports-requires-clause-compatible : goal.heads_of_ports-requires-clause-compatible
heads_of_ports-requires-clause-compatible c =
    let streamlets = (plain_project c.args.project.now).streamlets in
    compatible-at streamlets c.args.source.now c.args.sink.now
    (c.compatible_ports_carry.ensures.chains streamlets c.args.nets.now c.requires.nets c.args.source.now c.args.sink.now c.requires.leads)
    (plain_port c.in-Some-Some.one.now) (plain_port c.in-Some-Some.other.now) (sym c.in-Some-Some.ensures) (sym c.in-Some-Some.ensures')

pub heads_of_ports-requires-clause-apart : goal.heads_of_ports-requires-clause-apart
heads_of_ports-requires-clause-apart c =
    none-at (plain_project c.args.project.now).streamlets c.args.source.now (plain_port c.in-Some-Some.one.now) c.requires.leads.is_source (sym c.in-Some-Some.ensures)
    c.requires.apart

pub returns : goal.returns
returns c =
    let streamlets = (plain_project c.args.project.now).streamlets in
    heads-between streamlets c.args.nets.now c.args.source.now c.args.sink.now
    (c.compatible_ports_carry.ensures.chains streamlets c.args.nets.now c.requires.nets c.args.source.now c.args.sink.now c.requires.leads)
    (plain_port c.in-Some-Some.one.now) (plain_port c.in-Some-Some.other.now) c.heads_of_ports.result c.requires.leads (sym c.in-Some-Some.ensures)
    (sym c.in-Some-Some.ensures') c.heads_of_ports.ensures
