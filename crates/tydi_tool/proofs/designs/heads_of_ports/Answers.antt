use Rattle.std.proofs.Common.{subst}
use Rattle.logical_types.specs.Tree.{plain_of_stream}
use Rattle.til_resolve.specs.PlainProject.{plain_port}
use Rattle.type_split.specs.Streams.{clash_of, plain_split}
use Rattle.tydi_tool.specs.Ports.{split_unless}
use Rattle.tydi_tool.specs.Reading.{IsRefusedBy, refusal_in}
use Rattle.std.proofs.Common.{◌≡◌, Ok}
use Rattle.tydi_tool.proofs.DesignSteps.{last-wanted, types-heads}
use Rattle.tydi_tool.proofs.designs.heads_of_ports.Goals as goal

pub returns-in-Ok-split_apart : goal.returns-in-Ok-split_apart
returns-in-Ok-split_apart c =
    let one = (plain_port c.args.one.now).ltype in
    let other = (plain_port c.args.other.now).ltype in
    types-heads one other (c.compatible_types_are_one.ensures.clash one other c.requires.compatible) c.requires.apart (plain_split c.in-Ok.source) (plain_split c.in-Ok-split_apart.sink)
    c.heads_of_splits.result
    (subst (λ t. split_unless (plain_of_stream t) (clash_of (plain_of_stream t)) ≡ Ok (plain_split c.in-Ok.source)) c.deref.ensures c.in-Ok.ensures.split)
    (subst (λ t. split_unless (plain_of_stream t) (clash_of (plain_of_stream t)) ≡ Ok (plain_split c.in-Ok-split_apart.sink)) c.deref-in-Ok.ensures c.in-Ok-split_apart.ensures.split)
    c.heads_of_splits.ensures

pub returns-in-Ok : goal.returns-in-Ok
returns-in-Ok c =
    let one = (plain_port c.args.one.now).ltype in
    let other = (plain_port c.args.other.now).ltype in
    last-wanted one other (c.compatible_types_are_one.ensures.clash one other c.requires.compatible) c.requires.apart c.in-Err-split_apart.reply
    (subst (λ t. IsRefusedBy (refusal_in (split_unless (plain_of_stream t) (clash_of (plain_of_stream t)))) c.in-Err-split_apart.reply) c.deref-in-Ok.ensures
    c.in-Err-split_apart.ensures.split)
