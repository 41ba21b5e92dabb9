use Rattle.std.proofs.Common.{◌∙◌, sym}
use Rattle.vcd_read.proofs.SamplerLemmas.{block-sampler, can-sampler}
use Rattle.vcd_read.proofs.dump.Dump.conclude.Goals as goal

pub end_block-requires : goal.end_block-requires
end_block-requires c =
    let old = c.args.self in let is = c.requires.stands.1.1 in
    can-sampler c.requires.stands.0 old.wires.codes old.wires.wires old.wires.block c.requires.stands.1.0 is.wires_are old.sampler is.sampled

pub returns : goal.returns
returns c wanted parts is =
    let old = c.args.self in
    c.tell.ensures wanted old.wires.codes parts
    (block-sampler wanted old.wires.codes old.wires.wires old.wires.block parts is.wires_are old.sampler c.end_block.new.self (sym is.ended_is
    ∙ c.requires.ended) is.sampled c.in_ok-end_block.ensures)
