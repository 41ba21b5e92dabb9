use Rattle.std.proofs.Common.{◌∙◌, ℕ, Option, sym, ap}
use Rattle.vcd_read.specs.History.{is_same_time}
use Rattle.vcd_read.proofs.DumpLemmas.{after-new, after-same}
use Rattle.vcd_read.proofs.SamplerLemmas.{block-sampler, can-sampler}
use Rattle.vcd_read.proofs.dump.Dump.stamp.Goals as goal

pub returns-then-is_same-clause-stands : goal.returns-then-is_same-clause-stands
returns-then-is_same-clause-stands c wanted parts is =
    let old = c.args.self.now in
    after-same wanted old.scopes old.ended old.wires old.variables old.times old.sampler parts is c.args.offset c.args.time c.with-times.result
    c.with-times.ensures.last c.with-times.ensures.back (sym c.is_same.ensures ∙ c.if-is_same.true)

pub returns-clause-stands : goal.returns-clause-stands
returns-clause-stands c wanted parts is =
    let old = c.args.self.now in
    after-new wanted old.scopes old.ended old.wires old.variables old.times old.sampler parts is c.args.offset c.args.time c.with-times.result
    c.with-times.ensures.last c.with-times.ensures.back c.begin_block.new.self c.end_block.new.self (sym c.is_same.ensures
    ∙ c.if-is_same.false) c.begin_block.ensures.codes
    (c.begin_block.ensures.stands parts c.args.offset c.args.time is.wires_are (ap (λ (o : Option ℕ). is_same_time o c.args.time) (sym is.last)
    ∙ sym c.is_same.ensures ∙ c.if-is_same.false))
    (block-sampler wanted old.wires.codes old.wires.wires old.wires.block parts is.wires_are old.sampler c.end_block.new.self (sym is.ended_is
    ∙ c.requires.ended) is.sampled c.in_ok-end_block.ensures)

pub end_block-requires : goal.end_block-requires
end_block-requires c =
    let old = c.args.self.now in let is = c.requires.stands.1.1 in
    can-sampler c.requires.stands.0 old.wires.codes old.wires.wires old.wires.block c.requires.stands.1.0 is.wires_are old.sampler is.sampled
