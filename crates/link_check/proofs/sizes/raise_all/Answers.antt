use Rattle.std.proofs.Common.{map, inl, ◌+◌, arith}
use Rattle.til_resolve.specs.PlainProject.{plain_streamlet}
use Rattle.link_check.proofs.CountLemmas.{raises, covers-next}
use Rattle.link_check.proofs.sizes.raise_all.Goals as goal

pub numbers-preserved : goal.numbers-preserved
numbers-preserved c =
    let streamlets = map plain_streamlet c.args.streamlets.now in
    let before = c.numbers.invariant in
    let down = raises streamlets c.args.counts.now c.numbers.counts c.raise_at-raised.new.counts _ c.numbers.number c.numbers.number c.numbers.raised c.raise_at-raised.result
    (omega (arith, c.requires, c.numbers-test.true)) c.raise_at-raised.ensures (λ n low. inl low)
    (record { long = before.long; below = before.below; settled = before.settled; less = before.less }) in
    let up = raises streamlets c.args.counts.now c.raise_at-raised.new.counts c.raise_at-raised-in-numbers.new.counts c.numbers.number c.numbers.number (c.numbers.number + 1) _ c.raise_at-raised-in-numbers.result
    (omega (arith, c.requires, c.numbers-test.true)) c.raise_at-raised-in-numbers.ensures (λ n low. covers-next c.numbers.number n low) down in
    record { long = up.long; below = up.below; settled = up.settled; less = up.less }
