use Rattle.std.proofs.Common.{sym, ap, ◌∙◌, slice_get}
use Rattle.vhdl_text.proofs.StreamLemmas.{number-is}
use Rattle.vhdl_text.proofs.streams.Streams.number_of.Goals as goal

pub returns-then-is_at : goal.returns-then-is_at
returns-then-is_at c =
    let there = c.is_at.ensures c.if-is_at.true in
    let at = ap (λ paths. slice_get paths c.in-Some.place.now) (sym (c.as_slice.ensures ∙ c.requires.named.paths)) ∙ there in
    sym (number-is c.args.self.now.heads c.args.path.now c.in-Some.place.now c.requires.named.apart at)
