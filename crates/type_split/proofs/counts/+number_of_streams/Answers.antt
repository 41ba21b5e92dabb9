use Rattle.std.proofs.Common.{◌≡◌, ◌-◌, ◌^◌, min, drop, ap, sym, ◌∙◌, arith}
use Rattle.logical_types.specs.Tree.{Ltype, plain, plain_parts}
use Rattle.logical_types.proofs.PlainLemmas.{plain-Group, plain-Union, plain_parts-past}
use Rattle.type_split.specs.Nodes.{number_of_streams, streams_in_parts}
use Rattle.type_split.proofs.counts.+number_of_streams.Goals as goal

pub number_of_streams-returns-in-Group : goal.number_of_streams-returns-in-Group
number_of_streams-returns-in-Group t c = c.streams_in_parts.ensures ∙ ap (λ parts. min (streams_in_parts (plain_parts parts)) (2 ^ 64 - 1)) c.as_slice.ensures
    ∙ ap (λ (t : Ltype). min (number_of_streams t) (2 ^ 64 - 1)) (sym (plain-Group c.in-Group.parts)) ∙ ap (λ ltype. min (number_of_streams (plain ltype)) (2 ^ 64 - 1)) (sym c.in-Group.is)

pub number_of_streams-returns-in-Union : goal.number_of_streams-returns-in-Union
number_of_streams-returns-in-Union t c = c.streams_in_parts-in-Union.ensures ∙ ap (λ parts. min (streams_in_parts (plain_parts parts)) (2 ^ 64 - 1)) c.as_slice-in-Union.ensures
    ∙ ap (λ (t : Ltype). min (number_of_streams t) (2 ^ 64 - 1)) (sym (plain-Union c.in-Union.parts)) ∙ ap (λ ltype. min (number_of_streams (plain ltype)) (2 ^ 64 - 1)) (sym c.in-Union.is)

pub streams_in_parts-returns : goal.streams_in_parts-returns
streams_in_parts-returns t c =
    let none : streams_in_parts (plain_parts (drop c.parts.part-index c.args.parts.now)) ≡ 0 = ap streams_in_parts (plain_parts-past c.args.parts.now c.parts.part-index c.parts-test.false) in
    omega (arith, c.parts.invariant.fits, c.parts.invariant.same, none)
