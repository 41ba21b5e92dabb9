use Rattle.std.proofs.Common.{rules, ◌∙◌}
use Rattle.logical_types.proofs.OrderLemmas.{sorted_by, told_in_order}
use Rattle.logical_types.proofs.names.is_name_twice.Goals as goal

pub returns : goal.returns
returns g c =
    let names = g.N.Named.names c.args.parts.now
    in let new = c.sort_unstable_by.new.self
    in told_in_order names c.fill_numbers.new.numbers new c.has_same_neighbours.result
    (c.fill_numbers.ensures.long ∙ c.requires.room) c.fill_numbers.ensures.numbers
    c.sort_unstable_by.ensures.permutation
    (sorted_by names new c.sort_unstable_by.ensures.sorted (λ a r f' called. search rules))
    c.has_same_neighbours.ensures
