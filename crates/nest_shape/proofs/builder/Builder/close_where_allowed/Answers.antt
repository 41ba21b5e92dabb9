use Rattle.nest_shape.proofs.builder.Builder.close_where_allowed.Goals as goal

pub close-requires-clause-placed : goal.close-requires-clause-placed
close-requires-clause-placed c = c.may_close.ensures.takes c.if-may_close.true
