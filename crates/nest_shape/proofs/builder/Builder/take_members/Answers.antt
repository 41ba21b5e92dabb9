use Rattle.std.proofs.Common.{sym, ◌∙◌}
use Rattle.nest_shape.proofs.BuildingLemmas.{Takes-none, Takes-last}
use Rattle.nest_shape.proofs.builder.Builder.take_members.Goals as goal

pub returns-then-not-has_open-clause-taken : goal.returns-then-not-has_open-clause-taken
returns-then-not-has_open-clause-taken c = λ dims within falls.
    Takes-none dims c.args.depth c.args.self.now.begun c.new.result within c.new.ensures
    (λ front innermost is. sym (c.has_open.ensures front innermost is) ∙ c.if-not-has_open.true) falls

pub returns-in-Some-clause-taken : goal.returns-in-Some-clause-taken
returns-in-Some-clause-taken c = λ dims within falls.
    Takes-last dims c.args.depth c.args.self.now.begun c.pop.new.self c.in-Some.field-0 c.in-Some.ensures
    (sym (c.has_open.ensures c.pop.new.self c.in-Some.field-0 c.in-Some.ensures) ∙ c.if-not-has_open.false) falls
