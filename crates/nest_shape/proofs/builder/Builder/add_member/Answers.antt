use Rattle.std.proofs.Common.{◌∙◌, sym}
use Rattle.std.proofs.lemmas.Result.{on_ok_weaker}
use Rattle.nest_shape.proofs.BuildingLemmas.{AddsTo-pushed, AddsTo-taken, Takes-none}
use Rattle.nest_shape.proofs.builder.Builder.add_member.Goals as goal

pub returns-then-has_open-clause-added : goal.returns-then-has_open-clause-added
returns-then-has_open-clause-added c =
    on_ok_weaker c.push_innermost.result
    (λ pushed. λ dims within falls deep.
    AddsTo-pushed dims c.args.depth c.args.self.now.begun c.push_innermost.new.begun c.args.nest pushed
    (sym (c.has_open.ensures pushed.front pushed.innermost pushed.was) ∙ c.if-has_open.true) falls deep)
    c.push_innermost.ensures

pub returns-clause-added : goal.returns-clause-added
returns-clause-added c =
    on_ok_weaker c.push-2.result
    (λ pushed. λ dims within falls deep.
    AddsTo-taken dims c.args.depth c.args.self.now.begun c.args.self.now.begun c.push-2.new.self c.new-members.result c.push.new.self c.args.nest
    (Takes-none dims c.args.depth c.args.self.now.begun c.new-members.result within c.new-members.ensures
    (λ front innermost is. sym (c.has_open.ensures front innermost is) ∙ c.if-has_open.false) falls) c.in_ok-push.ensures.ok pushed deep)
    c.push-2.ensures.ok
