use Rattle.std.proofs.Common.{arith}
use Rattle.nest_shape.proofs.BuildingLemmas.{IsSeriesOf-all, LeavesOpen-level}
use Rattle.nest_shape.proofs.builder.Builder.finish.Goals as goal

pub returns-then-level-dims : goal.returns-then-level-dims
returns-then-level-dims c = λ done stands.
    IsSeriesOf-all c.args.self.dims c.args.self.level c.args.self.begun c.take_members.new.self.begun c.take_members.result done stands c.if-level-dims.true
    (λ falls. c.take_members.ensures.taken c.args.self.dims (omega arith) falls)

pub returns : goal.returns
returns c = λ done stands. LeavesOpen-level c.args.self.dims c.args.self.level c.args.self.begun done stands c.if-level-dims.false
