use Rattle.tydi_tool.proofs.carry.carry_between.Goals as goal

pub returns-in-Ok : goal.returns-in-Ok
returns-in-Ok g c = record { decided = c.carry_with.ensures.decided c.args.heads c.in-Ok.ensures }
