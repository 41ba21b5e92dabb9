use Rattle.tydi_tool.proofs.RefusalLemmas.{refusal_line-written}
use Rattle.tydi_tool.proofs.refusal.fault_line.Goals as goal

pub returns : goal.returns
returns c = refusal_line-written c.args.name.now c.args.details.now _ _ c.new-line.ensures c.in_ok-emit.ensures.ok
