use Rattle.tydi_tool.proofs.DecodeLawLemmas.{carried-written, driven-read_back, levels-keep, written-carried}
use Rattle.tydi_tool.proofs.laws.values_are_read_back.Goals as goal

pub returns-clause-written : goal.returns-clause-written
returns-clause-written c = λ known project port trace text says. written-carried known project port trace text says

pub returns-clause-carried : goal.returns-clause-carried
returns-clause-carried c = λ known project port trace split read value all carried. carried-written known project port trace split read value all carried

pub returns-clause-driven : goal.returns-clause-driven
returns-clause-driven c = λ known project port value plan text says. driven-read_back known project port value plan text says

pub returns-clause-levels : goal.returns-clause-levels
returns-clause-levels c = λ split value low high raised legal whole carries. levels-keep split value low high raised legal whole carries
