use Rattle.tydi_tool.proofs.DriveLawLemmas.{accepted-driven, written-driven}
use Rattle.tydi_tool.proofs.laws.drives_are_legal.Goals as goal

pub returns-clause-accepted : goal.returns-clause-accepted
returns-clause-accepted c = λ known project port word other split value plan runs accepts. accepted-driven known project port word other split value plan runs accepts

pub returns-clause-written : goal.returns-clause-written
returns-clause-written c = λ known project port value plan text says. written-driven known project port value plan text says
