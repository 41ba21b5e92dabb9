use Rattle.port_drive.proofs.DrivenLemmas.{is-driven}
use Rattle.port_drive.proofs.WordLemmas.{words-have-values}
use Rattle.port_drive.proofs.laws.driven_ports_are_legal.Goals as goal

pub returns : goal.returns
returns c = record { legal = λ split value plan runs can drives. is-driven split value plan runs can drives; words = words-have-values }
