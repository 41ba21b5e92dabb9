use Rattle.vhdl_text.proofs.PartLemmas.{benches-parts, processes-parts}
use Rattle.vhdl_text.proofs.parts.benches_have_parts.Goals as goal

pub returns-clause-processes : goal.returns-clause-processes
returns-clause-processes c = processes-parts

pub returns-clause-benches : goal.returns-clause-benches
returns-clause-benches c = benches-parts
