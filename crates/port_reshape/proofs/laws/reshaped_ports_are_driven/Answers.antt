use Rattle.port_reshape.proofs.PortLemmas.{far_splits_are_far, ready_sources_reshape, reshaped_texts_are_driven}
use Rattle.port_reshape.proofs.laws.reshaped_ports_are_driven.Goals as goal

pub returns-clause-driven : goal.returns-clause-driven
returns-clause-driven c = reshaped_texts_are_driven

pub returns-clause-far : goal.returns-clause-far
returns-clause-far c = far_splits_are_far

pub returns-clause-ready : goal.returns-clause-ready
returns-clause-ready c = ready_sources_reshape
