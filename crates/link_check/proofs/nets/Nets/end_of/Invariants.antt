use Rattle.std.proofs.Common.{map}
use Rattle.til_resolve.specs.PlainProject.{plain_streamlet}
use Rattle.link_check.specs.Steps.{HasCome}
use Rattle.link_check.proofs.nets.Nets.end_of.Given as goal

-- the chain has come from the source to this port
abbrev pub invariant-nets : goal.invariant-nets
invariant-nets l = HasCome (map plain_streamlet l.streamlets) l.self.impls l.source l.at
