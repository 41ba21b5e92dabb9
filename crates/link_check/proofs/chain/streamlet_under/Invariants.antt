use Rattle.std.proofs.Common.{◌≡◌, drop, map}
use Rattle.til_resolve.specs.PlainProject.{plain_streamlet}
use Rattle.link_check.specs.Chains.{streamlet_under}
use Rattle.link_check.proofs.chain.streamlet_under.Given as goal

-- the names that are left lead from here to where all lead from the top
abbrev pub invariant-names : goal.invariant-names
invariant-names l = streamlet_under (map plain_streamlet l.streamlets) l.number (drop l.name-index l.instances) ≡ streamlet_under (map plain_streamlet l.streamlets) l.top l.instances
