use Rattle.std.proofs.Common.{List, length, subst}
use Rattle.til_resolve.specs.declared.chains.Chain.{Chain}
use Rattle.til_resolve.specs.Chains.{AreLinks}
use Rattle.til_resolve.specs.Scope.{declarations_of}
use Rattle.til_resolve.proofs.ChainLemmas.{AreChains-links}
use Rattle.til_resolve.proofs.chains.find_chains.Goals as goal

pub returns-then-are_links : goal.returns-then-are_links
returns-then-are_links c =
    let all = declarations_of c.args.scope.now.declared in
    AreChains-links all c.in_ok-chains.chains (subst (λ (l : List Chain). AreLinks all l (length all)) c.as_slice-3.ensures (c.are_links.ensures.0 c.if-are_links.true))
