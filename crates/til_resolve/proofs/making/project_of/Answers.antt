use Rattle.til_resolve.specs.Project.{streamlet_numbers}
use Rattle.til_resolve.specs.Scope.{declarations_of}
use Rattle.til_resolve.proofs.NumberedLemmas.{streamlets-numbered}
use Rattle.til_resolve.proofs.making.project_of.Goals as goal

pub invariant_of-result : goal.invariant_of-result
invariant_of-result c =
    let all = declarations_of c.args.scope.now.declared in
    record { numbered = ∣ streamlets-numbered all (streamlet_numbers all) c.in_ok-streamlets.streamlets c.in_ok-streamlets.ensures ∣₁ }
