use Rattle.til_resolve.specs.Project.{IsStreamletOf, Pairwise, streamlets_before}
use Rattle.til_resolve.specs.Scope.{declarations_of}
use Rattle.til_resolve.proofs.streamlets.all_streamlets.Given as goal

abbrev pub invariant-numbers : goal.invariant-numbers
invariant-numbers l = Pairwise (IsStreamletOf (declarations_of l.scope.declared)) (streamlets_before (declarations_of l.scope.declared) l.number) l.streamlets
