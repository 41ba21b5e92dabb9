use Rattle.std.proofs.Common.{◌≡◌, ◌++◌, take}
use Rattle.til_resolve.specs.Declarations.{declaration}
use Rattle.til_resolve.specs.Graph.{kinds_named}
use Rattle.til_resolve.specs.Kinds.{asks}
use Rattle.til_resolve.specs.PathsWritten.{seen}
use Rattle.til_resolve.specs.Scope.{declarations_of}
use Rattle.til_resolve.proofs.type_graph.add_named.Given as goal

abbrev pub invariant-paths : goal.invariant-paths
invariant-paths l = l.targets ≡ l.initial.targets ++ kinds_named (asks l.asked) (declarations_of l.scope.declared) (declaration (declarations_of l.scope.declared) l.number).space
    (seen (take l.path-index l.paths))
