use Rattle.std.proofs.Common.{Contains, take}
use Rattle.til_resolve.specs.Declarations.{declaration}
use Rattle.til_resolve.specs.Earliest.{IsEarliest}
use Rattle.til_resolve.specs.PathsWritten.{seen}
use Rattle.til_resolve.specs.Scope.{declarations_of}
use Rattle.til_resolve.specs.Sought.{refused_of}
use Rattle.til_resolve.proofs.names.of_paths.Given as goal

abbrev pub invariant-paths : goal.invariant-paths
invariant-paths l = IsEarliest (Contains (refused_of l.sought (declarations_of l.scope.declared) (declaration (declarations_of l.scope.declared) l.number).space l.asked
    (seen (take l.path-index l.paths)))) l.found
