use Rattle.std.proofs.Common.{◌≡◌, take}
use Rattle.til_resolve.specs.Project.{tests_in}
use Rattle.til_resolve.specs.Scope.{declarations_of}
use Rattle.til_resolve.proofs.written_tests.all_tests.Given as goal

abbrev pub invariant-numbers : goal.invariant-numbers
invariant-numbers l = l.tests ≡ tests_in (declarations_of l.scope.declared) (take l.number (declarations_of l.scope.declared))
