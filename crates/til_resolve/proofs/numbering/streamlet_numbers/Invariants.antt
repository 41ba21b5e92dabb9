use Rattle.std.proofs.Common.{◌≡◌}
use Rattle.til_resolve.specs.Making.{numbers_before}
use Rattle.til_resolve.specs.Project.{streamlet_number}
use Rattle.til_resolve.specs.Scope.{declarations_of}
use Rattle.til_resolve.proofs.numbering.streamlet_numbers.Given as goal

abbrev pub invariant-numbers : goal.invariant-numbers
invariant-numbers l = record {
  table : l.table ≡ numbers_before (declarations_of l.scope.declared) l.number;
  count : l.count ≡ streamlet_number (declarations_of l.scope.declared) l.number;
}
