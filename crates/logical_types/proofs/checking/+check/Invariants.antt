use Rattle.std.proofs.Common.{◌≡◌, drop}
use Rattle.logical_types.specs.Tree.{plain_parts}
use Rattle.logical_types.specs.Faults.{faults_of_parts}
use Rattle.logical_types.proofs.checking.+check.Given as goal

-- the parts so far have no fault, so the errors of all are those of the parts that are left
abbrev pub invariant-check_parts-parts : goal.invariant-check_parts-parts
invariant-check_parts-parts l = faults_of_parts l.around (plain_parts (drop l.part-index l.parts)) ≡ faults_of_parts l.around (plain_parts l.parts)
