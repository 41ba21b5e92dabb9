use Rattle.std.proofs.Common.{map, take}
use Rattle.til_resolve.specs.Earliest.{IsEarliest}
use Rattle.til_resolve.specs.Faults.{HasTypeAt}
use Rattle.til_resolve.specs.Scope.{declarations_of}
use Rattle.til_resolve.specs.Shapes.{IsMisshapen}
use Rattle.til_resolve.specs.Written.{written_type}
use Rattle.til_resolve.proofs.misshapen.first_misshapen.Given as goal

abbrev pub invariant-written : goal.invariant-written
invariant-written l = IsEarliest (HasTypeAt (IsMisshapen l.sort) (map (written_type (declarations_of l.scope.declared)) (take l.one-index l.written))) l.found
