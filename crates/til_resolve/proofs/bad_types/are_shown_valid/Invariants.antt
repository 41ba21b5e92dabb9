use Rattle.std.proofs.Common.{All, take}
use Rattle.logical_types.specs.Summary.{IsShownValid}
use Rattle.til_resolve.specs.Scope.{declarations_of}
use Rattle.til_resolve.specs.Written.{ltype_of}
use Rattle.til_resolve.proofs.bad_types.are_shown_valid.Given as goal

-- each of the types so far is shown to be valid
abbrev pub invariant-written : goal.invariant-written
invariant-written l = All (λ one. IsShownValid (ltype_of (declarations_of l.scope.declared) one)) (take l.one-index l.written)
