use Rattle.std.proofs.Common.{◌≡◌, take}
use Rattle.til_resolve.specs.Paths.{texts_of}
use Rattle.til_resolve.proofs.streamlets.path_of.Given as goal

abbrev pub invariant-names : goal.invariant-names
invariant-names l = l.names ≡ texts_of (take l.name-index l.name-items)
