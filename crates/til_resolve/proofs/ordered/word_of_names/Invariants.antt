use Rattle.std.proofs.Common.{◌≡◌, take}
use Rattle.std.specs.Hash.FoldHasher as hashed
use Rattle.std.specs.List.{fold}
use Rattle.til_resolve.specs.Paths.{texts_of}
use Rattle.til_resolve.proofs.ordered.word_of_names.Given as goal

-- the names so far are hashed
abbrev pub invariant-names : goal.invariant-names
invariant-names l = l.hasher ≡ fold hashed.write hashed.initial (texts_of (take l.name-index l.names))
