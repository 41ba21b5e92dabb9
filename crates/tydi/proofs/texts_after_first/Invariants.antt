use Rattle.std.proofs.Common.{◌≡◌, ◌++◌, drop, map, string_bytes}
use Rattle.std.specs.Vec.Iter.{into_iter_items}
use Rattle.tydi.proofs.texts_after_first.Given as goal

abbrev pub invariant-words : goal.invariant-words
invariant-words l = l.texts ++ map string_bytes (into_iter_items l.word-iterator) ≡ map string_bytes (drop 1 (into_iter_items l.fn.words))
