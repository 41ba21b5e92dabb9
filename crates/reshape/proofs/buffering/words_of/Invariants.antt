use Rattle.std.proofs.Common.{◌≡◌, ◌≤◌, length, vec_capacity}
use Rattle.std.specs.List.{All}
use Rattle.reshape.proofs.buffering.words_of.Given as goal

abbrev pub invariant-words : goal.invariant-words
invariant-words l = record {
  wide : All (λ word. length word ≡ l.width) l.words.items;
  many : length l.words.items ≡ l.counter;
  room : l.many ≤ vec_capacity l.words;
}
