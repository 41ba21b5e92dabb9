use Rattle.std.proofs.Common.{◌≡◌, ◌+◌, drop}
use Rattle.value_text.specs.Tokens.{word_length}
use Rattle.value_text.proofs.lexing.word_length.Given as goal

-- the bytes so far and those that are left are all
abbrev pub invariant-bytes : goal.invariant-bytes
invariant-bytes l = record {
  all : word_length l.bytes ≡ l.count + word_length (drop l.byte-index l.bytes);
  counted : l.count ≡ l.byte-index;
}
