use Rattle.std.proofs.Common.{◌≡◌, ◌+◌, length}
use Rattle.value_text.specs.Stops.{path_length}
use Rattle.value_text.proofs.stops.path_length.Given as goal

-- the names so far and the pieces that are left are all
abbrev pub invariant-names : goal.invariant-names
invariant-names l = record {
  all : path_length l.word ≡ l.passed + path_length l.rest;
  counted : l.passed + length l.rest ≡ length l.word;
}

abbrev pub decreases-names : goal.decreases-names
decreases-names l = length l.rest
