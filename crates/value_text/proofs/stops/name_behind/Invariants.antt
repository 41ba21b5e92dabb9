use Rattle.std.proofs.Common.{◌≡◌, ◌+◌, length}
use Rattle.value_text.specs.Stops.{name_behind}
use Rattle.value_text.proofs.stops.name_behind.Given as goal

-- the bytes so far and those that are left are all
abbrev pub invariant-bytes : goal.invariant-bytes
invariant-bytes l = record {
  all : name_behind l.first l.word ≡ l.count + name_behind l.before l.rest;
  counted : l.count + length l.rest ≡ length l.word;
}

abbrev pub decreases-bytes : goal.decreases-bytes
decreases-bytes l = length l.rest
