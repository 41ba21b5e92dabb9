use Rattle.std.proofs.Common.{◌≡◌, ◌+◌, ◌≤◌, drop, false}
use Rattle.value_text.specs.Starts.{starts}
use Rattle.value_text.proofs.leaves.count_starts.Given as goal

-- the starts so far and those of what is left are all
abbrev pub invariant-bytes : goal.invariant-bytes
invariant-bytes l = record {
  all : l.count + starts l.within (drop l.byte-index l.text) ≡ starts false l.text;
  few : l.count ≤ l.byte-index;
}
