use Rattle.std.proofs.Common.{◌≡◌, ℕ, List, Contains, take, map}
use Rattle.std.specs.Char.{to_ascii_lowercase}
use Rattle.std.specs.Cmp.Lexicographic.{slice_cmp}
use Rattle.std.specs.List.{list_any}
use Rattle.std.specs.Ordering.{nat_cmp}
use Rattle.std.specs.Str.{bytes_eq}
use Rattle.std.specs.BTreeSet.{contains}
use Rattle.til_resolve.specs.Earliest.{IsEarliest}
use Rattle.til_resolve.specs.Names.{ports_again}
use Rattle.til_resolve.proofs.twice.ports_again.Given as goal

-- the first among the ports so far, whose names are found in lower case
abbrev pub invariant-ports : goal.invariant-ports
invariant-ports l = record {
  found : IsEarliest (Contains (ports_again (take l.port-index l.ports))) l.found;
  seen : (name : List ℕ) → contains (slice_cmp nat_cmp) l.seen name ≡ list_any (λ port. bytes_eq (map to_ascii_lowercase port.name.name) name) (take l.port-index l.ports);
}
