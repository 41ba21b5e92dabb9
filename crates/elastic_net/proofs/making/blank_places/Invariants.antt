use Rattle.std.proofs.Common.{◌≡◌, length}
use Rattle.std.specs.List.{All}
use Rattle.physical_stream.specs.Signals.{Fits}
use Rattle.elastic_net.proofs.making.blank_places.Given as goal

abbrev pub invariant-places : goal.invariant-places
invariant-places l = record {
  many : length l.places.items ≡ l._number;
  fit : All (Fits l.p) l.places.items;
}
