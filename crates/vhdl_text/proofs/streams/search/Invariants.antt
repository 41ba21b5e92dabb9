use Rattle.std.proofs.Common.{◌≡◌, drop}
use Rattle.vhdl_text.specs.Lines.{number_of}
use Rattle.vhdl_text.proofs.StreamLemmas.{counted_from}
use Rattle.vhdl_text.proofs.streams.search.Given as goal

-- the place among the paths to come, counted from those before, is the place
abbrev pub invariant-paths : goal.invariant-paths
invariant-paths l = (l.number ≡ l.other-index) × (number_of l.paths l.path ≡ counted_from l.number (number_of (drop l.other-index l.paths) l.path))
