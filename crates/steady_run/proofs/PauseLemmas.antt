-- Streams that may pause anywhere.
use Rattle.std.proofs.Common.{◌≡◌, ◌≤◌, inl, inr, true, Option, arith}
use Rattle.std.proofs.lemmas.Bool.Decides.{nat_tests}
use Rattle.tydi_base.specs.Level.{number_of}
use Rattle.physical_stream.specs.Params.{Parameters}
use Rattle.physical_stream.specs.declared.item.Tail.{Tail}
use Rattle.complexity_rules.specs.Pauses.{pauses_after}
use Rattle.steady_run.specs.Laws.{HighStreamsPause}

flat-pauses : (p : Parameters) (tail : Option Tail) → p.dims ≡ 0 → pauses_after p tail ≡ true
flat-pauses p tail none = grind (arith, nat_tests)

high-pauses : (p : Parameters) (tail : Option Tail) → 3 ≤ number_of p.level → pauses_after p tail ≡ true
high-pauses p tail high = grind (arith, nat_tests)

pub high_streams_pause : HighStreamsPause
high_streams_pause p (inl none) tail = flat-pauses p tail none
high_streams_pause p (inr high) tail = high-pauses p tail high
