use Rattle.std.proofs.Common.{◌≡◌, ◌-◌, ◌≤◌}
use Rattle.std.specs.Option.{is_some}
use Rattle.value_text.specs.Stops.{longest}
use Rattle.value_text.specs.Words.{number_of}
use Rattle.value_text.proofs.stops.decimal_length.Given as goal

abbrev pub invariant-counts : goal.invariant-counts
invariant-counts l = record {
  few : l.count ≤ 39;
  best : l.best ≡ longest (λ digits. is_some (number_of digits)) l.count l.word;
}

abbrev pub decreases-counts : goal.decreases-counts
decreases-counts l = 39 - l.count
