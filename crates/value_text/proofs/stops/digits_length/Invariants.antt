use Rattle.std.proofs.Common.{◌≡◌, ◌+◌, drop}
use Rattle.value_text.specs.Stops.{digits_length}
use Rattle.value_text.proofs.stops.digits_length.Given as goal

-- the digits so far and those that are left are all
abbrev pub invariant-digits : goal.invariant-digits
invariant-digits l = record {
  all : digits_length l.word ≡ l.count + digits_length (drop l.byte-index l.word);
  counted : l.count ≡ l.byte-index;
}
