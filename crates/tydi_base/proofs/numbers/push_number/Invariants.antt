use Rattle.std.proofs.Common.{◌≡◌, ◌*◌, ◌/◌, ◌≤◌, ◌^◌, length}
use Rattle.tydi_base.specs.Bits.{bits_of, unpack}
use Rattle.tydi_base.proofs.numbers.push_number.Given as goal

-- so many bytes of the number stand there, there is room for the others, and the rest of the number is at hand
abbrev pub invariant-bytes : goal.invariant-bytes
invariant-bytes l = record {
  len : length l.bytes.items ≡ l.counter;
  bits : unpack l.bytes.items ≡ bits_of (8 * l.counter) l.fn.number;
  rest : l.rest ≡ l.fn.number / 2 ^ (8 * l.counter);
  room : l.fn.count ≤ l.bytes.capacity;
}
