use Rattle.std.proofs.Common.{◌≡◌, ◌+◌, ap, arith, length}
use Rattle.std.proofs.lemmas.List.{length_push}
use Rattle.tydi_base.proofs.NumberLemmas.{push_number_first, push_number_more, push_number_rest}
use Rattle.tydi_base.proofs.numbers.push_number.Goals as goal

pub bytes-init : goal.bytes-init
bytes-init c =
    let none : length c.args.bytes.now.items ≡ 0 = ap length c.requires.empty
    in record {
      len = none;
      bits = push_number_first c.args.bytes.now.items c.args.number c.requires.empty;
      rest = omega arith;
      room = omega arith;
    }

pub bytes-preserved : goal.bytes-preserved
bytes-preserved c =
    let longer : length c.push_reserved.new.self.items ≡ length c.bytes.bytes.items + 1 =
    rw c.push_reserved.ensures.items (length_push c.bytes.bytes.items _)
    in record {
      len = omega arith;
      bits =
          rw c.push_reserved.ensures.items
          (push_number_more c.bytes.bytes.items c.bytes.counter c.args.number c.bytes.rest c.bytes.invariant.bits c.bytes.invariant.rest);
      rest = push_number_rest c.bytes.counter c.args.number c.bytes.rest c.bytes.invariant.rest;
      room = omega arith;
    }
