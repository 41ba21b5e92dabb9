-- The run of a text fits its bench.
use Rattle.std.proofs.Common.{◌≡◌, ◌∙◌, ℕ, zero, suc, ◌+◌, ◌-◌, ◌<◌, ◌≤◌, ◌⊎◌, inl, inr, Bool, true, false, cond, ◌==◌, nat_lt, nat_le, nat_eq, List, [], ◌∷◌, ◌++◌, length, map, drop, get_or, replicate, slice_set, Option, Some, None, Result, Ok, Err, IfSome, refl, sym, ap, subst, arith, codes}
use Rattle.std.specs.List.{All, count_by, list_all, starts_with}
use Rattle.std.specs.Option.{is_some}
use Rattle.std.specs.Str.{bytes_eq}
use Rattle.std.proofs.lemmas.List.{length-set, length-append, length-map, length-replicate}
use Rattle.std.proofs.lemmas.List.Elements.{All-push, All-append, All-map, All-replicate, All-set}
use Rattle.std.proofs.lemmas.List.Sums.{sum_by-append, sum_by-cons}
use Rattle.std.proofs.lemmas.Bool.{eqb-true, eq-eqb, cases_eq}
use Rattle.std.proofs.lemmas.Bool.Decides.{nat_tests}
use Rattle.std.proofs.lemmas.Option.{cond_some}
use Rattle.tydi_base.specs.Decimal.{is_decimal, read_on}
use Rattle.tydi_base.specs.Pieces.{words_of}
use Rattle.tydi_base.specs.Reading.{◌>>=◌}
use Rattle.tydi_base.specs.declared.place.Place.{Place}
use Rattle.tydi_base.proofs.ReadingLaws.{bind_ok, or_fault_ok, chosen, ok_is}
use Rattle.tydi_base.proofs.TestLemmas.{kept}
use Rattle.physical_stream.specs.declared.head.Head.{Head}
use Rattle.vhdl_text.specs.declared.bench.Bench.{Bench}
use Rattle.vhdl_meaning.specs.declared.run.RunFault.{RunFault}
use Rattle.vhdl_meaning.specs.declared.run.RunFault.TheVariants.{Syntax, StreamTwice, ReadyLength, NotOrder, TooManyCycles, TooManyOrders}
use Rattle.vhdl_meaning.specs.Meaning.{IsOrder}
use Rattle.vhdl_meaning.specs.Orders.{is_order, text_order}
use Rattle.vhdl_meaning.specs.Ordering.{order_with}
use Rattle.vhdl_meaning.specs.RunLines.{TextLine}
use Rattle.vhdl_meaning.specs.RunText.{Given, most_cycles, next_of, title_of, cycles_of, header_of, bits_for, with_bits, ready_line, with_ready, order_in, order_of, with_order, with_more, given_of, nothing_given, ready_in, run_with, run_in_lines, end_of}
use Rattle.vhdl_meaning.specs.RunLaws.{FitsBench, RunsFit}
use Rattle.vhdl_meaning.proofs.OrderingLemmas.{order-told}

ok-err : {A F : Type 0} (d : F) (x : A) → ◌≡◌ {A = Result A F} (Err d) (Ok x) → ⊥
ok-err d x is = cc

-- ---- the order of the text

count-below : (number count : ℕ) → (number < count → count_by (λ at. at == number) (text_order count) ≡ 1) × (count ≤ number → count_by (λ at. at == number) (text_order count) ≡ 0)
count-below number zero = (λ less. absurd (omega (arith, less)), λ past. refl)
count-below number (suc count) = (within (count-below number count) (cases_eq count number), outside (count-below number count).1)
  where
    sum : count_by (λ at. at == number) (text_order count ++ count ∷ []) ≡ count_by (λ at. at == number) (text_order count) + (cond (count == number) 1 0 + 0)
    sum = sum_by-append (λ at. cond (at == number) 1 0) (text_order count) (count ∷ []) ∙ ap (λ n. count_by (λ at. at == number) (text_order count) + n) (sum_by-cons (λ at. cond (at == number) 1 0) count [])

    outside : (count ≤ number → count_by (λ at. at == number) (text_order count) ≡ 0) → suc count ≤ number → count_by (λ at. at == number) (text_order count ++ count ∷ []) ≡ 0
    outside none past =
        let other : (count == number) ≡ false = grind (arith, nat_tests) in
        let zero_so_far = none (omega (arith, past)) in
        sum ∙ ap (λ (b : Bool). count_by (λ at. at == number) (text_order count) + (cond b 1 0 + 0)) other ∙ omega (arith, zero_so_far)

    within : (number < count → count_by (λ at. at == number) (text_order count) ≡ 1) × (count ≤ number → count_by (λ at. at == number) (text_order count) ≡ 0) → (count ≡ number) ⊎ (count ≡ number → ⊥) →
        number < suc count → count_by (λ at. at == number) (text_order count ++ count ∷ []) ≡ 1
    within both (inl same) less =
        let none = both.1 (omega (arith, same)) in
        sum ∙ ap (λ (b : Bool). count_by (λ at. at == number) (text_order count) + (cond b 1 0 + 0)) (eq-eqb count number same) ∙ omega (arith, none)
    within both (inr apart) less =
        let other : (count == number) ≡ false = grind (arith, nat_tests) in
        let one = both.0 (omega (arith, less, apart)) in
        sum ∙ ap (λ (b : Bool). count_by (λ at. at == number) (text_order count) + (cond b 1 0 + 0)) other ∙ omega (arith, one)

all-below : (limit count : ℕ) → count ≤ limit → All (λ number. number < limit) (text_order count)
all-below limit zero few = λ k d less. absurd (omega (arith, less))
all-below limit (suc count) few = All-push (λ number. number < limit) (text_order count) count (all-below limit count (omega (arith, few))) (omega (arith, few))

pub text_order-is : (count : ℕ) → IsOrder count (text_order count)
text_order-is count = record { once = λ number less. (count-below number count).0 less; within = all-below count count (omega arith) }

-- ---- one line more

-- ready bits of a stream, where it has a line, are one for each cycle
abbrev HasBits : ℕ → Option (List Bool) → Type 0
HasBits cycles found = IfSome found (λ bits. length bits ≡ cycles)

record GivenFits (cycles streams count : ℕ) (given : Given) : Type 0 where
  many : length given.ready ≡ streams
  ready : All (HasBits cycles) given.ready
  few : length given.orders ≤ cycles
  orders : All (IsOrder count) given.orders

bits_for-long : (place : Place) (cycles : ℕ) (word : List ℕ) (bits : List Bool) → bits_for place cycles word ≡ Ok bits → length bits ≡ cycles
unfolding bits_for
bits_for-long place cycles word bits is =
    let parts = kept (length word == cycles) (Ok (map (λ digit. digit == 49) word)) (ReadyLength place) bits is in
    ap length (sym (ok_is (map (λ digit. digit == 49) word) bits parts.1)) ∙ length-map word (λ digit. digit == 49) ∙ eqb-true (length word) cycles parts.0

with_bits-fits : (place : Place) (cycles streams count number : ℕ) (word : List ℕ) (given more : Given) → GivenFits cycles streams count given → with_bits place cycles number word given ≡ Ok more → GivenFits cycles streams count more
unfolding with_bits
with_bits-fits place cycles streams count number word given more fits is =
    by_test (chosen (is_some (get_or given.ready number None)) (Err (StreamTwice place))
    (bits_for place cycles word >>= λ bits. Ok (record { ready = slice_set given.ready number (Some bits); orders = given.orders })) (Ok more) is)
  where
    with_these : (bits : List Bool) → bits_for place cycles word ≡ Ok bits → record { ready = slice_set given.ready number (Some bits); orders = given.orders } ≡ more → GivenFits cycles streams count more
    with_these bits read same = subst (GivenFits cycles streams count) same (record {
      many = length-set given.ready number (Some bits) ∙ fits.many;
      ready = All-set (HasBits cycles) given.ready number (Some bits) (bits_for-long place cycles word bits read) fits.ready;
      few = fits.few;
      orders = fits.orders;
    })

    by_test : ((is_some (get_or given.ready number None) ≡ true) × (◌≡◌ {A = Result Given RunFault} (Err (StreamTwice place)) (Ok more)))
        ⊎ ((is_some (get_or given.ready number None) ≡ false) × ((bits_for place cycles word >>= λ bits. Ok (record { ready = slice_set given.ready number (Some bits); orders = given.orders })) ≡ Ok more)) →
        GivenFits cycles streams count more
    by_test (inl twice) = absurd (ok-err (StreamTwice place) more twice.1)
    by_test (inr once) =
        let (bits, read, same) = bind_ok (bits_for place cycles word) (λ bits. Ok (record { ready = slice_set given.ready number (Some bits); orders = given.orders })) more once.1 in
        with_these bits read (ok_is (record { ready = slice_set given.ready number (Some bits); orders = given.orders }) more same)

with_ready-fits : (place : Place) (cycles streams count : ℕ) (heads : List Head) (text : List ℕ) (given more : Given) → GivenFits cycles streams count given → with_ready place cycles heads text given ≡ Ok more → GivenFits cycles streams count more
unfolding with_ready
with_ready-fits place cycles streams count heads text given more fits is =
    let parts = kept (length given.orders == 0) (ready_line place heads text >>= λ found. with_bits place cycles found.0 found.1 given) (Syntax place) more is in
    let (found, read, same) = bind_ok (ready_line place heads text) (λ found. with_bits place cycles found.0 found.1 given) more parts.1 in
    with_bits-fits place cycles streams count found.0 found.1 given more fits same

order_in-is : (place : Place) (count : ℕ) (words : List (List ℕ)) (order : List ℕ) → order_in place count words ≡ Ok order → IsOrder count order
unfolding order_in
order_in-is place count words order is =
    let parts = kept (list_all is_decimal words) _ (Syntax place) order is in
    let found = or_fault_ok (NotOrder place) (order_with count (map (read_on 0) words)) order parts.1 in
    let both = cond_some (is_order count (map (read_on 0) words)) (map (read_on 0) words) order found in
    subst (IsOrder count) both.1 (order-told count (map (read_on 0) words) both.0)

order_of-is : (place : Place) (count : ℕ) (line order : List ℕ) → order_of place count line ≡ Ok order → IsOrder count order
unfolding order_of
order_of-is place count line order is = by_test (chosen (bytes_eq line (codes "order")) (order_in place count [])
    (cond (starts_with nat_eq line (codes "order ")) (order_in place count (words_of (drop 6 line))) (Err (Syntax place))) (Ok order) is)
  where
    by_test : ((bytes_eq line (codes "order") ≡ true) × (order_in place count [] ≡ Ok order))
        ⊎ ((bytes_eq line (codes "order") ≡ false) × (cond (starts_with nat_eq line (codes "order ")) (order_in place count (words_of (drop 6 line))) (Err (Syntax place)) ≡ Ok order)) → IsOrder count order
    by_test (inl alone) = order_in-is place count [] order alone.1
    by_test (inr more) = order_in-is place count (words_of (drop 6 line)) order (kept (starts_with nat_eq line (codes "order ")) (order_in place count (words_of (drop 6 line))) (Syntax place) order more.1).1

with_order-fits : (place : Place) (cycles streams count : ℕ) (line : List ℕ) (given more : Given) → GivenFits cycles streams count given → with_order place cycles count line given ≡ Ok more → GivenFits cycles streams count more
unfolding with_order
with_order-fits place cycles streams count line given more fits is =
    let (order, read, rest) = bind_ok (order_of place count line) _ more is in
    let parts = kept (nat_lt (length given.orders) cycles) (Ok (record { ready = given.ready; orders = given.orders ++ order ∷ [] })) (TooManyOrders place) more rest in
    let room : length given.orders < cycles = let t = parts.0 in grind (arith, nat_tests) in
    let long = length-append given.orders (order ∷ []) in
    subst (GivenFits cycles streams count) (ok_is (record { ready = given.ready; orders = given.orders ++ order ∷ [] }) more parts.1) (record {
      many = fits.many;
      ready = fits.ready;
      few = omega (arith, room, long);
      orders = All-push (IsOrder count) given.orders order fits.orders (order_of-is place count line order read);
    })

with_more-fits : (cycles : ℕ) (heads : List Head) (streams count : ℕ) (line : TextLine) (given more : Given) → GivenFits cycles streams count given → with_more cycles heads count line given ≡ Ok more → GivenFits cycles streams count more
unfolding with_more
with_more-fits cycles heads streams count line given more fits is = by_test (chosen (starts_with nat_eq line.bytes (codes "ready ")) (with_ready line.place cycles heads (drop 6 line.bytes) given)
    (with_order line.place cycles count line.bytes given) (Ok more) is)
  where
    by_test : ((starts_with nat_eq line.bytes (codes "ready ") ≡ true) × (with_ready line.place cycles heads (drop 6 line.bytes) given ≡ Ok more))
        ⊎ ((starts_with nat_eq line.bytes (codes "ready ") ≡ false) × (with_order line.place cycles count line.bytes given ≡ Ok more)) → GivenFits cycles streams count more
    by_test (inl ready) = with_ready-fits line.place cycles streams count heads (drop 6 line.bytes) given more fits ready.1
    by_test (inr order) = with_order-fits line.place cycles streams count line.bytes given more fits order.1

given_of-fits : (cycles : ℕ) (heads : List Head) (streams count : ℕ) (lines : List TextLine) (given all : Given) → GivenFits cycles streams count given → given_of cycles heads count given lines ≡ Ok all → GivenFits cycles streams count all
given_of-fits cycles heads streams count [] given all fits is = subst (GivenFits cycles streams count) (ok_is given all is) fits
given_of-fits cycles heads streams count (line ∷ lines) given all fits is =
    let (more, read, rest) = bind_ok (with_more cycles heads count line given) (λ more. given_of cycles heads count more lines) all is in
    given_of-fits cycles heads streams count lines more all (with_more-fits cycles heads streams count line given more fits read) rest

-- ---- the run

cycles_of-few : (line : TextLine) (cycles : ℕ) → cycles_of line ≡ Ok cycles → cycles ≤ most_cycles
unfolding cycles_of
cycles_of-few line cycles is =
    let one = kept (starts_with nat_eq line.bytes (codes "cycles ")) _ (Syntax line.place) cycles is in
    let two = kept (is_decimal (drop 7 line.bytes)) _ (Syntax line.place) cycles one.1 in
    let three = kept (nat_le (read_on 0 (drop 7 line.bytes)) most_cycles) (Ok (read_on 0 (drop 7 line.bytes))) (TooManyCycles line.place) cycles two.1 in
    let few : read_on 0 (drop 7 line.bytes) ≤ most_cycles = let t = three.0 in grind (arith, nat_tests) in
    subst (λ n. n ≤ most_cycles) (ok_is (read_on 0 (drop 7 line.bytes)) cycles three.1) few

header_of-few : (end : Place) (lines : List TextLine) (header : ℕ × List TextLine) → header_of end lines ≡ Ok header → header.0 ≤ most_cycles
unfolding header_of
header_of-few end lines header is =
    let (first, one, rest1) = bind_ok (next_of end lines) _ header is in
    let (title, two, rest2) = bind_ok (title_of first.0) _ header rest1 in
    let (second, three, rest3) = bind_ok (next_of end first.1) _ header rest2 in
    let (cycles, four, rest4) = bind_ok (cycles_of second.0) _ header rest3 in
    subst (λ (h : ℕ × List TextLine). h.0 ≤ most_cycles) (ok_is (cycles, second.1) header rest4) (cycles_of-few second.0 cycles four)

ready_in-long : (cycles : ℕ) (found : Option (List Bool)) → HasBits cycles found → length (ready_in cycles found) ≡ cycles
ready_in-long cycles None has = length-replicate cycles true
ready_in-long cycles (Some bits) has = has

run_with-fits : (bench : Bench) (cycles : ℕ) (given : Given) → cycles ≤ most_cycles → GivenFits cycles (length bench.heads) (length bench.procs) given → FitsBench bench (run_with cycles (length bench.procs) given)
run_with-fits bench cycles given few fits = record {
  cycles = few;
  streams = length-map given.ready (ready_in cycles) ∙ fits.many;
  ready = All-map (λ (bits : List Bool). length bits ≡ cycles) (ready_in cycles) given.ready (λ k d less. ready_in-long cycles (get_or given.ready k d) (fits.ready k d less));
  edges =
      let some = fits.few in
      length-append given.orders (replicate (cycles - length given.orders) (text_order (length bench.procs)))
      ∙ ap (λ n. length given.orders + n) (length-replicate (cycles - length given.orders) (text_order (length bench.procs))) ∙ omega (arith, some);
  orders = All-append (IsOrder (length bench.procs)) given.orders (replicate (cycles - length given.orders) (text_order (length bench.procs))) fits.orders
      (All-replicate (IsOrder (length bench.procs)) (cycles - length given.orders) (text_order (length bench.procs)) (text_order-is (length bench.procs)));
}

nothing-fits : (cycles streams count : ℕ) → GivenFits cycles streams count (nothing_given streams)
nothing-fits cycles streams count = record {
  many = length-replicate streams None;
  ready = All-replicate (HasBits cycles) streams None tt;
  few = omega arith;
  orders = λ k d less. absurd (omega (arith, less));
}

pub runs_fit : RunsFit
unfolding run_in_lines
runs_fit bench text run is =
    let (header, one, rest1) = bind_ok (header_of (end_of text) _) _ run is in
    let (given, two, rest2) = bind_ok (given_of header.0 bench.heads (length bench.procs) (nothing_given (length bench.heads)) header.1) _ run rest1 in
    subst (FitsBench bench) (ok_is (run_with header.0 (length bench.procs) given) run rest2)
    (run_with-fits bench header.0 given (header_of-few (end_of text) _ header one)
    (given_of-fits header.0 bench.heads (length bench.heads) (length bench.procs) header.1 (nothing_given (length bench.heads)) given (nothing-fits header.0 (length bench.heads) (length bench.procs)) two))
