-- The net of a text fits its streams and cycles.
use Rattle.std.proofs.Common.{◌≡◌, ◌∙◌, ℕ, ◌<◌, ◌≤◌, ◌⊎◌, inl, inr, true, false, cond, nat_lt, nat_le, nat_eq, List, [], ◌∷◌, ◌++◌, length, map, drop, get_or, slice_set, Result, Ok, Err, sym, ap, subst, arith, codes}
use Rattle.std.specs.List.{list_all, starts_with}
use Rattle.std.specs.Str.{bytes_eq}
use Rattle.std.proofs.lemmas.List.{length-set, length-append, length-replicate}
use Rattle.std.proofs.lemmas.List.Elements.{All-push, All-replicate, All-set}
use Rattle.std.proofs.lemmas.List.Sums.{AllPass-from_list_all}
use Rattle.std.proofs.lemmas.Bool.Decides.{nat_tests}
use Rattle.std.proofs.lemmas.Option.{cond_some}
use Rattle.tydi_base.specs.Decimal.{is_decimal, read_on}
use Rattle.tydi_base.specs.Pieces.{words_of}
use Rattle.tydi_base.specs.Reading.{◌>>=◌, or_fault}
use Rattle.tydi_base.specs.declared.place.Place.{Place}
use Rattle.tydi_base.proofs.ReadingLaws.{bind_ok, or_fault_ok, chosen, ok_is}
use Rattle.tydi_base.proofs.TestLemmas.{kept}
use Rattle.type_split.specs.declared.split.Phys.{Phys}
use Rattle.plan_text.specs.Blocks.{is_empty}
use Rattle.net_text.specs.declared.net.NetFault.{NetFault}
use Rattle.net_text.specs.declared.net.NetFault.TheVariants.{Syntax, StreamTwice, CapacityRange, TooManyStages, NotOrder, TooManyOrders}
use Rattle.net_text.specs.declared.net.NetPlan.{NetPlan}
use Rattle.net_text.specs.Laws.{AreStages, FitsNet, NetsFit, CyclesHaveOrders}
use Rattle.net_text.specs.Lines.{TextLine, lines_in}
use Rattle.net_text.specs.Orders.{IsOrder, is_order, order_with, components_in}
use Rattle.net_text.specs.Text.{after_title, capacities_of, capacities_with, is_capacity, most_stages, net_in_lines, net_with, no_net, order_of, order_of_words, stages_line, with_capacities, with_more, with_order, with_stages}
use Rattle.net_text.proofs.OrderLemmas.{and-left, and-right, order-told, order_in-is}

ok-err : {A F : Type 0} (d : F) (x : A) → ◌≡◌ {A = Result A F} (Err d) (Ok x) → ⊥
ok-err d x is = cc

-- ---- stages

pub capacities_of-are : (place : Place) (words : List (List ℕ)) (capacities : List ℕ) → capacities_of place words ≡ Ok capacities → AreStages capacities
unfolding capacities_of
capacities_of-are place words capacities is =
    let (found, read, rest) = bind_ok (or_fault (CapacityRange place) (capacities_with (map (read_on 0) words))) _ capacities is in
    let parts = kept (nat_le (length found) most_stages) (Ok found) (TooManyStages place) capacities rest in
    let both = cond_some (list_all is_capacity (map (read_on 0) words)) (map (read_on 0) words) found (or_fault_ok (CapacityRange place) (capacities_with (map (read_on 0) words)) found read) in
    let few : length found ≤ most_stages = let t = parts.0 in grind (arith, nat_tests) in
    let same : list_all is_capacity found ≡ true = ap (list_all is_capacity) (sym both.1) ∙ both.0 in
    subst AreStages (ok_is found capacities parts.1) (record { few = few; capacities = λ k d less. within (get_or found k d) (AllPass-from_list_all is_capacity found same k d less) })
  where
    within : (n : ℕ) → is_capacity n ≡ true → (1 ≤ n) × (n ≤ 64)
    within n test =
        let low = and-left (nat_le 1 n) (nat_le n 64) test in
        let high = and-right (nat_le 1 n) (nat_le n 64) test in
        (grind (arith, nat_tests), grind (arith, nat_tests))

-- with the stages of one stream more, where no order is there
with_capacities-fits : (place : Place) (streams cycles number : ℕ) (words : List (List ℕ)) (net more : NetPlan) → FitsNet streams cycles net → length net.orders ≡ 0 → with_capacities place number words net ≡ Ok more → FitsNet streams cycles more
unfolding with_capacities
with_capacities-fits place streams cycles number words net more fits none is =
    let parts = kept (is_empty (get_or net.stages number [])) (capacities_of place words >>= λ capacities. Ok (record { stages = slice_set net.stages number capacities; orders = net.orders })) (StreamTwice place) more is in
    let (capacities, read, same) = bind_ok (capacities_of place words) (λ capacities. Ok (record { stages = slice_set net.stages number capacities; orders = net.orders })) more parts.1 in
    subst (FitsNet streams cycles) (ok_is (record { stages = slice_set net.stages number capacities; orders = net.orders }) more same) (record {
      streams_are = length-set net.stages number capacities ∙ fits.streams_are;
      stages = All-set AreStages net.stages number capacities (capacities_of-are place words capacities read) fits.stages;
      few = fits.few;
      orders = λ k d less. absurd (omega (arith, none, less));
    })

with_stages-fits : (place : Place) (all : List Phys) (streams cycles : ℕ) (text : List ℕ) (net more : NetPlan) → FitsNet streams cycles net → with_stages place all text net ≡ Ok more → FitsNet streams cycles more
unfolding with_stages
with_stages-fits place all streams cycles text net more fits is =
    let parts = kept (is_empty net.orders) (stages_line place all (words_of text) >>= λ found. with_capacities place found.0 found.1 net) (Syntax place) more is in
    let (found, read, same) = bind_ok (stages_line place all (words_of text)) (λ found. with_capacities place found.0 found.1 net) more parts.1 in
    let none : length net.orders ≡ 0 = let t = parts.0 in grind (arith, nat_tests) in
    with_capacities-fits place streams cycles found.0 found.1 net more fits none same

-- ---- orders

order_of_words-is : (place : Place) (count : ℕ) (words : List (List ℕ)) (order : List ℕ) → order_of_words place count words ≡ Ok order → IsOrder count order
unfolding order_of_words
order_of_words-is place count words order is =
    let parts = kept (list_all is_decimal words) _ (Syntax place) order is in
    let found = or_fault_ok (NotOrder place) (order_with count (map (read_on 0) words)) order parts.1 in
    let both = cond_some (is_order count (map (read_on 0) words)) (map (read_on 0) words) order found in
    subst (IsOrder count) both.1 (order-told count (map (read_on 0) words) both.0)

order_of-is : (place : Place) (count : ℕ) (line order : List ℕ) → order_of place count line ≡ Ok order → IsOrder count order
unfolding order_of
order_of-is place count line order is = by_test (chosen (bytes_eq line (codes "order")) (Err (NotOrder place))
    (cond (starts_with nat_eq line (codes "order ")) (order_of_words place count (words_of (drop 6 line))) (Err (Syntax place))) (Ok order) is)
  where
    by_test : ((bytes_eq line (codes "order") ≡ true) × (◌≡◌ {A = Result (List ℕ) NetFault} (Err (NotOrder place)) (Ok order)))
        ⊎ ((bytes_eq line (codes "order") ≡ false) × (cond (starts_with nat_eq line (codes "order ")) (order_of_words place count (words_of (drop 6 line))) (Err (Syntax place)) ≡ Ok order)) → IsOrder count order
    by_test (inl alone) = absurd (ok-err (NotOrder place) order alone.1)
    by_test (inr more) = order_of_words-is place count (words_of (drop 6 line)) order (kept (starts_with nat_eq line (codes "order ")) (order_of_words place count (words_of (drop 6 line))) (Syntax place) order more.1).1

with_order-fits : (place : Place) (streams cycles : ℕ) (line : List ℕ) (net more : NetPlan) → FitsNet streams cycles net → with_order place cycles line net ≡ Ok more → FitsNet streams cycles more
unfolding with_order
with_order-fits place streams cycles line net more fits is =
    let (order, read, rest) = bind_ok (order_of place (components_in net.stages) line) _ more is in
    let parts = kept (nat_lt (length net.orders) cycles) (Ok (record { stages = net.stages; orders = net.orders ++ order ∷ [] })) (TooManyOrders place) more rest in
    let room : length net.orders < cycles = let t = parts.0 in grind (arith, nat_tests) in
    let long = length-append net.orders (order ∷ []) in
    subst (FitsNet streams cycles) (ok_is (record { stages = net.stages; orders = net.orders ++ order ∷ [] }) more parts.1) (record {
      streams_are = fits.streams_are;
      stages = fits.stages;
      few = omega (arith, room, long);
      orders = All-push (IsOrder (components_in net.stages)) net.orders order fits.orders (order_of-is place (components_in net.stages) line order read);
    })

-- ---- lines

with_more-fits : (cycles : ℕ) (all : List Phys) (streams : ℕ) (line : TextLine) (net more : NetPlan) → FitsNet streams cycles net → with_more cycles all line net ≡ Ok more → FitsNet streams cycles more
unfolding with_more
with_more-fits cycles all streams line net more fits is =
    let parts = kept line.ended (cond (starts_with nat_eq line.bytes (codes "stages ")) (with_stages line.place all (drop 7 line.bytes) net) (with_order line.place cycles line.bytes net)) (Syntax line.place) more is in
    by_test (chosen (starts_with nat_eq line.bytes (codes "stages ")) (with_stages line.place all (drop 7 line.bytes) net) (with_order line.place cycles line.bytes net) (Ok more) parts.1)
  where
    by_test : ((starts_with nat_eq line.bytes (codes "stages ") ≡ true) × (with_stages line.place all (drop 7 line.bytes) net ≡ Ok more))
        ⊎ ((starts_with nat_eq line.bytes (codes "stages ") ≡ false) × (with_order line.place cycles line.bytes net ≡ Ok more)) → FitsNet streams cycles more
    by_test (inl stages) = with_stages-fits line.place all streams cycles (drop 7 line.bytes) net more fits stages.1
    by_test (inr order) = with_order-fits line.place streams cycles line.bytes net more fits order.1

net_with-fits : (cycles : ℕ) (all : List Phys) (streams : ℕ) (lines : List TextLine) (net whole : NetPlan) → FitsNet streams cycles net → net_with cycles all net lines ≡ Ok whole → FitsNet streams cycles whole
net_with-fits cycles all streams [] net whole fits is = subst (FitsNet streams cycles) (ok_is net whole is) fits
net_with-fits cycles all streams (line ∷ lines) net whole fits is =
    let (more, read, rest) = bind_ok (with_more cycles all line net) (λ more. net_with cycles all more lines) whole is in
    net_with-fits cycles all streams lines more whole (with_more-fits cycles all streams line net more fits read) rest

no_net-fits : (streams cycles : ℕ) → FitsNet streams cycles (no_net streams)
no_net-fits streams cycles = record {
  streams_are = length-replicate streams [];
  stages = All-replicate AreStages streams [] (record { few = omega arith; capacities = λ k d less. absurd (omega (arith, less)) });
  few = omega arith;
  orders = λ k d less. absurd (omega (arith, less));
}

pub nets-fit : NetsFit
unfolding net_in_lines
nets-fit streams cycles text net is =
    let (more, title, rest) = bind_ok (after_title (lines_in text)) (λ more. net_with cycles streams (no_net (length streams)) more) net is in
    net_with-fits cycles streams (length streams) more (no_net (length streams)) net (no_net-fits (length streams) cycles) rest

pub cycles-have-orders : CyclesHaveOrders
cycles-have-orders streams cycles cycle net fits = order_in-is (components_in net.stages) net.orders cycle fits.orders
