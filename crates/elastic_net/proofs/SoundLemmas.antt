-- Sound states of a chain.
use Rattle.std.proofs.Common.{◌≡◌, ◌∙◌, ℕ, zero, suc, ◌+◌, ◌<◌, ◌≤◌, ◌&&◌, ◌⊎◌, inl, inr, Bool, true, false, nat_lt, if◌then◌else◌, List, [], ◌∷◌, length, map, get_or, slice_get, slice_index, slice_set, Option, None, Some, is_some, refl, sym, ap, arith}
use Rattle.std.proofs.lemmas.Bool.{cases_lt}
use Rattle.std.proofs.lemmas.List.{length-map, length-replicate}
use Rattle.physical_stream.specs.Params.{Parameters}
use Rattle.physical_stream.specs.declared.transfer.Transfer.{Transfer}
use Rattle.elastic_net.specs.Laws.{ActsKeepSound, IsSound, OrdersAreOf}
use Rattle.elastic_net.specs.Orders.{IsOrder, count_from, how_many, order_in}
use Rattle.elastic_net.specs.Sinks.{acts_of}
use Rattle.elastic_net.specs.Standing.{KeepsNumbers}
use Rattle.elastic_net.specs.States.{ChainState, act_of, beyond, does_move, first_of, first_state, has_room, is_due, moved_on, shown_by}
use Rattle.elastic_net.proofs.ActLemmas.{numbers-moved}
use Rattle.elastic_net.proofs.FirstLemmas.{many-zeros}
use Rattle.elastic_net.proofs.NumberLemmas.{falling-zeros, first_of-is, lt_true, lt_yes, many-more, many-same, next_at, reached}
use Rattle.elastic_net.proofs.OrderLemmas.{count-none}

-- ---- the counts of all components, as a list

count-long : (first many : ℕ) → length (count_from first many) ≡ many
count-long first zero = refl
count-long first (suc many) = ap suc (count-long (suc first) many)

count-at : (f : ℕ → ℕ) (first many i : ℕ) → i < many → slice_index (map f (count_from first many)) i ≡ f (first + i)
count-at f first zero i less = absurd (omega (arith, less))
count-at f first (suc many) zero less = let e : first ≡ first + 0 = omega arith in ap f e
count-at f first (suc many) (suc i) less = let e : suc first + i ≡ first + suc i = omega arith in count-at f (suc first) many i (omega (arith, less)) ∙ ap f e

counted : (ts : List Transfer) (stages numbers : List ℕ) → IsSound ts stages numbers → KeepsNumbers stages ts numbers (map (λ (i : ℕ). beyond i numbers) (count_from 0 (suc (length stages))))
counted ts stages numbers s = record {
  many = s.many;
  falling = s.falling;
  room = s.room;
  counts = λ component upto.
      let e : 0 + component ≡ component = omega arith in
      count-at (λ (i : ℕ). beyond i numbers) 0 (suc (length stages)) component (omega (arith, upto)) ∙ ap (λ (i : ℕ). beyond i numbers) e;
}

-- ---- what a component shows

both : (a b : Bool) → (a && b) ≡ true → (a ≡ true) × (b ≡ true)
both true b is = (refl, is)
both false b is = cc

none-some : (o : Option Transfer) → o ≡ None → is_some o ≡ true → ⊥
none-some None is yes_it = cc
none-some (Some t) is yes_it = cc

module _ (p : Parameters) (ts : List Transfer) (gaps stages : List ℕ) (s : ChainState) (sound : IsSound ts stages s.numbers) where
  pub first-here : (component : ℕ) → first_of component ts s.numbers ≡ next_at ts (beyond component s.numbers) (reached component s.numbers)
  first-here component = first_of-is component (suc (length stages)) ts s.numbers sound.falling sound.many

  some-first : (component : ℕ) → is_some (first_of component ts s.numbers) ≡ true → beyond component s.numbers < reached component s.numbers
  some-first component some = by_test (nat_lt (beyond component s.numbers) (reached component s.numbers)) refl
    where
      by_test : (b : Bool) → nat_lt (beyond component s.numbers) (reached component s.numbers) ≡ b → beyond component s.numbers < reached component s.numbers
      by_test true is = lt_true (beyond component s.numbers) (reached component s.numbers) is
      by_test false is = absurd (none-some (first_of component ts s.numbers) (first-here component ∙ ap (λ (b : Bool). if b then slice_get ts (beyond component s.numbers) else None) is) some)

  -- where it shows one, it has one
  pub some-there : (component : ℕ) → is_some (shown_by p ts gaps stages component s) ≡ true → beyond component s.numbers < reached component s.numbers
  some-there zero some = some-first zero (by_due (is_due p ts gaps stages s) some)
    where
      by_due : (b : Bool) → is_some (if b then first_of 0 ts s.numbers else None) ≡ true → is_some (first_of 0 ts s.numbers) ≡ true
      by_due true is = is
      by_due false is = cc
  some-there (suc stage) some = some-first (suc stage) some

  -- and it is the one behind those that it has moved on
  pub shows-next : (component : ℕ) (t : Transfer) → shown_by p ts gaps stages component s ≡ Some t → slice_get ts (beyond component s.numbers) ≡ Some t
  shows-next component t is =
      let some : is_some (shown_by p ts gaps stages component s) ≡ true = ap (λ (o : Option Transfer). is_some o) is in
      let less : beyond component s.numbers < reached component s.numbers = some-there component some in
      sym (ap (λ (b : Bool). if b then slice_get ts (beyond component s.numbers) else None) (lt_yes (beyond component s.numbers) (reached component s.numbers) less))
      ∙ sym (first-here component) ∙ by_component component is
    where
      by_component : (i : ℕ) → shown_by p ts gaps stages i s ≡ Some t → first_of i ts s.numbers ≡ Some t
      by_component zero shows = by_due (is_due p ts gaps stages s) shows
        where
          by_due : (b : Bool) → (if b then first_of 0 ts s.numbers else None) ≡ Some t → first_of 0 ts s.numbers ≡ Some t
          by_due true shown = shown
          by_due false shown = cc
      by_component (suc stage) shows = shows

  -- ---- one act

  pub moves-there : (component : ℕ) (ready : Bool) → does_move p ts gaps stages component ready s ≡ true → beyond component s.numbers < reached component s.numbers
  moves-there component ready is = some-there component (both (is_some (shown_by p ts gaps stages component s)) (has_room stages component ready s) is).0

  pub act-sound : (component : ℕ) (ready : Bool) → component ≤ length stages → IsSound ts stages (act_of p ts gaps stages component ready s).numbers
  act-sound component ready within = by_move (does_move p ts gaps stages component ready s) refl
    where
      by_move : (b : Bool) → does_move p ts gaps stages component ready s ≡ b → IsSound ts stages (if b then moved_on component s.numbers else s.numbers)
      by_move false is = sound
      by_move true is =
          let room : has_room stages component ready s ≡ true = (both (is_some (shown_by p ts gaps stages component s)) (has_room stages component ready s) is).1 in
          let free = λ (less : component < length stages).
          lt_true (how_many (suc component) s.numbers) (slice_index stages component)
          (sym (ap (λ (b : Bool). if b then nat_lt (how_many (suc component) s.numbers) (slice_index stages component) else ready) (lt_yes component (length stages) less)) ∙ room) in
          let k = numbers-moved stages ts s.numbers (map (λ (i : ℕ). beyond i s.numbers) (count_from 0 (suc (length stages)))) (counted ts stages s.numbers sound) component (moves-there component ready is)
          (slice_set (map (λ (i : ℕ). beyond i s.numbers) (count_from 0 (suc (length stages)))) component (suc (beyond component s.numbers))) within
          (length-map (count_from 0 (suc (length stages))) (λ (i : ℕ). beyond i s.numbers) ∙ count-long 0 (suc (length stages))) free refl in
          record { many = k.many; falling = k.falling; room = k.room }

pub first-sound : (ts : List Transfer) (stages : List ℕ) → IsSound ts stages (first_state ts).numbers
first-sound ts stages = record {
  many = length-replicate (length ts) 0;
  falling = falling-zeros (suc (length stages)) (length ts);
  room = λ stage less. omega (arith, many-zeros stage (length ts));
}

pub acts_keep_sound : ActsKeepSound
acts_keep_sound = (λ p ts gaps stages. first-sound ts stages, λ p ts gaps stages component ready s within sound. act-sound p ts gaps stages s sound component ready within)

-- ---- the acts of an order

-- each component is one of so many
abbrev pub AreBelow : (many : ℕ) → List ℕ → Type 0
AreBelow many [] = Unit {0}
AreBelow many (x ∷ order) = (x < many) × AreBelow many order

pub below-all : (many : ℕ) (order : List ℕ) → ((k d : ℕ) → k < length order → get_or order k d < many) → AreBelow many order
below-all many [] all = record {}
below-all many (x ∷ order) all = (all 0 0 (omega arith), below-all many order (λ k d less. all (suc k) d (omega (arith, less))))

count-below : (first many k d : ℕ) → k < many → get_or (count_from first many) k d ≡ first + k
count-below first zero k d less = absurd (omega (arith, less))
count-below first (suc many) zero d less = omega arith
count-below first (suc many) (suc k) d less = let e : suc first + k ≡ first + suc k = omega arith in count-below (suc first) many k d (omega (arith, less)) ∙ e

count-once : (first many i : ℕ) → first ≤ i → i < first + many → how_many i (count_from first many) ≡ 1
count-once first zero i upto less = absurd (omega (arith, upto, less))
count-once first (suc many) i upto less = by_lt (λ lower. count-once (suc first) many i lower (omega (arith, less))) (cases_lt first i)
  where
    by_lt : (suc first ≤ i → how_many i (count_from (suc first) many) ≡ 1) → (first < i) ⊎ (i ≤ first) → how_many i (first ∷ count_from (suc first) many) ≡ 1
    by_lt more (inl lower) = many-same i first (count_from (suc first) many) (λ is. omega (arith, is, lower)) ∙ more (omega (arith, lower))
    by_lt more (inr le) = many-more i first (count_from (suc first) many) (omega (arith, le, upto)) ∙ ap suc (count-none i (suc first) many (omega (arith, le)))

pub count-is_order : (many : ℕ) → IsOrder many (count_from 0 many)
count-is_order many = record {
  within = λ k d less. omega (arith, count-below 0 many k d (omega (arith, less, count-long 0 many)), less, count-long 0 many);
  once = λ component less. count-once 0 many component (omega arith) (omega (arith, less));
}

pub order-here : (many : ℕ) (orders : List (List ℕ)) → OrdersAreOf many orders → (cycle : ℕ) → IsOrder many (order_in many orders cycle)
order-here many [] are cycle = count-is_order many
order-here many (order ∷ orders) are zero = are 0 order refl
order-here many (order ∷ orders) are (suc cycle) = order-here many orders (λ number one is. are (suc number) one is) cycle

module _ (p : Parameters) (ts : List Transfer) (gaps stages : List ℕ) (ready : Bool) where
  pub acts-sound : (order : List ℕ) (s : ChainState) → AreBelow (suc (length stages)) order → IsSound ts stages s.numbers → IsSound ts stages (acts_of p ts gaps stages order ready s).numbers
  acts-sound [] s are sound = sound
  acts-sound (x ∷ order) s are sound = acts-sound order (act_of p ts gaps stages x ready s) are.1 (act-sound p ts gaps stages s sound x ready (omega (arith, are.0)))
