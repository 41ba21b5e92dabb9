-- The steps of an order are a cycle.
use Rattle.std.proofs.Common.{◌≡◌, ◌∙◌, ℕ, zero, suc, ◌+◌, ◌<◌, ◌≤◌, ◌&&◌, ◌⊎◌, inl, inr, Bool, true, false, if◌then◌else◌, List, [], ◌∷◌, length, refl, sym, ap, arith}
use Rattle.std.proofs.lemmas.Bool.{cases_lt}
use Rattle.physical_stream.specs.Params.{Parameters}
use Rattle.physical_stream.specs.declared.transfer.Transfer.{Transfer}
use Rattle.elastic_net.specs.Laws.{OrdersAreSteps}
use Rattle.elastic_net.specs.Orders.{count_from, how_many}
use Rattle.elastic_net.specs.Sinks.{acts_of, steps_of}
use Rattle.elastic_net.specs.States.{ChainState, act_of, has_acted, have_acted, next_cycle_of, turned}
use Rattle.elastic_net.proofs.NumberLemmas.{Compared, above, below, same, compared, lt_no, lt_yes, many-more, many-same}
use Rattle.elastic_net.proofs.SoundLemmas.{AreBelow, below-all}

-- all of these components have acted, or one of them has not
have-all : (s : ChainState) (first many : ℕ) → ((i : ℕ) → first ≤ i → i < first + many → 0 < how_many i s.acted) → have_acted (count_from first many) s ≡ true
have-all s first zero all = refl
have-all s first (suc many) all =
    ap (λ (b : Bool). b && have_acted (count_from (suc first) many) s) (lt_yes 0 (how_many first s.acted) (all first (omega arith) (omega arith)))
    ∙ have-all s (suc first) many (λ i upto less. all i (omega (arith, upto)) (omega (arith, less)))

and-false : (b : Bool) → (b && false) ≡ false
and-false true = refl
and-false false = refl

have-not : (s : ChainState) (first many y : ℕ) → first ≤ y → y < first + many → how_many y s.acted ≡ 0 → have_acted (count_from first many) s ≡ false
have-not s first zero y upto less none = absurd (omega (arith, upto, less))
have-not s first (suc many) y upto less none = by_first (λ lower. have-not s (suc first) many y lower (omega (arith, less)) none) (cases_lt first y)
  where
    by_first : (suc first ≤ y → have_acted (count_from (suc first) many) s ≡ false) → (first < y) ⊎ (y ≤ first) → (has_acted first s && have_acted (count_from (suc first) many) s) ≡ false
    by_first later (inl lower) = ap (λ (b : Bool). has_acted first s && b) (later (omega (arith, lower))) ∙ and-false (has_acted first s)
    by_first later (inr le) =
        let here : y ≡ first = omega (arith, le, upto) in
        let zero_many : how_many first s.acted ≡ 0 = ap (λ (n : ℕ). how_many n s.acted) (sym here) ∙ none in
        ap (λ (b : Bool). b && have_acted (count_from (suc first) many) s) (lt_no 0 (how_many first s.acted) (omega (arith, zero_many)))

-- a number that is put from the front of one list to the front of another
put-over : (i x : ℕ) (acted order : List ℕ) → how_many i (x ∷ acted) + how_many i order ≡ how_many i acted + how_many i (x ∷ order)
put-over i x acted order = by_order (compared x i)
  where
    by_order : Compared x i → how_many i (x ∷ acted) + how_many i order ≡ how_many i acted + how_many i (x ∷ order)
    by_order (same is) = omega (arith, many-more i x acted is, many-more i x order is)
    by_order (below less) = omega (arith, many-same i x acted (λ is. omega (arith, is, less)), many-same i x order (λ is. omega (arith, is, less)))
    by_order (above less) = omega (arith, many-same i x acted (λ is. omega (arith, is, less)), many-same i x order (λ is. omega (arith, is, less)))

module _ (p : Parameters) (ts : List Transfer) (gaps stages : List ℕ) (ready : Bool) where
  -- each component has acted, or stands in the rest of the order
  abbrev Remain : ChainState → List ℕ → Type 0
  Remain s order = (i : ℕ) → i < suc (length stages) → how_many i s.acted + how_many i order ≡ 1

  remain-more : (x : ℕ) (order : List ℕ) (s : ChainState) → Remain s (x ∷ order) → Remain (act_of p ts gaps stages x ready s) order
  remain-more x order s all i less = put-over i x s.acted order ∙ all i less

  turned-last : (s : ChainState) → Remain s [] → turned stages s ≡ next_cycle_of s
  turned-last s all =
      ap (λ (b : Bool). if b then next_cycle_of s else s) (have-all s 0 (suc (length stages)) (λ i upto less. omega (arith, all i (omega (arith, less)))))

  turned-on : (y : ℕ) (order : List ℕ) (s : ChainState) → y < suc (length stages) → Remain s (y ∷ order) → turned stages s ≡ s
  turned-on y order s within all =
      ap (λ (b : Bool). if b then next_cycle_of s else s) (have-not s 0 (suc (length stages)) y (omega arith) (omega (arith, within)) (omega (arith, all y within, many-more y y order refl)))

  steps-cycle : (x : ℕ) (order : List ℕ) (s : ChainState) → AreBelow (suc (length stages)) order → Remain s (x ∷ order) → steps_of p ts gaps stages (x ∷ order) ready s ≡ next_cycle_of (acts_of p ts gaps stages (x ∷ order) ready s)
  steps-cycle x [] s are all = turned-last (act_of p ts gaps stages x ready s) (remain-more x [] s all)
  steps-cycle x (y ∷ order) s are all =
      ap (λ (t : ChainState). steps_of p ts gaps stages (y ∷ order) ready t) (turned-on y order (act_of p ts gaps stages x ready s) are.0 (remain-more x (y ∷ order) s all))
      ∙ steps-cycle y order (act_of p ts gaps stages x ready s) are.1 (remain-more x (y ∷ order) s all)

  steps-whole : (order : List ℕ) (s : ChainState) → AreBelow (suc (length stages)) order → Remain s order → s.acted ≡ [] → steps_of p ts gaps stages order ready s ≡ next_cycle_of (acts_of p ts gaps stages order ready s)
  steps-whole [] s are all fresh = absurd (omega (arith, all 0 (omega arith), ap (how_many 0) fresh))
  steps-whole (x ∷ order) s are all fresh = steps-cycle x order s are.1 all

pub orders_are_steps : OrdersAreSteps
orders_are_steps p ts gaps stages order ready s is fresh =
    steps-whole p ts gaps stages ready order s (below-all (suc (length stages)) order (λ k d less. is.within k d less))
    (λ i less. omega (arith, is.once i less, ap (how_many i) fresh)) fresh
