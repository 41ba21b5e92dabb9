-- Schedules and planners.
use Rattle.std.proofs.Common.{◌≡◌, ◌∙◌, ◌⊎◌, inl, inr, ℕ, zero, suc, ◌+◌, ◌-◌, ◌*◌, ◌/◌, ◌%◌, ◌<◌, ◌≤◌, ◌↔◌, IsTrue, nat_eq, Bool, List, [], ◌∷◌, length, drop, refl, sym, ap, arith, div-add-mod'}
use Rattle.std.proofs.lemmas.Bool.{cases_lt}
use Rattle.std.proofs.lemmas.Bool.Decides.{nat_tests}
use Rattle.std.proofs.lemmas.Nat.{mod-mul-add}
use Rattle.std.proofs.lemmas.List.{length-drop}
use Rattle.physical_stream.specs.Params.{Parameters}
use Rattle.physical_stream.specs.Signals.{zero_transfer}
use Rattle.physical_stream.specs.declared.item.Item.{Item}
use Rattle.physical_stream.specs.declared.transfer.Transfer.{Transfer}
use Rattle.plan_text.specs.declared.plan.Wish.{Wish}
use Rattle.scheduler.specs.Laws.{IsMultiple}
use Rattle.scheduler.specs.Planned.{Planned, plan_on, plan_of}
use Rattle.scheduler.specs.Schedules.{IsReady, IsWhole}
use Rattle.scheduler.specs.Stepping.{CanGoOn, plan_from}
use Rattle.scheduler.proofs.PlanLemmas.{planned_some}

-- nothing is planned for no items
plan-none : (p : Parameters) (wishes : List Wish) (users : List (List Bool)) → plan_of p wishes users [] ≡ []
plan-none p wishes users = by_fuel (length {A = Item} [] + length wishes)
  where
    by_fuel : (fuel : ℕ) → plan_on fuel p wishes users [] ≡ []
    by_fuel zero = refl
    by_fuel (suc fuel) = refl

pub plan-over : (p : Parameters) (items : List Item) (wishes : List Wish) (users : List (List Bool)) (place number : ℕ) → length items ≤ place → plan_from p items wishes users place number ≡ []
plan-over p items wishes users place number over = by_left (drop place items) (let long = length-drop place items in omega (arith, long, over))
  where
    by_left : (left : List Item) → length left ≡ 0 → plan_of p (drop number wishes) (drop number users) left ≡ []
    by_left [] none = plan-none p (drop number wishes) (drop number users)
    by_left (item ∷ more) none = absurd (omega (arith, none))

pub is-planned : (p : Parameters) (items : List Item) (wishes : List Wish) (users : List (List Bool)) → CanGoOn p items wishes users → Planned p wishes users items (plan_of p wishes users items)
is-planned p items wishes users can = planned_some (length items + length wishes) p wishes users items can.some can.masks (omega arith)

-- where transfers are left, items are
pub place-within : (p : Parameters) (items : List Item) (wishes : List Wish) (users : List (List Bool)) (place number : ℕ) → place ≤ length items → 0 < length (plan_from p items wishes users place number) → place < length items
place-within p items wishes users place number within some = by_cases (cases_lt place (length items))
  where
    by_cases : (place < length items) ⊎ (length items ≤ place) → place < length items
    by_cases (inl less) = less
    by_cases (inr over) = let none = ap length (plan-over p items wishes users place number over) in absurd (omega (arith, none, some))

-- the lanes divide the elements exactly where no rest is left
pub multiple-rest : (p : Parameters) (items : List Item) (lanes : ℕ) → 1 ≤ p.lanes → lanes ≡ p.lanes → IsWhole p → IsTrue (nat_eq (length items % lanes) 0) ↔ IsMultiple p items
multiple-rest p items lanes some same whole = (there, back)
  where
    there : IsTrue (nat_eq (length items % lanes) 0) → IsMultiple p items
    there none flat low =
        let rest : length items % lanes ≡ 0 = grind (arith, nat_tests) in
        (length items / lanes, omega (arith, rest, div-add-mod' (length items) lanes) ∙ ap (λ (n : ℕ). length items / lanes * n) same)

    back : IsMultiple p items → IsTrue (nat_eq (length items % lanes) 0)
    back multiple =
        let m = multiple whole.0 whole.1 in
        let e : length items ≡ m.0 * lanes + 0 = m.1 ∙ ap (λ (n : ℕ). m.0 * n) (sym same) ∙ omega arith in
        let rest : length items % lanes ≡ 0 = ap (λ (n : ℕ). n % lanes) e ∙ mod-mul-add m.0 lanes 0 (omega (arith, some, same)) in
        grind (arith, nat_tests)

pub multiple-any : (p : Parameters) (items : List Item) → (IsWhole p → ⊥) → IsMultiple p items
multiple-any p items parts flat low = absurd (parts (flat, low))

-- before the first transfer
no-number : (count : ℕ) → count - count ≡ 0
no-number count = omega arith

pub rest-all : (p : Parameters) (items : List Item) (wishes : List Wish) (users : List (List Bool)) (count : ℕ) → plan_from p items wishes users 0 (count - count) ≡ plan_of p wishes users items
rest-all p items wishes users count = ap (plan_from p items wishes users 0) (no-number count)

pub ready-start : (p : Parameters) (items : List Item) (wishes : List Wish) (users : List (List Bool)) (clear : Transfer) (count : ℕ) → CanGoOn p items wishes users → clear ≡ zero_transfer p →
    count ≡ length (plan_of p wishes users items) → IsReady p items wishes users clear count count 0
ready-start p items wishes users clear count can blank all = record {
  can = can;
  blank = blank;
  all = all;
  few = omega arith;
  rest = all ∙ ap length (sym (rest-all p items wishes users count));
  within = omega arith;
}
