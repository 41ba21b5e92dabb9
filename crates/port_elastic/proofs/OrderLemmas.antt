-- The orders of a net, as they are read and as its components take them.
use Rattle.std.proofs.Common.{◌≡◌, ◌∙◌, ℕ, suc, ◌+◌, ◌==◌, Bool, true, false, cond, List, [], ◌∷◌, length, refl, sym, ap, subst, arith}
use Rattle.std.specs.List.{count_by}
use Rattle.std.proofs.lemmas.List.Elements.{All-get_or}
use Rattle.std.proofs.lemmas.List.Sums.{sum_by-cons}
use Rattle.std.proofs.lemmas.Option.{get_or_from_slice_get, slice_get_within}
use Rattle.type_split.specs.declared.split.Phys.{Phys}
use Rattle.plan_text.specs.Laws.{FitEach}
use Rattle.plan_text.specs.declared.plan.StreamPlan.{StreamPlan}
use Rattle.net_text.specs.Orders as net
use Rattle.net_text.specs.Laws.{FitsNet}
use Rattle.net_text.specs.declared.net.NetPlan.{NetPlan}
use Rattle.elastic_net.specs.Nets.{AreOrders, components_of}
use Rattle.elastic_net.specs.Orders.{IsOrder, how_many}

-- as many components are counted either way
pub components-same : (stages : List (List ℕ)) → net.components_in stages ≡ components_of stages
components-same [] = refl
components-same (one ∷ stages) =
    let rest = components-same stages in
    let sum = sum_by-cons (λ (l : List ℕ). length l) one stages in
    omega (arith, rest, sum)

-- so are the places of a number
how-same : (number : ℕ) (order : List ℕ) → how_many number order ≡ count_by (λ at. at == number) order
how-same number [] = refl
how-same number (one ∷ order) = by_test (one == number) (how-same number order) ∙ sym (sum_by-cons (λ at. cond (at == number) 1 0) one order)
  where
    by_test : (test : Bool) → how_many number order ≡ count_by (λ at. at == number) order → cond test (suc (how_many number order)) (how_many number order) ≡ cond test 1 0 + count_by (λ at. at == number) order
    by_test true rest = omega (arith, rest)
    by_test false rest = omega (arith, rest)

pub order-same : (count : ℕ) (order : List ℕ) → net.IsOrder count order → IsOrder count order
order-same count order is = record { within = is.within; once = λ number less. how-same number order ∙ is.once number less }

-- the orders of a net that fits are orders of all components
pub net-orders : (streams cycles : ℕ) (spelled : NetPlan) → FitsNet streams cycles spelled → AreOrders spelled.stages spelled.orders
net-orders streams cycles spelled fits number order there =
    let within = slice_get_within spelled.orders number order there in
    let is : net.IsOrder (net.components_in spelled.stages) order =
    subst (net.IsOrder (net.components_in spelled.stages)) (get_or_from_slice_get spelled.orders number order order there)
    (All-get_or (net.IsOrder (net.components_in spelled.stages)) spelled.orders number order within fits.orders) in
    subst (λ (n : ℕ). IsOrder n order) (components-same spelled.stages) (order-same (net.components_in spelled.stages) order is)

pub many-plans : (cycles : ℕ) (streams : List Phys) (plans : List StreamPlan) → FitEach cycles streams plans → length streams ≡ length plans
many-plans cycles [] [] fit = refl
many-plans cycles [] (plan ∷ plans) fit = absurd fit
many-plans cycles (stream ∷ streams) [] fit = absurd fit
many-plans cycles (stream ∷ streams) (plan ∷ plans) fit = ap suc (many-plans cycles streams plans fit.1)
