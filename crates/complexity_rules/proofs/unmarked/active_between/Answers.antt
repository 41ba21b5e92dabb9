use Rattle.std.proofs.Common.{◌∙◌, count_ones, ap, ◌-◌, ◌≤◌, ◌<◌, ◌⊎◌, inl, inr, ℕ, sym, subst, arith}
use Rattle.std.proofs.lemmas.Bool.{cases_lt}
use Rattle.complexity_rules.proofs.RangeLemmas.{active_lanes-most, active_outside, active_shifted, ones_none}
use Rattle.complexity_rules.proofs.unmarked.active_between.Goals as goal

pub returns-then-low-high-clause-lanes : goal.returns-then-low-high-clause-lanes
returns-then-low-high-clause-lanes c = ones_none ∙ sym (active_outside c.args.transfer.now c.args.from c.args.to c.requires.order outside)
  where
    outside : (lane : ℕ) → c.args.from ≤ lane → lane < c.args.to → (lane < c.args.transfer.now.stai) ⊎ (c.args.transfer.now.endi < lane)
    outside lane after before = by_cases (cases_lt lane c.args.transfer.now.stai)
      where
        by_cases : (lane < c.args.transfer.now.stai) ⊎ (c.args.transfer.now.stai ≤ lane) → (lane < c.args.transfer.now.stai) ⊎ (c.args.transfer.now.endi < lane)
        by_cases (inl front) = inl front
        by_cases (inr from) = inr (omega (arith, c.max.ensures, c.from-low.ensures, c.from.ensures, c.from-2.ensures, c.min-high.ensures, c.if-low-high.true))

pub returns-then-is_short-clause-lanes : goal.returns-then-is_short-clause-lanes
returns-then-is_short-clause-lanes c =
    ap count_ones c.from-then-is_short.ensures
    ∙ active_shifted 64 c.args.transfer.now c.args.from c.args.to c.from-low.result c.min-high.result (omega arith) (omega arith) (omega arith) (omega arith) (omega arith) (omega arith)
    (λ lane after before. omega arith) (λ lane after before. omega arith)

pub returns-then-is_short-clause-few : goal.returns-then-is_short-clause-few
returns-then-is_short-clause-few c =
    let counted =
    ap count_ones c.from-then-is_short.ensures
    ∙ active_shifted 64 c.args.transfer.now c.args.from c.args.to c.from-low.result c.min-high.result (omega arith) (omega arith) (omega arith) (omega arith) (omega arith) (omega arith)
    (λ lane after before. omega arith) (λ lane after before. omega arith) in
    subst (λ (n : ℕ). n ≤ c.args.to - c.args.from) (sym counted) (active_lanes-most c.args.transfer.now c.args.from (c.args.to - c.args.from))

pub returns-clause-lanes : goal.returns-clause-lanes
returns-clause-lanes c =
    active_shifted 128 c.args.transfer.now c.args.from c.args.to c.from-low.result c.min-high.result (omega arith) (omega arith) (omega arith) (omega arith) (omega arith) (omega arith)
    (λ lane after before. omega arith) (λ lane after before. omega arith)

pub returns-clause-few : goal.returns-clause-few
returns-clause-few c =
    let counted =
    active_shifted 128 c.args.transfer.now c.args.from c.args.to c.from-low.result c.min-high.result (omega arith) (omega arith) (omega arith) (omega arith) (omega arith) (omega arith)
    (λ lane after before. omega arith) (λ lane after before. omega arith) in
    subst (λ (n : ℕ). n ≤ c.args.to - c.args.from) (sym counted) (active_lanes-most c.args.transfer.now c.args.from (c.args.to - c.args.from))
