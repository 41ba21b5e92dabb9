use Rattle.std.proofs.Common.{rules, ℕ, ◌∙◌, refl, subst}
use Rattle.tydi_base.specs.Frac.{IsCeiling}
use Rattle.logical_types.specs.Tree.{plain, settings_of}
use Rattle.type_split.proofs.RateLemmas.{params_at-is}
use Rattle.type_split.proofs.found.params_at.Goals as goal

pub returns-clause-value : goal.returns-clause-value
returns-clause-value c =
    c.in_ok-params.ensures.value
    ∙ params_at-is c.args.around.now (plain c.args.stream.now.element) (plain c.args.stream.now.user) (settings_of c.args.stream.now) c.in_ok-lanes.lanes c.in_ok-dims.dims
    c.saturated_width-element.result c.saturated_width-user.result c.den.ensures.lowest.some (subst (λ (n : ℕ). IsCeiling c.args.around.now.product n) (search rules) c.ceil.ensures) (search rules) c.saturated_width-element.ensures c.saturated_width-user.ensures (c.in_ok-params.ensures.some.0 refl)
