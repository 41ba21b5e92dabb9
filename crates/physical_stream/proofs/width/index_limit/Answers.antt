use Rattle.std.proofs.Common.{◌≤◌, ◌≡◌, ◌∙◌, ◌^◌, ℕ, ap, sym, subst, arith}
use Rattle.tydi_base.specs.Width.{index_width}
use Rattle.physical_stream.proofs.WidthLemmas.{narrow_width, shifted_one}
use Rattle.physical_stream.proofs.width.index_limit.Goals as goal

pub overflow_shl-result : goal.overflow_shl-result
overflow_shl-result c =
    let is : c.index_width.result ≡ index_width c.args.lanes = c.index_width.ensures.value ∙ ap index_width c.from.ensures in
    let narrow = narrow_width c.args.lanes c.index_width.result (omega arith) is in omega arith

pub returns-clause-value : goal.returns-clause-value
returns-clause-value c =
    let is : c.index_width.result ≡ index_width c.args.lanes = c.index_width.ensures.value ∙ ap index_width c.from.ensures in
    let narrow = narrow_width c.args.lanes c.index_width.result (omega arith) is in
    (shifted_one c.index_width.result narrow).0 ∙ ap (λ (width : ℕ). 2 ^ width) is

pub returns-clause-small : goal.returns-clause-small
returns-clause-small c =
    let is : c.index_width.result ≡ index_width c.args.lanes = c.index_width.ensures.value ∙ ap index_width c.from.ensures in
    let narrow = narrow_width c.args.lanes c.index_width.result (omega arith) is in
    let shifted = shifted_one c.index_width.result narrow in subst (λ (limit : ℕ). limit ≤ 2 ^ 16) (sym shifted.0) shifted.1
