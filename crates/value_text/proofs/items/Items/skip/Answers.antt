use Rattle.std.proofs.Common.{◌∙◌, ◌-◌, ◌≤◌, drop, length, reverse, ap, sym, arith}
use Rattle.std.proofs.lemmas.List.{length-reverse}
use Rattle.value_text.specs.Items.{items_of}
use Rattle.value_text.proofs.ItemLemmas.{kept-reversed}
use Rattle.value_text.proofs.items.Items.skip.Goals as goal

pub returns-in-Own : goal.returns-in-Own
returns-in-Own t c =
    let few : c.args.count ≤ length c.in-Own.left = omega (arith, c.requires, ap (λ items. length (items_of items)) c.in-Own.is, length-reverse c.in-Own.left) in
    ap reverse c.truncate.ensures ∙ kept-reversed c.in-Own.left c.args.count (c.len.result - c.args.count) few (ap (λ n. n - c.args.count) c.len.ensures)
    ∙ ap (λ items. drop c.args.count (items_of items)) (sym c.in-Own.is)
