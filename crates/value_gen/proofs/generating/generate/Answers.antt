use Rattle.std.proofs.Common.{◌≡◌, ◌∙◌, ℕ, List, [], map, sym, ap, arith}
use Rattle.type_split.specs.Streams.{plain_split}
use Rattle.logical_value.specs.Fits.{fits_split}
use Rattle.logical_value.specs.Tree.{plain}
use Rattle.logical_value.specs.declared.value.Value.{Value}
use Rattle.value_gen.specs.Draws.{Drawn}
use Rattle.value_gen.specs.Made.{generated, roots_from}
use Rattle.value_gen.proofs.FitLemmas.{generated-fits}
use Rattle.value_gen.proofs.generating.generate.Goals as goal

pub returns-clause-fits : goal.returns-clause-fits
returns-clause-fits c =
    let split = plain_split c.args.split.now in
    let made : c.in_ok-roots.roots ≡ generated split c.args.seed c.args.count =
    ap (λ (d : Drawn (List (List Value))). d.made) (sym c.in_ok-roots.ensures.made)
    ∙ ap (λ (n : ℕ). (roots_from c.args.count split.nodes split.roots [] n).made) c.new-making.ensures.last in
    ap (λ (l : List (List Value)). fits_split split (map (map plain) l)) made ∙ generated-fits split c.requires.split c.args.seed c.args.count

pub returns-clause-value : goal.returns-clause-value
returns-clause-value c =
    let split = plain_split c.args.split.now in (
      ap (λ (d : Drawn (List (List Value))). d.made) (sym c.in_ok-roots.ensures.made)
          ∙ ap (λ (n : ℕ). (roots_from c.args.count split.nodes split.roots [] n).made) c.new-making.ensures.last,
      omega (arith, c.in_ok-roots.ensures.fills, c.new-making.ensures.room),
    )
