use Rattle.std.proofs.Common.{◌≡◌, ◌∙◌, List, ℕ, ◌∷◌, length, sym, ap, arith}
use Rattle.std.specs.List.{flat_map}
use Rattle.std.proofs.lemmas.List.{take_all}
use Rattle.tydi_base.specs.Path.{path_text}
use Rattle.tydi_base.proofs.LengthLemmas.{length-path_text, pointed}
use Rattle.tydi_base.proofs.path.Path.dotted_length.Goals as goal

pub returns : goal.returns
returns c =
    let first = c.in-Some.first.now in
    let others = c.in-Some.others.now in
    let whole : c.args.self.now ≡ first ∷ others = sym c.names-2.ensures.value ∙ c.in-Some.ensures.cases.0 in
    omega (
      arith,
      c.names.invariant,
      length-path_text first others,
      ap (λ (names : List (List ℕ)). length (path_text names)) whole,
      ap length c.as_bytes.ensures.value,
      ap (λ (names : List (List ℕ)). length (flat_map pointed names)) (take_all c.names.name-index others c.names-test.false),
    )
