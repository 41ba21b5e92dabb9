use Rattle.std.proofs.Common.{◌≡◌, ℕ, ◌∙◌, ap, arith}
use Rattle.std.specs.Option.{is_some}
use Rattle.value_text.specs.Stops.{longest}
use Rattle.value_text.specs.Words.{number_of}
use Rattle.value_text.proofs.stops.decimal_length.Goals as goal

pub returns : goal.returns
returns c =
    let all : c.counts.count ≡ 39 = omega (arith, c.counts.invariant.few) in
    c.counts.invariant.best ∙ ap (λ (n : ℕ). longest (λ digits. is_some (number_of digits)) n c.args.word.now) all
