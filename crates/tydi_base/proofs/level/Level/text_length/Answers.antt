use Rattle.std.proofs.Common.{ℕ, ◌∙◌, ap, arith, length}
use Rattle.std.specs.Fmt.{decimal}
use Rattle.tydi_base.specs.Level.{LevelNumbers}
use Rattle.tydi_base.proofs.LevelLaws.{text-four, text-one, text-three, text-two}
use Rattle.tydi_base.proofs.LevelText.{length-byte, length-four, length-three, length-two}
use Rattle.tydi_base.proofs.level.Level.text_length.Goals as goal

pub returns-then-self-ne0-clause-bytes : goal.returns-then-self-ne0-clause-bytes
returns-then-self-ne0-clause-bytes c =
    let level : LevelNumbers = record { first = c.self.inside.first; second = c.self.inside.second; third = c.self.inside.third; fourth = c.self.inside.fourth } in
    let digits = λ (n : ℕ). length (decimal n) in
    let first = c.decimal_length-first.ensures.digits ∙ ap digits c.from.ensures in
    let second = c.decimal_length-second.ensures.digits ∙ ap digits c.from-2.ensures in
    let third = c.decimal_length-third.ensures.digits ∙ ap digits c.from-3.ensures in
    let fourth = c.decimal_length-fourth.ensures.digits ∙ ap digits c.from-4.ensures in
    rw (← c.self.view_is, text-four level c.if-self-ne0.true) (omega (arith, length-four level, first, second, third, fourth))

pub returns-then-self-ne0-clause-few : goal.returns-then-self-ne0-clause-few
returns-then-self-ne0-clause-few c =
    let level : LevelNumbers = record { first = c.self.inside.first; second = c.self.inside.second; third = c.self.inside.third; fourth = c.self.inside.fourth } in
    let digits = λ (n : ℕ). length (decimal n) in
    let first = c.decimal_length-first.ensures.digits ∙ ap digits c.from.ensures in
    let second = c.decimal_length-second.ensures.digits ∙ ap digits c.from-2.ensures in
    let third = c.decimal_length-third.ensures.digits ∙ ap digits c.from-3.ensures in
    let fourth = c.decimal_length-fourth.ensures.digits ∙ ap digits c.from-4.ensures in
    let low = c.self.invariant.first in
    omega (
      arith,
      first,
      second,
      third,
      fourth,
      length-byte level.first (omega arith),
      length-byte level.second c.self.invariant.second,
      length-byte level.third c.self.invariant.third,
      length-byte level.fourth c.self.invariant.fourth,
    )

pub returns-then-self-ne0-2-clause-bytes : goal.returns-then-self-ne0-2-clause-bytes
returns-then-self-ne0-2-clause-bytes c =
    let level : LevelNumbers = record { first = c.self.inside.first; second = c.self.inside.second; third = c.self.inside.third; fourth = c.self.inside.fourth } in
    let digits = λ (n : ℕ). length (decimal n) in
    let first = c.decimal_length-first.ensures.digits ∙ ap digits c.from.ensures in
    let second = c.decimal_length-second.ensures.digits ∙ ap digits c.from-2.ensures in
    let third = c.decimal_length-third.ensures.digits ∙ ap digits c.from-3.ensures in
    let fourth = c.decimal_length-fourth.ensures.digits ∙ ap digits c.from-4.ensures in
    rw (← c.self.view_is, text-three level c.if-self-ne0.false c.if-self-ne0-2.true) (omega (arith, length-three level, first, second, third, fourth))

pub returns-then-self-ne0-2-clause-few : goal.returns-then-self-ne0-2-clause-few
returns-then-self-ne0-2-clause-few c =
    let level : LevelNumbers = record { first = c.self.inside.first; second = c.self.inside.second; third = c.self.inside.third; fourth = c.self.inside.fourth } in
    let digits = λ (n : ℕ). length (decimal n) in
    let first = c.decimal_length-first.ensures.digits ∙ ap digits c.from.ensures in
    let second = c.decimal_length-second.ensures.digits ∙ ap digits c.from-2.ensures in
    let third = c.decimal_length-third.ensures.digits ∙ ap digits c.from-3.ensures in
    let fourth = c.decimal_length-fourth.ensures.digits ∙ ap digits c.from-4.ensures in
    let low = c.self.invariant.first in
    omega (
      arith,
      first,
      second,
      third,
      fourth,
      length-byte level.first (omega arith),
      length-byte level.second c.self.invariant.second,
      length-byte level.third c.self.invariant.third,
      length-byte level.fourth c.self.invariant.fourth,
    )

pub returns-then-self-ne0-3-clause-bytes : goal.returns-then-self-ne0-3-clause-bytes
returns-then-self-ne0-3-clause-bytes c =
    let level : LevelNumbers = record { first = c.self.inside.first; second = c.self.inside.second; third = c.self.inside.third; fourth = c.self.inside.fourth } in
    let digits = λ (n : ℕ). length (decimal n) in
    let first = c.decimal_length-first.ensures.digits ∙ ap digits c.from.ensures in
    let second = c.decimal_length-second.ensures.digits ∙ ap digits c.from-2.ensures in
    let third = c.decimal_length-third.ensures.digits ∙ ap digits c.from-3.ensures in
    let fourth = c.decimal_length-fourth.ensures.digits ∙ ap digits c.from-4.ensures in
    rw (← c.self.view_is, text-two level c.if-self-ne0.false c.if-self-ne0-2.false c.if-self-ne0-3.true) (omega (arith, length-two level, first, second, third, fourth))

pub returns-then-self-ne0-3-clause-few : goal.returns-then-self-ne0-3-clause-few
returns-then-self-ne0-3-clause-few c =
    let level : LevelNumbers = record { first = c.self.inside.first; second = c.self.inside.second; third = c.self.inside.third; fourth = c.self.inside.fourth } in
    let digits = λ (n : ℕ). length (decimal n) in
    let first = c.decimal_length-first.ensures.digits ∙ ap digits c.from.ensures in
    let second = c.decimal_length-second.ensures.digits ∙ ap digits c.from-2.ensures in
    let third = c.decimal_length-third.ensures.digits ∙ ap digits c.from-3.ensures in
    let fourth = c.decimal_length-fourth.ensures.digits ∙ ap digits c.from-4.ensures in
    let low = c.self.invariant.first in
    omega (
      arith,
      first,
      second,
      third,
      fourth,
      length-byte level.first (omega arith),
      length-byte level.second c.self.invariant.second,
      length-byte level.third c.self.invariant.third,
      length-byte level.fourth c.self.invariant.fourth,
    )

pub returns-else-self-ne0-3-clause-bytes : goal.returns-else-self-ne0-3-clause-bytes
returns-else-self-ne0-3-clause-bytes c =
    let level : LevelNumbers = record { first = c.self.inside.first; second = c.self.inside.second; third = c.self.inside.third; fourth = c.self.inside.fourth } in
    let digits = λ (n : ℕ). length (decimal n) in
    let first = c.decimal_length-first.ensures.digits ∙ ap digits c.from.ensures in
    let second = c.decimal_length-second.ensures.digits ∙ ap digits c.from-2.ensures in
    let third = c.decimal_length-third.ensures.digits ∙ ap digits c.from-3.ensures in
    let fourth = c.decimal_length-fourth.ensures.digits ∙ ap digits c.from-4.ensures in
    rw (← c.self.view_is, text-one level c.if-self-ne0.false c.if-self-ne0-2.false c.if-self-ne0-3.false) (omega (arith, first, second, third, fourth))

pub returns-else-self-ne0-3-clause-few : goal.returns-else-self-ne0-3-clause-few
returns-else-self-ne0-3-clause-few c =
    let level : LevelNumbers = record { first = c.self.inside.first; second = c.self.inside.second; third = c.self.inside.third; fourth = c.self.inside.fourth } in
    let digits = λ (n : ℕ). length (decimal n) in
    let first = c.decimal_length-first.ensures.digits ∙ ap digits c.from.ensures in
    let second = c.decimal_length-second.ensures.digits ∙ ap digits c.from-2.ensures in
    let third = c.decimal_length-third.ensures.digits ∙ ap digits c.from-3.ensures in
    let fourth = c.decimal_length-fourth.ensures.digits ∙ ap digits c.from-4.ensures in
    let low = c.self.invariant.first in
    omega (
      arith,
      first,
      second,
      third,
      fourth,
      length-byte level.first (omega arith),
      length-byte level.second c.self.invariant.second,
      length-byte level.third c.self.invariant.third,
      length-byte level.fourth c.self.invariant.fourth,
    )
