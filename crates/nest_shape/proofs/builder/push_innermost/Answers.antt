use Rattle.std.proofs.Common.{◌∙◌, ◌++◌, ◌∷◌, ◌<◌, [], ap, arith, length, refl}
use Rattle.std.proofs.lemmas.Result.{on_ok_weaker}
use Rattle.nest_shape.specs.declared.builder.Open.{Open}
use Rattle.nest_shape.proofs.BuildingLemmas.{last-set}
use Rattle.nest_shape.proofs.builder.push_innermost.Goals as goal

pub returns-in-Some : goal.returns-in-Some
returns-in-Some c =
    let begun = c.args.begun.now in
    let innermost = c.in-Some.innermost.now in
    let within : c.saturating_sub-last.result < length begun = c.in-Some.ensures.some.0 refl in
    on_ok_weaker c.push.result
    (λ pushed.
    let one : Open = record { depth = innermost.depth; members = c.push.new.self } in
    let set = last-set begun c.saturating_sub-last.result innermost one (omega (arith, c.len.ensures, c.saturating_sub-last.ensures, within)) c.in-Some.ensures.value in
    record {
      front = set.front;
      innermost = innermost;
      was = set.was;
      is = set.is ∙ ap (λ members. set.front ++ record { depth = innermost.depth; members = members } ∷ []) pushed;
    })
    c.push.ensures.ok
