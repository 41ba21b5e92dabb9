use Rattle.std.proofs.Common.{◌≡◌, map, eqb, take}
use Rattle.plan_text.proofs.words.ready_of.Given as goal

abbrev pub invariant-digits : goal.invariant-digits
invariant-digits l = l.ready ≡ map (λ digit. eqb digit 49) (take l.digit-index l.word)
