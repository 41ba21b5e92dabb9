use Rattle.std.proofs.Common.{◌≡◌, map, eqb, take}
use Rattle.vhdl_meaning.proofs.draft.bits_for.Given as goal

abbrev pub invariant-digits : goal.invariant-digits
invariant-digits l = l.bits ≡ map (λ digit. eqb digit 49) (take l.digit-index l.word)
