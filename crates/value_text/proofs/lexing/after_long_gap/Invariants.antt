use Rattle.std.proofs.Common.{◌≡◌, length}
use Rattle.value_text.specs.Tokens.{after_gap, gap_from}
use Rattle.value_text.proofs.lexing.after_long_gap.Given as goal

-- the text behind the rest of the gap is that behind all of it
abbrev pub invariant-bytes : goal.invariant-bytes
invariant-bytes l = gap_from l.in_comment l.rest ≡ after_gap l.bytes

abbrev pub decreases-bytes : goal.decreases-bytes
decreases-bytes l = length l.rest
