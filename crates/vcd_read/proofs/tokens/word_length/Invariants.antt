use Rattle.std.proofs.Common.{◌≡◌, ◌-◌, ◌≤◌, false, length, take}
use Rattle.vcd_read.specs.Tokens.{has_blank}
use Rattle.vcd_read.proofs.tokens.word_length.Given as goal

-- no white space stands before this place
abbrev pub invariant-bytes : goal.invariant-bytes
invariant-bytes l = (has_blank (take l.count l.text) ≡ false) × (l.count ≤ length l.text)

abbrev pub decreases-bytes : goal.decreases-bytes
decreases-bytes l = length l.text - l.count
