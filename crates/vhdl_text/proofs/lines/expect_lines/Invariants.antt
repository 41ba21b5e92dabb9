use Rattle.std.proofs.Common.{◌≡◌, length}
use Rattle.vhdl_text.specs.Reading.{the_lines}
use Rattle.vhdl_text.proofs.lines.expect_lines.Given as goal

-- the lines that still have to stand there, in those that are left
abbrev pub invariant-lines : goal.invariant-lines
invariant-lines l = the_lines l.initial.wanted l.initial.lines ≡ the_lines l.wanted l.lines

abbrev pub decreases-lines : goal.decreases-lines
decreases-lines l = length l.wanted
