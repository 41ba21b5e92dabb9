use Rattle.std.proofs.Common.{◌≡◌, length}
use Rattle.vhdl_meaning.specs.RunDraft.{given_in}
use Rattle.vhdl_meaning.specs.RunText.{given_of, nothing_given}
use Rattle.vhdl_meaning.proofs.run_reading.read_lines.Given as goal

-- the lines that are left give with the draft what all of them gave at the start
abbrev pub invariant-lines : goal.invariant-lines
invariant-lines l = (length l.draft.ready.items ≡ length l.heads)
    × (given_of l.cycles l.heads l.count (given_in l.draft) l.lines ≡ given_of l.cycles l.heads l.count (nothing_given (length l.heads)) l.fn.lines)

abbrev pub decreases-lines : goal.decreases-lines
decreases-lines l = length l.lines
