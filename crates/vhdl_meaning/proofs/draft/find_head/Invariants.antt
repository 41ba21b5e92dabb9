use Rattle.std.proofs.Common.{◌≡◌, drop}
use Rattle.vhdl_meaning.specs.RunText.{find_head}
use Rattle.vhdl_meaning.proofs.draft.find_head.Given as goal

-- no stream before has this path
abbrev pub invariant-heads : goal.invariant-heads
invariant-heads l = find_head l.path l.number (drop l.number l.heads) ≡ find_head l.path 0 l.heads
