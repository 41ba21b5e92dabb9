use Rattle.std.proofs.Common.{◌≡◌, take}
use Rattle.vhdl_text.specs.Lines.{paths_of}
use Rattle.vhdl_text.proofs.streams.path_texts.Given as goal

-- the paths so far
abbrev pub invariant-heads : goal.invariant-heads
invariant-heads l = l.paths ≡ paths_of (take l.head-index l.heads)
