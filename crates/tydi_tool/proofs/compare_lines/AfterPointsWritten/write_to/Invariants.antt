use Rattle.std.proofs.Common.{◌≡◌, ◌++◌, ℕ, codes, decimal, take}
use Rattle.std.specs.List.{flat_map}
use Rattle.tydi_tool.proofs.compare_lines.AfterPointsWritten.write_to.Given as goal

-- the numbers so far, each with its point, stand behind what was there
abbrev pub invariant-numbers : goal.invariant-numbers
invariant-numbers l = l.out ≡ l.initial.out ++ flat_map (λ (number : ℕ). codes "." ++ decimal number) (take l.number-index l.number-items)
