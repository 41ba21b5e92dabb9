use Rattle.std.proofs.Common.{◌≡◌, ◌++◌}
use Rattle.tydi_help.specs.Texts.{spaces}
use Rattle.tydi_help.proofs.writing.SpacesWritten.write_to.Given as goal

-- the spaces so far stand behind what was there
abbrev pub invariant-spaces : goal.invariant-spaces
invariant-spaces l = l.out ≡ l.initial.out ++ spaces l.counter
