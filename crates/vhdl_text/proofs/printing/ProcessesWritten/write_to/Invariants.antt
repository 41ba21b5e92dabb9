use Rattle.std.proofs.Common.{◌≡◌, ◌++◌, take}
use Rattle.std.specs.List.{flat_map}
use Rattle.vhdl_text.specs.Text.{process_text}
use Rattle.vhdl_text.proofs.printing.ProcessesWritten.write_to.Given as goal

-- the text so far stands behind what was there
abbrev pub invariant-procs : goal.invariant-procs
invariant-procs l = l.out ≡ l.initial.out ++ flat_map (process_text l.self.0.now) (take l.process-index l.process-items)
