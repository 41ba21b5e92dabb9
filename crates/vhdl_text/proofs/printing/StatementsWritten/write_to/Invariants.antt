use Rattle.std.proofs.Common.{◌≡◌, ◌++◌, take}
use Rattle.std.specs.List.{flat_map}
use Rattle.vhdl_text.specs.Text.{stmt_text}
use Rattle.vhdl_text.proofs.printing.StatementsWritten.write_to.Given as goal

-- the text so far stands behind what was there
abbrev pub invariant-stmts : goal.invariant-stmts
invariant-stmts l = l.out ≡ l.initial.out ++ flat_map (stmt_text l.self.0.now) (take l.stmt-index l.stmt-items)
