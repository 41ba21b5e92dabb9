-- Statements with others inside, and their text by the line that begins them and the line that ends them. This project's own.
use Rattle.std.specs.Prelude.{ℕ, ◌+◌, List, codes}
use Rattle.physical_stream.specs.declared.head.Head.{Head}
use Rattle.vhdl_text.specs.Text.{◌⁀◌}
use Rattle.watch_text.specs.Statements.{Statements}
use Rattle.watch_text.specs.Text.{active_test, if_line, last_test, line, loop_line, statements_text}
use Rattle.watch_text.specs.declared.statements.Block.{Block}
use Rattle.watch_text.specs.declared.statements.Block.TheVariants as blocks

-- the line that begins a statement of this kind
abbrev pub first_line : Head → Block → List ℕ
first_line head blocks.Lanes = loop_line (codes "lane") head.params.lanes
first_line head blocks.Dims = loop_line (codes "dim") head.params.dims
first_line head blocks.IfActive = if_line (active_test head)
first_line head blocks.IfLast = if_line (last_test head)

-- the line that ends it
abbrev pub last_line : Block → List ℕ
last_line blocks.Lanes = codes "end loop;"
last_line blocks.Dims = codes "end loop;"
last_line blocks.IfActive = codes "end if;"
last_line blocks.IfLast = codes "end if;"

-- its lines, with these statements inside
abbrev pub block_text : Head → ℕ → Block → Statements → List ℕ
block_text head indent block body = line indent (first_line head block) ⁀ statements_text head (indent + 2) body ⁀ line indent (last_line block)
