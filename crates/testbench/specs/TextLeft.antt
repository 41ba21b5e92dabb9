-- The text that is left of a driving bench, in code (this project's own).
use Rattle.std.specs.Prelude.{◌≡◌, ℕ, List, ◌++◌, map}
use Rattle.physical_stream.specs.Params.{Parameters}
use Rattle.physical_stream.specs.declared.head.Head.{Head}
use Rattle.physical_stream.specs.declared.transfer.Transfer.{Transfer}
use Rattle.handshake.specs.declared.cursor.Cursor.{Cursor}
use Rattle.handshake.specs.declared.feed.TransferFeed.{Ghosts}
use Rattle.testbench.specs.Pieces.{lines_left, writings_of}
use Rattle.testbench.specs.declared.bench_pieces.BenchPieces.{BenchPieces}

-- each cursor is of the stream with its head
abbrev pub HaveParams : {F : Type 0} {T : Ghosts F} → List Head → List (Cursor F T) → Type 0
HaveParams {F} {T} heads cursors = map (λ (head : Head). head.params) heads ≡ map (λ (c : Cursor F T). c.params) cursors

-- the lines before the processes, where they are still to come, those that are left of the processes, and those after them
abbrev pub text_left : {F : Type 0} {T : Ghosts F} → (rest whole : F → List Transfer) → BenchPieces F T → List ℕ
text_left rest whole pieces = pieces.front ++ (lines_left pieces.heads pieces.spot (writings_of rest whole pieces.cursors.items) ++ pieces.back)
