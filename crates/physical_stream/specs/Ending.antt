-- How the cycles of a stream end (this project's own).
use Rattle.std.specs.Prelude.{ℕ, ◌+◌, List, Option, Some, None, if◌then◌else◌, is_some}
use Rattle.physical_stream.specs.Params.{Parameters}
use Rattle.physical_stream.specs.Shape.{tail_of, is_whole}
use Rattle.physical_stream.specs.Cycles.{Cycle, items_done, waiting_of}
use Rattle.physical_stream.specs.declared.item.Tail.{Tail}
use Rattle.physical_stream.specs.declared.item.Tail.TheVariants as tails
use Rattle.physical_stream.specs.declared.end.End.{End}
use Rattle.physical_stream.specs.declared.end.End.TheVariants.{Whole, Pending, Unclosed}

-- the open sequences after this tail, where the stream does not end whole
abbrev pub unclosed : Option Tail → End
unclosed None = Whole
unclosed (Some tails.Elem) = Unclosed 0
unclosed (Some (tails.Close i)) = Unclosed (i + 1)

abbrev pub ending_after : ℕ → Option Tail → End
ending_after dims tail = if is_whole dims tail then Whole else unclosed tail

-- Pending where the last cycle has valid without ready; else what the items done leave open
abbrev pub ending_of : Parameters → List Cycle → End
ending_of p cycles = if is_some (waiting_of cycles) then Pending else ending_after p.dims (tail_of (items_done p cycles))
