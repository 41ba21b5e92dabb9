use Rattle.std.proofs.Common.{ap, sym}
use Rattle.std.specs.Prelude.{length}
use Rattle.std.proofs.lemmas.List.Splits.{join_with_byte-slice_split}
use Rattle.tydi_reading.proofs.pieces.Pieces.bytes_left.Goals as goal

pub returns-in-Some : goal.returns-in-Some
returns-in-Some g c = rw (← c.self.view_is, c.in-Some.is) (ap length (sym (join_with_byte-slice_split g.row.SEPARATOR c.in-Some.text.now)))
