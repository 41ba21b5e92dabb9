-- The text that an answer gives to out (this project's own).
use Rattle.std.specs.Prelude.{ℕ, List}
use Rattle.bench_run.specs.TextLeft as benches
use Rattle.handshake.specs.declared.feed.TransferFeed as transfers
use Rattle.port_drive.specs.PortText.{text_left}
use Rattle.scheduler.specs.Planners.{rest_of, whole_of}
use Rattle.scheduler.specs.declared.planner.Planner.{Planner}
use Rattle.testbench.specs.TextLeft as lines
use Rattle.testbench.specs.declared.bench_pieces.BenchPieces.{BenchPieces}
use Rattle.vcd_read.specs.Kept.{bytes_of}
use Rattle.value_text.specs.Pieces as values
use Rattle.vhdl_writer.specs.Designs as designs
use Rattle.watch_text.specs.Pieces as monitors
use Rattle.tydi_tool.specs.declared.source.Source.{Source}
use Rattle.tydi_tool.specs.declared.source.Source.TheVariants as sources

-- the rest of the text of the testbench of a port
abbrev pub lines_left : {T : transfers.Ghosts Planner} → BenchPieces Planner T → List ℕ
lines_left pieces = lines.text_left rest_of whole_of pieces

-- the rest of the text of a source
abbrev pub text_of : Source → List ℕ
text_of (sources.Whole text) = text
text_of (sources.Rows pieces) = text_left pieces
text_of (sources.Cycles pieces) = benches.text_left pieces
text_of (sources.Design pieces) = designs.text_left pieces
text_of (sources.Lines pieces) = lines_left pieces
text_of (sources.Dump text) = bytes_of text
text_of (sources.Value pieces) = values.text_left pieces
text_of (sources.Watch pieces) = monitors.text_left pieces
