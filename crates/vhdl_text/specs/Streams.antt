-- The streams of a bench, found by their paths (this project's own).
use Rattle.std.specs.Prelude.{◌≡◌, ◌≤◌, length}
use Rattle.vhdl_text.specs.declared.streams.Streams.{Streams}
use Rattle.vhdl_text.specs.Lines.{paths_of}
use Rattle.vhdl_text.specs.WellFormed.{AreApart}

-- the paths are those of the heads, which are few and apart
pub record AreNamed (streams : Streams) : Type 0 where
  pub paths : streams.paths ≡ paths_of streams.heads
  pub apart : AreApart streams.heads
  pub few : length streams.heads ≤ 65536
