-- How many items a monitor has beside the bytes of its text. This project's own.
use Rattle.std.specs.Prelude.{◌<◌, length}
use Rattle.std.specs.List.{All}
use Rattle.watch_text.specs.Statements.{PlainWatch}
use Rattle.watch_text.specs.Text.{watch_text}
use Rattle.watch_text.specs.WellFormed.{IsWellFormed}

-- each list of expected items has fewer items than the text has bytes
abbrev pub TablesAreShorterThanTheirText : Type 0
TablesAreShorterThanTheirText = (watch : PlainWatch) → IsWellFormed watch → All (λ want. length want < length (watch_text watch)) watch.want
