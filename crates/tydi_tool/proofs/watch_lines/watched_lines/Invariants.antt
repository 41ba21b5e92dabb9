use Rattle.std.proofs.Common.{◌≡◌, ◌++◌, drop}
use Rattle.watch_text.specs.Statements.{plain_watch}
use Rattle.tydi_tool.specs.Watches as spec
use Rattle.tydi_tool.proofs.watch_lines.watched_lines.Given as goal

-- the lines of the streams so far, and those of the others after them, are all
abbrev pub invariant-streams : goal.invariant-streams
invariant-streams l =
    let watch = plain_watch l.watch in
    l.lines ++ spec.lines_from watch l.stream (drop l.stream l.watched) ≡ spec.watched_lines watch l.watched
