use Rattle.std.proofs.Common.{◌≡◌, false, take}
use Rattle.std.specs.List.{list_any}
use Rattle.tydi_tool.specs.Watches.{reports}
use Rattle.tydi_tool.proofs.watch_lines.has_report.Given as goal

-- no process so far has set its fault
abbrev pub invariant-streams : goal.invariant-streams
invariant-streams l = list_any reports (take l.one-index l.watched) ≡ false
