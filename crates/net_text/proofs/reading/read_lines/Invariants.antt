use Rattle.std.proofs.Common.{◌≡◌, length}
use Rattle.net_text.specs.Draft.{IsDraft, net_in}
use Rattle.net_text.specs.Text.{net_with, no_net}
use Rattle.net_text.proofs.reading.read_lines.Given as goal

-- the lines that are left give with the draft what all of them gave at the start
abbrev pub invariant-lines : goal.invariant-lines
invariant-lines l = IsDraft l.draft × (l.draft.streams.list.now ≡ l.streams)
    × (net_with l.cycles l.streams (net_in l.draft) l.lines ≡ net_with l.cycles l.streams (no_net (length l.streams)) l.fn.lines)

abbrev pub decreases-lines : goal.decreases-lines
decreases-lines l = length l.lines
