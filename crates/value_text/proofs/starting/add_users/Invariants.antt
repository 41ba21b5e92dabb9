use Rattle.std.proofs.Common.{◌≡◌, ◌++◌, drop}
use Rattle.value_text.specs.Canonical.{users_text}
use Rattle.value_text.specs.Items.{items_of}
use Rattle.value_text.specs.Pending.{lines_text}
use Rattle.value_text.proofs.starting.add_users.Given as goal

-- the lines that are added, and those of the streams that are left, are all
abbrev pub invariant-streams : goal.invariant-streams
invariant-streams l = lines_text l.lines ++ users_text (drop l.stream-index l.streams) (items_of l.left) ≡ lines_text l.initial.lines ++ users_text l.streams (items_of l.initial.left)
