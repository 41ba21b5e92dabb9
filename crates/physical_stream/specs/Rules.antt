-- The eleven rules (after the Tydi specification's complexity levels; numbers, names and levels are this project's own).
use Rattle.std.specs.Prelude.{ℕ, ◌≤◌, List, codes}
use Rattle.tydi_base.specs.Level.{LevelNumbers, number_of}
use Rattle.physical_stream.specs.declared.rule.Rule.{Rule}
use Rattle.physical_stream.specs.declared.rule.Rule.TheVariants.{Hold, Index, LaneLast, Strobe, Start, End, Empty, InnerPause, OuterPause, Nest, Tag}

abbrev pub number_of_rule : Rule → ℕ
number_of_rule Hold = 1
number_of_rule Index = 2
number_of_rule LaneLast = 3
number_of_rule Strobe = 4
number_of_rule Start = 5
number_of_rule End = 6
number_of_rule Empty = 7
number_of_rule InnerPause = 8
number_of_rule OuterPause = 9
number_of_rule Nest = 10
number_of_rule Tag = 11

abbrev pub name_of_rule : Rule → List ℕ
name_of_rule Hold = codes "Hold"
name_of_rule Index = codes "Index"
name_of_rule LaneLast = codes "LaneLast"
name_of_rule Strobe = codes "Strobe"
name_of_rule Start = codes "Start"
name_of_rule End = codes "End"
name_of_rule Empty = codes "Empty"
name_of_rule InnerPause = codes "InnerPause"
name_of_rule OuterPause = codes "OuterPause"
name_of_rule Nest = codes "Nest"
name_of_rule Tag = codes "Tag"

-- the highest level at which a rule binds; it binds at every level below too
abbrev pub binds_up_to : Rule → ℕ
binds_up_to Hold = 8
binds_up_to Index = 8
binds_up_to LaneLast = 7
binds_up_to Strobe = 6
binds_up_to Start = 5
binds_up_to End = 4
binds_up_to Empty = 3
binds_up_to InnerPause = 2
binds_up_to OuterPause = 1
binds_up_to Nest = 8
binds_up_to Tag = 8

-- the rule binds at this level: its first number alone decides
abbrev pub Binds : Rule → LevelNumbers → Type 0
Binds rule level = number_of level ≤ binds_up_to rule
