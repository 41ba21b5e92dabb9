-- The versions of a trace text (this project's own): in the first each level has one number, in the second one to four.
use Rattle.std.specs.Prelude.{ℕ, Bool, true, List, codes, if◌then◌else◌}
use Rattle.std.specs.List.{list_all}
use Rattle.tydi_base.specs.Level.{LevelNumbers, has_one_number}
use Rattle.physical_stream.specs.declared.head.Head.{Head}
use Rattle.cycle_trace.specs.declared.version.Version.{Version}
use Rattle.cycle_trace.specs.declared.version.Version.TheVariants.{One, Two}

-- a stream of this level may stand in a text of this version
abbrev pub may_have_level : Version → LevelNumbers → Bool
may_have_level One level = has_one_number level
may_have_level Two level = true

-- these heads may stand in a text of this version
abbrev pub may_have : Version → List Head → Bool
may_have version heads = list_all (λ head. may_have_level version head.params.level) heads

-- the version that a header of these heads is written in: the first where each level has one number
abbrev pub version_of : List Head → Version
version_of heads = if may_have One heads then One else Two

-- the first line of a text of this version
abbrev pub title_text : Version → List ℕ
title_text One = codes "tydi-trace 1"
title_text Two = codes "tydi-trace 2"
