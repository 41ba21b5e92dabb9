use Rattle.std.proofs.Common.{drop}
use Rattle.logical_types.specs.Faults.{faults_of_parts}
use Rattle.logical_types.specs.Tree.{plain_parts}
use Rattle.type_split.specs.Nodes.{streams_in_parts}
use Rattle.type_split.specs.Splitting.{CanSplit}
use Rattle.type_split.proofs.SplitLemmas.{AreLeft}
use Rattle.type_split.proofs.splitting.Splitting.+split.Given as goal

-- the parts that are left are to be added behind what was added
abbrev pub invariant-add_parts-parts : goal.invariant-add_parts-parts
invariant-add_parts-parts l =
    CanSplit l.initial.self l.place (faults_of_parts l.place.around (plain_parts l.parts)) (streams_in_parts (plain_parts l.parts))
    → AreLeft l.initial.self l.self l.place (plain_parts l.parts) (plain_parts (drop l.part-index l.parts))
