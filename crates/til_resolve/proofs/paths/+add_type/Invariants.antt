use Rattle.std.proofs.Common.{take}
use Rattle.til_resolve.specs.PathsWritten.{AddsPaths, paths_in_list}
use Rattle.til_resolve.proofs.paths.+add_type.Given as goal

abbrev pub invariant-add_parts-parts : goal.invariant-add_parts-parts
invariant-add_parts-parts l = AddsPaths l.initial.paths l.paths (paths_in_list (take l.part-index l.parts))
