use Rattle.std.proofs.Common.{take}
use Rattle.std.specs.Prelude.{IsTrue}
use Rattle.std.specs.List.{list_all}
use Rattle.tydi_base.specs.Name.{is_name}
use Rattle.tydi_base.proofs.path.are_names.Given as goal

-- the names so far are names
abbrev pub invariant-names : goal.invariant-names
invariant-names l = IsTrue (list_all is_name (take l.name-index l.names))
