use Rattle.std.proofs.Common.{◌≡◌, length}
use Rattle.std.specs.List.{list_all}
use Rattle.tydi_base.specs.Name.{is_name}
use Rattle.tydi_base.specs.Pieces.{pieces_of}
use Rattle.tydi_tool.proofs.words.are_names.Given as goal

-- all are names where those that are left are
abbrev pub invariant-names : goal.invariant-names
invariant-names l = list_all is_name (pieces_of 46 l.rest) ≡ list_all is_name (pieces_of 46 l.text)

abbrev pub decreases-names : goal.decreases-names
decreases-names l = length l.rest
