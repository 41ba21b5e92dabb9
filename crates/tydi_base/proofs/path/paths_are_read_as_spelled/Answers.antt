use Rattle.tydi_base.proofs.PathLaws.{path_of-path_text, path_of-some, path_at-colon_text, path_at-colons_some}
use Rattle.tydi_base.proofs.path.paths_are_read_as_spelled.Goals as goal

pub returns-clause-spelled : goal.returns-clause-spelled
returns-clause-spelled c = path_of-path_text

pub returns-clause-read : goal.returns-clause-read
returns-clause-read c = path_of-some

pub returns-clause-spelled_with_colons : goal.returns-clause-spelled_with_colons
returns-clause-spelled_with_colons c = path_at-colon_text

pub returns-clause-read_with_colons : goal.returns-clause-read_with_colons
returns-clause-read_with_colons c = path_at-colons_some
