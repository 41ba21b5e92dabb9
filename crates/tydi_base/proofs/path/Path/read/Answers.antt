use Rattle.std.proofs.Common.{◌∙◌, sym}
use Rattle.tydi_base.proofs.PathLoops.{names_of-some}
use Rattle.tydi_base.proofs.path.Path.read.Goals as goal

pub invariant_of-result-in-Some : goal.invariant_of-result-in-Some
invariant_of-result-in-Some c = names_of-some c.args.colons c.args.text.now c.in-Some.names (sym c.in_ok-read_names.ensures ∙ c.in-Some.is)
