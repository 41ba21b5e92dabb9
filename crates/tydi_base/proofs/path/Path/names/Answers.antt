use Rattle.std.proofs.lemmas.List.Sums.{AllPass-from_list_all}
use Rattle.tydi_base.specs.Name.{is_name}
use Rattle.tydi_base.proofs.path.Path.names.Goals as goal

pub returns-clause-each : goal.returns-clause-each
returns-clause-each c = AllPass-from_list_all is_name c.args.self.now (rw (← c.self.view_is) c.self.invariant)
