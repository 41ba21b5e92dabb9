use Rattle.std.proofs.Common.{◌≡◌, true}
use Rattle.complexity_rules.proofs.TableLemmas.{binds_is_monotone}
use Rattle.complexity_rules.proofs.table.table_is_monotone.Goals as goal

pub prove-unreachable-requires : goal.prove-unreachable-requires
prove-unreachable-requires c = let on : c.is_monotone-monotone.result ≡ true = c.is_monotone-monotone.ensures.1 binds_is_monotone in cc

pub returns : goal.returns
returns c = c.is_monotone-monotone.ensures.0 c.if-prove.false
