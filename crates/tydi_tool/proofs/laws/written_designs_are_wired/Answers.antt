use Rattle.tydi_tool.proofs.WiringLawLemmas.{languages-alike, languages-refused, written-wired}
use Rattle.tydi_tool.proofs.laws.written_designs_are_wired.Goals as goal

pub returns-clause-wired : goal.returns-clause-wired
returns-clause-wired c =
    written-wired c.values_are_read_as_printed.ensures.named c.first_clash_is_reported.ensures c.each_signal_is_assigned_once.ensures
    c.checked_nets_carry.ensures.driven c.checked_nets_carry.ensures.carry

pub returns-clause-alike : goal.returns-clause-alike
returns-clause-alike c = languages-alike

pub returns-clause-refused : goal.returns-clause-refused
returns-clause-refused c = λ known project line own. languages-refused known project line own
