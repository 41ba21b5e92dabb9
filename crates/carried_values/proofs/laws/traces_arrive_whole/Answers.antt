use Rattle.carried_values.proofs.LawLemmas.{traces_arrive_whole}
use Rattle.carried_values.proofs.laws.traces_arrive_whole.Goals as goal

pub returns : goal.returns
returns c =
    let carry = c.carried_traces_keep_their_laws.ensures in
    traces_arrive_whole carry.stand carry.streams carry.rise carry.legal carry.endings c.compatible_ports_carry.ensures.ports c.offences_fall_with_tags.ensures
