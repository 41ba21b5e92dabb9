use Rattle.std.proofs.Common.{Err, subst}
use Rattle.trace_decode.specs.declared.fault.DecodeFault.{DecodeFault}
use Rattle.port_gen.specs.Found.{IsCarriedDecoding}
use Rattle.port_gen.proofs.SummaryLemmas.{carried-agrees, carried-legal}
use Rattle.port_gen.proofs.surveyed.not_carried.Goals as goal

pub unreachable-requires-in-Offence : goal.unreachable-requires-in-Offence
unreachable-requires-in-Offence c =
    let r = c.requires in
    carried-legal r.0 r.1.0 r.1.1.0 r.1.1.1.0 c.in-Offence.cycle c.in-Offence.stream c.in-Offence.rule
    (subst (λ (fault : DecodeFault). IsCarriedDecoding r.0 r.1.0 r.1.1.0 r.1.1.1.0 (Err fault)) c.in-Offence.is r.1.1.1.1)

pub unreachable-requires-in-Disagree : goal.unreachable-requires-in-Disagree
unreachable-requires-in-Disagree c =
    let r = c.requires in
    carried-agrees r.0 r.1.0 r.1.1.0 r.1.1.1.0 c.in-Disagree.field-0 c.in-Disagree.field-1
    (subst (λ (fault : DecodeFault). IsCarriedDecoding r.0 r.1.0 r.1.1.0 r.1.1.1.0 (Err fault)) c.in-Disagree.is r.1.1.1.1)
