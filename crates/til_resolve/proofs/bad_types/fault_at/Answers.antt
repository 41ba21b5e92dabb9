use Rattle.std.proofs.Common.{refl}
use Rattle.til_resolve.proofs.BadTypeLemmas.{own-root, fault-kept, fault-found, AreFindings-kept}
use Rattle.til_resolve.proofs.bad_types.fault_at.Goals as goal

pub returns-in-Known-clause-fault : goal.returns-in-Known-clause-fault
returns-in-Known-clause-fault c = λ all acyclic within right.
    fault-kept all c.args.findings.now c.deref.result.now c.args.number c.chain_at-root.result.root c.verdict_at.result c.in-Known.fault right
    (own-root all c.args.findings.now c.as_slice.result.now c.args.number c.chain_at-root.result acyclic within right c.as_slice.ensures c.chain_at-root.ensures)
    c.deref.ensures.value c.verdict_at.ensures c.in-Known.is

pub returns-clause-fault : goal.returns-clause-fault
returns-clause-fault c = λ all acyclic within right.
    fault-found all c.args.findings.now c.as_slice-2.result.now c.args.number c.fault_of_entry-fault.result within right c.as_slice-2.ensures c.fault_of_entry-fault.ensures

pub returns-clause-findings : goal.returns-clause-findings
returns-clause-findings c = λ all acyclic within right.
    AreFindings-kept all c.args.findings.now _ c.args.number c.chain_at-root.result.root c.fault_of_entry-fault.result refl refl c.keep.ensures
    (own-root all c.args.findings.now c.as_slice.result.now c.args.number c.chain_at-root.result acyclic within right c.as_slice.ensures c.chain_at-root.ensures)
    (fault-found all c.args.findings.now c.as_slice-2.result.now c.args.number c.fault_of_entry-fault.result within right c.as_slice-2.ensures c.fault_of_entry-fault.ensures) right
