use Rattle.std.proofs.Common.{length, subst, sym, ap, ◌∙◌, arith}
use Rattle.til_resolve.specs.BadTypes.{first_fault}
use Rattle.til_resolve.specs.Scope.{declarations_of}
use Rattle.til_resolve.specs.Written.{IsWithin, ltype_of}
use Rattle.til_resolve.proofs.StableLemmas.{still}
use Rattle.til_resolve.proofs.bad_types.fault_of.Goals as goal

pub returns-in-Declared-clause-fault : goal.returns-in-Declared-clause-fault
returns-in-Declared-clause-fault c =
    let all = declarations_of c.args.scope.now.declared in
    let number = c.in-Declared.number in
    let within = subst (IsWithin all) c.in-Declared.is c.requires.within in
    c.fault_at.ensures.fault all c.requires.acyclic within c.requires.findings
    ∙ ap first_fault (sym (ap (ltype_of all) c.in-Declared.is ∙ still all c.requires.acyclic (length all) number within (omega arith)))

pub returns-in-Declared-clause-findings : goal.returns-in-Declared-clause-findings
returns-in-Declared-clause-findings c =
    let all = declarations_of c.args.scope.now.declared in
    c.fault_at.ensures.findings all c.requires.acyclic (subst (IsWithin all) c.in-Declared.is c.requires.within) c.requires.findings
