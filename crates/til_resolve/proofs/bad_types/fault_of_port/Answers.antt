use Rattle.std.proofs.Common.{List, length, sym, ap, ◌∙◌}
use Rattle.logical_types.specs.declared.ltype.LType.{LType}
use Rattle.til_parser.specs.Tree.{plain}
use Rattle.til_resolve.specs.BadTypes.{first_fault}
use Rattle.til_resolve.specs.Declarations.{declaration}
use Rattle.til_resolve.specs.Scope.{declarations_of}
use Rattle.til_resolve.specs.SharedTypes.{type_named}
use Rattle.til_resolve.specs.Types.{replaced}
use Rattle.til_resolve.proofs.ChainLemmas.{alone-is}
use Rattle.til_resolve.proofs.SharedTypeLemmas.{type-by_table}
use Rattle.til_resolve.proofs.bad_types.fault_of_port.Goals as goal

pub returns-in-Some-clause-fault : goal.returns-in-Some-clause-fault
returns-in-Some-clause-fault c =
    let all = declarations_of c.args.scope.now.declared in
    let space = (declaration all c.args.number).space in
    c.fault_at.ensures.fault all c.requires.acyclic c.in-Some.ensures.within c.requires.findings
    ∙ ap first_fault (sym (alone-is all (length all) space (plain c.args.ltype.now) c.in-Some.target (sym c.in-Some.ensures.value)))

pub returns-in-Some-clause-findings : goal.returns-in-Some-clause-findings
returns-in-Some-clause-findings c =
    c.fault_at.ensures.findings (declarations_of c.args.scope.now.declared) c.requires.acyclic c.in-Some.ensures.within c.requires.findings

pub returns-in_ok-made-in-None-clause-fault : goal.returns-in_ok-made-in-None-clause-fault
returns-in_ok-made-in-None-clause-fault c =
    let all = declarations_of c.args.scope.now.declared in
    let space = (declaration all c.args.number).space in
    c.fault_in.ensures ∙ ap first_fault
    (c.in_ok-made-in-None.ensures ∙ ap (λ (l : List LType). replaced (type_named all l space) (plain c.args.ltype.now)) c.as_slice.ensures
    ∙ type-by_table all c.args.findings.now.types space (plain c.args.ltype.now) c.requires.findings.types)
