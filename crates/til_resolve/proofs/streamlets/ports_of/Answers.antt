use Rattle.std.proofs.Common.{List, IfOk, sym, subst}
use Rattle.til_resolve.specs.Declarations.{PortOf}
use Rattle.til_resolve.specs.Project.{IsPortOf, Pairwise}
use Rattle.til_resolve.specs.Scope.{declarations_of}
use Rattle.til_resolve.proofs.PortsWrittenLemmas.{ports_of-owner, ports_of-none}
use Rattle.til_resolve.proofs.streamlets.ports_of.Goals as goal

pub returns-in-Some : goal.returns-in-Some
returns-in-Some c =
    let all = declarations_of c.args.scope.now.declared in
    subst (λ (l : List PortOf). IfOk c.written_ports.result (Pairwise (IsPortOf all) l)) (sym (ports_of-owner all c.args.streamlet c.in-Some.owner c.in-Some.ensures.value)) c.written_ports.ensures

pub returns-in-None : goal.returns-in-None
returns-in-None c =
    let all = declarations_of c.args.scope.now.declared in
    rw (ports_of-none all c.args.streamlet c.in-None.ensures.value, c.new.ensures) tt
