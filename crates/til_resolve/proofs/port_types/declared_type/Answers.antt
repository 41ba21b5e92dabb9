use Rattle.til_resolve.specs.Declarations.{declaration}
use Rattle.til_resolve.specs.Scope.{declarations_of}
use Rattle.til_resolve.proofs.NumberedLemmas.{found-numbered}
use Rattle.til_resolve.proofs.port_types.declared_type.Goals as goal

pub returns-in-Path : goal.returns-in-Path
returns-in-Path c =
    let all = declarations_of c.args.scope.now.declared in
    found-numbered all (declaration all c.args.number).space c.args.ltype.now c.in-Path.path c.named.result c.in-Path.is c.named.ensures.value
