use Rattle.std.proofs.Common.{List}
use Rattle.std.specs.Borrow.{Bor}
use Rattle.til_parser.specs.declared.tree.AstPath.{AstPath}
use Rattle.til_resolve.specs.Declarations.{declaration}
use Rattle.til_resolve.specs.PathsWritten.{seen}
use Rattle.til_resolve.specs.Scope.{declarations_of}
use Rattle.til_resolve.specs.Sought.{refused_of}
use Rattle.til_resolve.proofs.EarliestLemmas.{IsEarliest-grown, IsEarliest-whole}
use Rattle.til_resolve.proofs.NameLemmas.{refused_seen-append}
use Rattle.til_resolve.proofs.names.of_paths.Goals as goal

pub paths-preserved : goal.paths-preserved
paths-preserved c =
    let all = declarations_of c.args.scope.now.declared in
    let space = (declaration all c.args.number).space in
    IsEarliest-grown (λ (paths : List (Bor AstPath)). refused_of c.args.sought all space c.args.asked (seen paths)) c.args.paths.now c.paths.path-index
    c.path-item.result c.paths.found c.of_path.result c.earlier-found.result (refused_seen-append c.args.sought all space c.args.asked) c.paths-test.true c.path-item.is
    c.earlier-found.ensures c.paths.invariant c.of_path.ensures

pub returns : goal.returns
returns c =
    let all = declarations_of c.args.scope.now.declared in
    IsEarliest-whole (λ (paths : List (Bor AstPath)). refused_of c.args.sought all (declaration all c.args.number).space c.args.asked (seen paths))
    c.args.paths.now c.paths.path-index c.paths.found c.paths-test.false c.paths.invariant
