use Rattle.std.proofs.Common.{◌≡◌, false, sym, ap, ◌∙◌}
use Rattle.til_parser.specs.Tree.{plain}
use Rattle.til_resolve.specs.Declarations.{declaration}
use Rattle.til_resolve.specs.Scope.{declarations_of}
use Rattle.til_resolve.specs.Types.{is_stream, type_of}
use Rattle.til_resolve.proofs.LastLemmas.{port-stream}
use Rattle.til_resolve.proofs.SharedTypeLemmas.{made-Stream, no_stream, type-by_table}
use Rattle.til_resolve.proofs.port_types.type_of_port.Goals as goal

pub unreachable-requires : goal.unreachable-requires
unreachable-requires c =
    let all = declarations_of c.args.scope.now.declared in
    let space = (declaration all c.args.number).space in
    let is = port-stream all space c.args.port.now c.requires.sound c.requires.written in
    let made = c.in_ok-stream.ensures ∙ type-by_table all c.args.types.now space (plain c.args.port.now.ltype) c.requires.types in
    let none : is_stream (type_of all space (plain c.args.port.now.ltype)) ≡ false = ap is_stream (sym made) ∙ no_stream c.in_ok-stream.field-0 c.in-Null.is in
    absurd cc

pub returns : goal.returns
returns c =
    let all = declarations_of c.args.scope.now.declared in
    made-Stream all c.args.types.now (declaration all c.args.number).space (plain c.args.port.now.ltype) c.in_ok-stream.field-0 c.in-Stream.stream c.into_rc.result.value c.requires.types
    c.in_ok-stream.ensures c.in-Stream.is c.into_rc.ensures
