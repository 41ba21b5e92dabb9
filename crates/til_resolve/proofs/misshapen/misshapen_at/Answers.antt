use Rattle.std.proofs.Common.{◌≡◌, ap, sym, ◌∙◌}
use Rattle.std.specs.Bool.{then_some}
use Rattle.til_resolve.specs.Faults.{WrittenType}
use Rattle.til_resolve.specs.Scope.{declarations_of}
use Rattle.til_resolve.specs.Shapes.{IsMisshapen, is_misshapen, shape_of}
use Rattle.til_resolve.specs.Written.{written_type}
use Rattle.til_resolve.proofs.MisshapenLemmas.{types-one, misshapen-there, misshapen-back}
use Rattle.til_resolve.proofs.misshapen.misshapen_at.Goals as goal

pub returns : goal.returns
returns c =
    let all = declarations_of c.args.scope.now.declared in
    let one : WrittenType = written_type all c.args.one.now in
    let told : c.is_misshapen.result ≡ is_misshapen c.args.sort one.in_port (shape_of one.ltype)
    = c.is_misshapen.ensures ∙ ap (λ b. is_misshapen c.args.sort b c.shape_of-shape.result) c.is_in_port.ensures ∙ ap (is_misshapen c.args.sort one.in_port) c.shape_of-shape.ensures in
    rw (c.then_some.ensures ∙ ap (then_some c.is_misshapen.result) c.place_of.ensures) (types-one (IsMisshapen c.args.sort) one c.is_misshapen.result
    (λ is. misshapen-there c.args.sort one (sym told ∙ is)) (λ is. told ∙ misshapen-back c.args.sort one is))
