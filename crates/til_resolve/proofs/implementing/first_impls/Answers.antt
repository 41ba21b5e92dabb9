use Rattle.std.proofs.Common.{ℕ, cond, Option, Some, None, sym, ap, ◌∙◌, arith}
use Rattle.std.specs.Option.{option_or}
use Rattle.til_resolve.specs.Declarations.{declaration}
use Rattle.til_resolve.specs.Names.{is_impl_of}
use Rattle.til_resolve.specs.Scope.{declarations_of}
use Rattle.til_resolve.proofs.BodyLemmas.{impls-more}
use Rattle.til_resolve.proofs.implementing.first_impls.Goals as goal

pub numbers-preserved : goal.numbers-preserved
numbers-preserved c = λ streamlet.
    let all = declarations_of c.args.scope.now.declared in
    c.in_ok-keep_impl.ensures streamlet
    ∙ ap (λ (o : Option ℕ). option_or o (cond (is_impl_of all streamlet (declaration all c.numbers.number)) (Some c.numbers.number) None)) (c.numbers.invariant streamlet)
    ∙ sym (impls-more all streamlet c.numbers.number (omega (arith, c.len-number-end.ensures, c.numbers-test.true)))
