use Rattle.std.proofs.Common.{rules, ◌≡◌, ◌≤◌, sym, subst}
use Rattle.logical_types.specs.Faults.{inside}
use Rattle.logical_types.specs.Tree.{plain, settings_of}
use Rattle.logical_types.specs.declared.streams.Around.{Around}
use Rattle.type_split.specs.Found.{IsInRange}
use Rattle.type_split.proofs.ValidLemmas.{valid-stream, flows-inside, valid-range}
use Rattle.type_split.proofs.found.Found.at.Goals as goal

pub returns-in_err-params-clause-some : goal.returns-in_err-params-clause-some
returns-in_err-params-clause-some c = λ valid flows few.
    let one = c.args.stream.now in
    let fine = valid-stream c.args.place.now.around (plain one.element) (plain one.user) (settings_of one) valid in
    let inner = flows-inside c.args.place.now.around (plain one.element) (plain one.user) (settings_of one) fine flows c.den.ensures.lowest.some c.den-2.ensures.lowest.some in
    let range = valid-range c.args.place.now.around (plain one.element) (plain one.user) (settings_of one) fine inner in
    let same : c.in_ok-around.around ≡ inside c.args.place.now.around (settings_of one) = search rules in
    rw (c.from_residual-in_err-params.ensures) (c.in_err-params.ensures.some (subst (λ (a : Around). IsInRange a (plain one.element) (plain one.user)) (sym same) range))

pub returns-clause-flows : goal.returns-clause-flows
returns-clause-flows c = λ valid flows.
    let one = c.args.stream.now in
    let fine = valid-stream c.args.place.now.around (plain one.element) (plain one.user) (settings_of one) valid in
    let inner = flows-inside c.args.place.now.around (plain one.element) (plain one.user) (settings_of one) fine flows c.den.ensures.lowest.some c.den-2.ensures.lowest.some in
    let same : c.in_ok-around.around ≡ inside c.args.place.now.around (settings_of one) = search rules in
    subst (λ (a : Around). 1 ≤ a.product.num) (sym same) inner
