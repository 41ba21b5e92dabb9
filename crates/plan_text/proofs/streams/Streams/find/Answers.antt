use Rattle.std.proofs.Common.{◌∙◌, ◌<◌, ap, arith, length, sym}
use Rattle.std.specs.Option.{option_copied}
use Rattle.plan_text.proofs.StreamLemmas.{found, number_of-found}
use Rattle.plan_text.proofs.streams.Streams.find.Goals as goal

pub offset_bounds-self-number : goal.offset_bounds-self-number
offset_bounds-self-number c =
    let is = sym c.get.ensures.value ∙ ap (λ o. option_copied o) c.in_ok-number.was in
    let within : c.in_ok-number.field-0.now < length c.args.self.now.list.now = (found c.args.path.now c.args.self.now.list.now c.in_ok-number.field-0.now (number_of-found c.args.self.now.numbers c.args.self.now.list.now c.args.path.now c.in_ok-number.field-0.now c.args.self.now.finds is)).0 in
    omega arith

pub bounds-self-number : goal.bounds-self-number
bounds-self-number c =
    let is = sym c.get.ensures.value ∙ ap (λ o. option_copied o) c.in_ok-number.was in
    (found c.args.path.now c.args.self.now.list.now c.in_ok-number.field-0.now (number_of-found c.args.self.now.numbers c.args.self.now.list.now c.args.path.now c.in_ok-number.field-0.now c.args.self.now.finds is)).0

pub returns-clause-value : goal.returns-clause-value
returns-clause-value c =
    let is = sym c.get.ensures.value ∙ ap (λ o. option_copied o) c.in_ok-number.was in
    (found c.args.path.now c.args.self.now.list.now c.in_ok-number.field-0.now (number_of-found c.args.self.now.numbers c.args.self.now.list.now c.args.path.now c.in_ok-number.field-0.now c.args.self.now.finds is)).1 c.index-self-number.result

pub returns-clause-within : goal.returns-clause-within
returns-clause-within c =
    let is = sym c.get.ensures.value ∙ ap (λ o. option_copied o) c.in_ok-number.was in
    (found c.args.path.now c.args.self.now.list.now c.in_ok-number.field-0.now (number_of-found c.args.self.now.numbers c.args.self.now.list.now c.args.path.now c.in_ok-number.field-0.now c.args.self.now.finds is)).0
