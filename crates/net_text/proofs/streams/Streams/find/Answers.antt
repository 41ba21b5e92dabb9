use Rattle.std.proofs.Common.{◌∙◌, ap, sym}
use Rattle.std.specs.Option.{option_copied}
use Rattle.plan_text.proofs.StreamLemmas.{found, number_of-found}
use Rattle.net_text.proofs.streams.Streams.find.Goals as goal

pub returns-clause-within : goal.returns-clause-within
returns-clause-within c =
    let is = sym c.get.ensures.value ∙ ap (λ o. option_copied o) c.in_ok-number.was in
    (found c.args.path.now c.args.self.now.list.now c.in_ok-number.field-0.now (number_of-found c.args.self.now.numbers c.args.self.now.list.now c.args.path.now c.in_ok-number.field-0.now c.args.self.now.finds is)).0
