use Rattle.std.proofs.Common.{◌∙◌, ◌++◌, [], map, Ok, ap, subst}
use Rattle.tydi_base.specs.Decimal.{read_on}
use Rattle.tydi_base.specs.Pieces.{words_of}
use Rattle.net_text.specs.Ordering.{Marks}
use Rattle.net_text.proofs.OrderLemmas.{stops}
use Rattle.net_text.proofs.ordering.read_order.Goals as goal

-- src/ordering.rt:115:13
pub returns-then-not-branch : goal.returns-then-not-branch
returns-then-not-branch c =
    let numbers = c.words.numbers in
    let word = c.in-Some.word.now in
    let why =
    subst (λ went. Marks (Ok went) c.args.count (read_on 0 word) numbers.order c.add.new.self.order c.add.new.self.seen.items) c.if-not-branch.true
    (c.in_ok-add.ensures c.args.count c.words.invariant.marked) in
    stops c.args.count (words_of c.args.text.now) (words_of c.in-Some.after.now) word numbers.order
    (c.words.invariant.numbers ∙ ap (λ w. numbers.order ++ map (read_on 0) w) c.in-Some.ensures.some) why

-- src/ordering.rt:120:9
pub returns-then-not-branch-2 : goal.returns-then-not-branch-2
returns-then-not-branch-2 c =
    let numbers = c.words.numbers in
    let word = c.words.rest.now in
    let why =
    subst (λ went. Marks (Ok went) c.args.count (read_on 0 word) numbers.order c.add-2.new.self.order c.add-2.new.self.seen.items) c.if-not-branch-2.true
    (c.in_ok-add-2.ensures c.args.count c.words.invariant.marked) in
    stops c.args.count (words_of c.args.text.now) [] word numbers.order
    (c.words.invariant.numbers ∙ ap (λ w. numbers.order ++ map (read_on 0) w) c.in_default.ensures.none) why
