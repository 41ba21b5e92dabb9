use Rattle.std.proofs.Common.{◌∙◌, ◌<◌, ◌^◌, length, sym, arith}
use Rattle.std.proofs.lemmas.Bool.Decides.{nat_tests}
use Rattle.tydi_base.specs.Decimal.{read_on}
use Rattle.net_text.proofs.OrderLemmas.{added, wide-is}
use Rattle.net_text.proofs.ordering.Numbers.add.Goals as goal

-- src/ordering.rt:60:5
pub returns : goal.returns
returns c = λ count m.
    let same = wide-is (2 ^ 64) c.args.word.now c.in-Some.wide c.requires.decimal (sym c.read_decimal.ensures ∙ c.in-Some.is) in
    let less : c.in-Some.wide < length c.args.self.now.seen.items = let l = c.len.ensures in let t = c.if-wide-len.false in grind (arith, nat_tests) in
    added count (read_on 0 c.args.word.now) c.in-Some.wide c.args.self.now.order c.push.new.self c.args.self.now.seen.items c.index.result.now same c.in_ok-push.ensures.ok less c.index.ensures c.if-index.false m
