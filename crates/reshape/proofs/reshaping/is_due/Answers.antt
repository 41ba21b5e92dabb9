use Rattle.std.proofs.Common.{◌≡◌, ◌∙◌, ◌<◌, false, nat_lt, ◌==◌, length, inl, inr, sym, ap, arith}
use Rattle.std.proofs.lemmas.Bool.Decides.{nat_tests}
use Rattle.physical_stream.specs.Params.{Parameters}
use Rattle.reshape.proofs.DueLemmas.{due-deep, due-flat, due-yes}
use Rattle.reshape.proofs.reshaping.is_due.Goals as goal
use Rattle.reshape.proofs.reshaping.is_due.Goals.{then-ended-via-then-ended, then-ended-via-else-ended+then-front-len}

pub returns-then-ended : goal.returns-then-ended
returns-then-ended c =
    let ok = c.args.items.now.ok.0 in
    let none = c.if-is_empty.false in
    let told = c.is_empty.ensures in
    let some : 0 < length c.args.items.now.items = grind (arith, nat_tests) in
    elim c.then-ended.branch [
      | then-ended-via-then-ended w ↦ sym (due-yes c.args.p.now c.requires.some c.args.front c.args.ended c.args.items.now.items some c.requires.front (inr w.if-ended.true))
      | then-ended-via-else-ended+then-front-len w ↦ sym (due-yes c.args.p.now c.requires.some c.args.front c.args.ended c.args.items.now.items some c.requires.front (inl (let l = w.if-front-len.true in let t = w.len.ensures in grind (arith, nat_tests))))
    ]

pub returns-then-p-eq0 : goal.returns-then-p-eq0
returns-then-p-eq0 c =
    let ok = c.args.items.now.ok.0 in
    let none = c.if-is_empty.false in
    let told = c.is_empty.ensures in
    let some : 0 < length c.args.items.now.items = grind (arith, nat_tests) in
    let l = c.if-front-len.false in
    let t = c.len.ensures in
    let last : nat_lt c.args.front.size (length c.args.items.now.items) ≡ false = grind (arith, nat_tests) in
    ap (λ (p : Parameters). c.args.front.elements == p.lanes) c.p.view_is
    ∙ sym (due-flat c.args.p.now c.requires.some c.args.front c.args.ended c.args.items.now.items some c.requires.front last c.if-ended.false (sym (ap (λ (p : Parameters). p.dims) c.p.view_is) ∙ c.if-p-eq0.true))

pub returns-else-p-eq0 : goal.returns-else-p-eq0
returns-else-p-eq0 c =
    let ok = c.args.items.now.ok.0 in
    let none = c.if-is_empty.false in
    let told = c.is_empty.ensures in
    let some : 0 < length c.args.items.now.items = grind (arith, nat_tests) in
    let l = c.if-front-len.false in
    let t = c.len.ensures in
    let last : nat_lt c.args.front.size (length c.args.items.now.items) ≡ false = grind (arith, nat_tests) in
    ap (λ (p : Parameters). c.args.front.least == p.dims) c.p.view_is
    ∙ sym (due-deep c.args.p.now c.requires.some c.args.front c.args.ended c.args.items.now.items some c.requires.front last c.if-ended.false (λ is. c.if-p-eq0.false (ap (λ (p : Parameters). p.dims) c.p.view_is ∙ is)))
