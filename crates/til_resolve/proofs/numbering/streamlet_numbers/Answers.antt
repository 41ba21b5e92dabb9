use Rattle.std.proofs.Common.{◌≡◌, ℕ, List, [], ◌∷◌, ◌++◌, ◌+◌, cond, length, sym, ap, ◌∙◌, arith}
use Rattle.til_resolve.specs.Declarations.{declaration, is_streamlet}
use Rattle.til_resolve.specs.Making.{numbers_before}
use Rattle.til_resolve.specs.Scope.{declarations_of}
use Rattle.til_resolve.proofs.MakingLemmas.{number-more, numbers-more}
use Rattle.til_resolve.proofs.numbering.streamlet_numbers.Goals as goal

pub numbers-preserved : goal.numbers-preserved
numbers-preserved c =
    let all = declarations_of c.args.scope.now.declared in
    let here : c.is_asked.result ≡ is_streamlet (declaration all c.numbers.number) = c.is_asked.ensures ∙ ap is_streamlet c.get.ensures.value in
    record {
      table = c.in_ok-push.ensures.ok ∙ ap (λ (l : List ℕ). l ++ c.numbers.count ∷ []) c.numbers.invariant.table ∙ numbers-more all c.numbers.number c.numbers.count c.numbers.invariant.count;
      count = c.in_ok-count.ensures ∙ ap (λ b. c.numbers.count + cond b 1 0) here ∙ ap (λ (k : ℕ). k + cond (is_streamlet (declaration all c.numbers.number)) 1 0) c.numbers.invariant.count
          ∙ sym (number-more all c.numbers.number);
    }

pub returns : goal.returns
returns c =
    let all = declarations_of c.args.scope.now.declared in
    let same : c.numbers.number ≡ length all = omega (arith, c.len-number-end.ensures) in
    c.numbers.invariant.table ∙ ap (numbers_before all) same
