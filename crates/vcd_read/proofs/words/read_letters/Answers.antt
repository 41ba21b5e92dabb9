use Rattle.std.proofs.Common.{◌∙◌, ◌+◌, ◌++◌, ◌∷◌, [], List, Option, false, drop, sym, ap, subst}
use Rattle.std.proofs.lemmas.List.{drop_more, map-append}
use Rattle.vcd_read.specs.Letters.{ReadsStates, letter_of}
use Rattle.vcd_read.specs.Words.{onto_states, states_of}
use Rattle.vcd_read.specs.declared.state.State.{State}
use Rattle.vcd_read.proofs.WordLemmas.{after, after-next}
use Rattle.vcd_read.proofs.words.read_letters.Goals as goal

pub returns-in-None : goal.returns-in-None
unfolding onto_states
returns-in-None c =
    let letters = c.args.letters.now in let place = c.letters.letter-index in
    let rest = states_of (drop (place + 1) letters) in
    let all = c.letters.invariant.all ∙ ap (λ l. after c.letters.invariant.found (states_of l)) (drop_more letters place 0 c.letters-test.true)
    ∙ ap (λ (s : Option State). after c.letters.invariant.found (onto_states s rest)) (sym c.in-None.ensures) in
    subst (λ (o : Option (List State)). ReadsStates false o c.letters.states) (sym all) tt

pub letters-preserved : goal.letters-preserved
letters-preserved c =
    let letters = c.args.letters.now in let place = c.letters.letter-index in
    let found = c.letters.invariant.found in
    let rest = states_of (drop (place + 1) letters) in
    record {
      found = found ++ c.in-Some.state ∷ [];
      kept_are = c.in_ok-push-in-Some.ensures.ok ∙ (λ i. c.letters.invariant.kept_are i ++ c.letter_of.ensures i ∷ [])
          ∙ sym (map-append letter_of found (c.in-Some.state ∷ []));
      all = c.letters.invariant.all ∙ ap (λ l. after found (states_of l)) (drop_more letters place 0 c.letters-test.true)
          ∙ ap (λ (s : Option State). after found (onto_states s rest)) (sym c.in-Some.ensures) ∙ after-next found c.in-Some.state rest;
    }
