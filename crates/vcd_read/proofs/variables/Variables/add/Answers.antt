use Rattle.std.proofs.Common.{◌∙◌, ℕ, List, subst}
use Rattle.std.proofs.lemmas.Result.{on_ok_weaker}
use Rattle.vcd_read.specs.Numbers.{number_of}
use Rattle.vcd_read.specs.Variables.{HasName}
use Rattle.vcd_read.specs.Words.{bare_name}
use Rattle.vcd_read.proofs.VariableLemmas.{declare-inside}
use Rattle.vcd_read.proofs.variables.Variables.add.Goals as goal

pub returns : goal.returns
returns c = on_ok_weaker c.add_name.result (λ has before codes scope code parts are keeps within at.
    let old = c.args.self.now in let mid = c.add_clock.new.self in let new = c.add_name.new.self in
    let bare = bare_name c.args.name.now in let number = c.args.number in
    let name_is = subst (λ (n : List ℕ). HasName (number_of mid.names n) mid.names mid.numbers new n number) c.bare_name.ensures has in
    let names_are = subst (λ (ns : List (List ℕ)). HasName (number_of ns bare) ns mid.numbers new bare number) c.add_clock.ensures.names name_is in
    let numbers_are = subst (λ (ns : List ℕ). HasName (number_of old.names bare) old.names ns new bare number) c.add_clock.ensures.numbers names_are in
    declare-inside before codes keeps scope c.args.width code c.args.name.now parts within number at old new (c.add_name.ensures.clock
    ∙ c.add_clock.ensures.clock) numbers_are are)
    c.add_name.ensures.name
