use Rattle.std.proofs.Common.{List, Option, sym, ap, subst}
use Rattle.vcd_read.specs.Parser.{Takes}
use Rattle.vcd_read.specs.Profile.{vector}
use Rattle.vcd_read.specs.Words.{states_of}
use Rattle.vcd_read.specs.declared.state.State.{State}
use Rattle.vcd_read.proofs.ParserLemmas.{reads-none, reads-some}
use Rattle.vcd_read.proofs.parser.Parser.vector.Goals as goal

pub returns-in-Ok-false-clause-takes : goal.returns-in-Ok-false-clause-takes
unfolding vector
returns-in-Ok-false-clause-takes c wanted parts is = ap (vector parts c.args.offset) (reads-none c.in-Ok-false.field-0 (states_of c.args.letters.now)
    c.read_states.new.states c.in-Ok-false.field-0-test c.in-Ok-false.ensures)

pub returns-in-Ok-true-clause-takes : goal.returns-in-Ok-true-clause-takes
returns-in-Ok-true-clause-takes c wanted parts is =
    let read = reads-some c.in-Ok-true.field-0 (states_of c.args.letters.now) c.read_states.new.states c.in-Ok-true.field-0-test c.in-Ok-true.ensures in
    subst (λ (found : Option (List State)). Takes wanted c.begin_vector.result c.begin_vector.new.self (vector parts c.args.offset found)) (sym read.1.0)
    (c.begin_vector.ensures.takes wanted parts read.0 is read.1.1)
