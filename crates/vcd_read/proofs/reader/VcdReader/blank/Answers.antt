use Rattle.std.proofs.Common.{◌≡◌, ◌∙◌, ◌∷◌, [], ◌++◌, ◌+◌, ℕ, List, Option, length, sym, ap, subst}
use Rattle.vcd_read.specs.Reader.{Reads, Stands}
use Rattle.vcd_read.specs.declared.parser.Stop.{Stop}
use Rattle.vcd_read.proofs.ReaderLemmas.{fails-blank, reads-blank}
use Rattle.vcd_read.proofs.reader.VcdReader.blank.Goals as goal

pub returns-in-Ok : goal.returns-in-Ok
returns-in-Ok c wanted fed byte blank st =
    let old = c.args.self.now in
    let is : Reads wanted c.args.self.now.parser c.args.self.now.start c.args.self.now.begun fed = subst (λ (o : Option Stop). Stands wanted o
    c.args.self.now.parser c.args.self.now.start c.args.self.now.begun fed) c.requires.some st in
    let read = reads-blank wanted old.parser old.start old.begun fed is byte blank c.end_token.new.self.parser (c.in-Ok.ensures.takes
    wanted is.reached is.stands) c.in-Ok.ensures.block in
    let count = sym (c.len.ensures ∙ ap length c.in-Ok.ensures.begun) in
    let place : old.start + length old.begun + 1 ≡ c.end_token.new.self.start + c.len.result + 1 = λ i. sym c.in-Ok.ensures.start i + count i + 1 in
    let moved = subst (λ n. Reads wanted c.end_token.new.self.parser n [] (fed ++ byte ∷ [])) place read in
    let cut = subst (λ (l : List ℕ). Reads wanted c.end_token.new.self.parser (c.end_token.new.self.start + c.len.result + 1) l (fed ++ byte ∷ []))
    (sym c.truncate.ensures) moved in
    subst (λ (o : Option Stop). Stands wanted o c.end_token.new.self.parser (c.end_token.new.self.start + c.len.result + 1) c.truncate.new.self (fed ++
    byte ∷ [])) (sym (c.in-Ok.ensures.stop ∙ c.requires.some)) cut

pub returns-in-Err : goal.returns-in-Err
returns-in-Err c wanted fed byte blank st =
    let old = c.args.self.now in
    let is : Reads wanted c.args.self.now.parser c.args.self.now.start c.args.self.now.begun fed = subst (λ (o : Option Stop). Stands wanted o
    c.args.self.now.parser c.args.self.now.start c.args.self.now.begun fed) c.requires.some st in
    fails-blank wanted old.parser old.start old.begun fed is byte blank c.in-Err.stop c.end_token.new.self.parser (c.in-Err.ensures.takes
    wanted is.reached is.stands)
