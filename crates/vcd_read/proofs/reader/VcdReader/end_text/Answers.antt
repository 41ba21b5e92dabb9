use Rattle.std.proofs.Common.{◌≡◌, ◌∙◌, ◌+◌, Option, length, sym, subst}
use Rattle.tydi_base.specs.Reading.{Gives}
use Rattle.vcd_read.specs.Kept.{kept_bytes}
use Rattle.vcd_read.specs.Shown.{fault_in}
use Rattle.vcd_read.specs.Reader.{Reads, Stands}
use Rattle.vcd_read.specs.declared.parser.Stop.{Stop}
use Rattle.vcd_read.proofs.ReaderLemmas.{end-found, ends-by, reads-all, stop-told}
use Rattle.vcd_read.proofs.reader.VcdReader.end_text.Goals as goal

pub returns-in-Ok : goal.returns-in-Ok
returns-in-Ok c wanted fed st =
    let old = c.args.self in
    let is : Reads wanted c.args.self.parser c.args.self.start c.args.self.begun fed = subst (λ (o : Option Stop). Stands wanted o c.args.self.parser
    c.args.self.start c.args.self.begun fed) c.requires.some st in
    let taken = c.in-Ok.ensures.takes wanted is.reached is.stands in
    let size : c.end_token.new.self.start + length c.end_token.new.self.begun ≡ length fed = (λ i. c.in-Ok.ensures.start i + length (c.in-Ok.ensures.begun
    i)) ∙ is.size in
    subst (Gives fault_in kept_bytes c.judge.result) (sym (end-found wanted fed taken.0 (c.end_token.new.self.start + length c.end_token.new.self.begun)
    (reads-all wanted old.parser old.start old.begun fed is ∙ taken.1.0) size))
    (c.judge.ensures wanted taken.0 taken.1.1)

pub returns-in-Err : goal.returns-in-Err
returns-in-Err c wanted fed st =
    let old = c.args.self in
    let is : Reads wanted c.args.self.parser c.args.self.start c.args.self.begun fed = subst (λ (o : Option Stop). Stands wanted o c.args.self.parser
    c.args.self.start c.args.self.begun fed) c.requires.some st in
    stop-told wanted fed c.in-Err.stop c.fault_of.result c.fault_of.ensures
    (ends-by wanted fed c.in-Err.stop c.end_token.new.self.parser _ (reads-all wanted old.parser old.start old.begun fed is)
    (c.in-Err.ensures.takes wanted is.reached is.stands))

pub judge-requires-clause-stands : goal.judge-requires-clause-stands
judge-requires-clause-stands c =
    let wanted = c.requires.room.0 in
    let is : Reads wanted c.args.self.parser c.args.self.start c.args.self.begun c.requires.room.1.0 = subst (λ (o : Option Stop). Stands wanted o
    c.args.self.parser c.args.self.start c.args.self.begun c.requires.room.1.0) c.requires.some c.requires.room.1.1.0 in
    let taken = c.in-Ok.ensures.takes wanted is.reached is.stands in
    (wanted, (taken.0, taken.1.1))
