use Rattle.std.proofs.Common.{◌∙◌, ◌+◌, length, sym, ap, subst}
use Rattle.tydi_base.specs.Reading.{Gives}
use Rattle.vcd_read.specs.Kept.{kept_bytes}
use Rattle.vcd_read.specs.Shown.{fault_in}
use Rattle.vcd_read.specs.Profile.{finished}
use Rattle.vcd_read.proofs.ReaderLemmas.{finished-no, finished-so, syntax-at, times-back, times-fine}
use Rattle.vcd_read.proofs.reader.VcdReader.judge.Goals as goal

pub returns-then-not-is_finished : goal.returns-then-not-is_finished
returns-then-not-is_finished c wanted reached st =
    syntax-at wanted (finished (c.args.self.start + length c.args.self.begun) reached.awaited reached.parts)
    (c.args.self.start + length c.args.self.begun) (c.args.self.start + c.len.result) (finished-no (finished (c.args.self.start + length
    c.args.self.begun) reached.awaited reached.parts) c.is_finished.result reached.parts (c.args.self.start + length c.args.self.begun)
    (c.is_finished.ensures.finished wanted reached (c.args.self.start + length c.args.self.begun) st) c.if-not-is_finished.true)
    (ap (λ n. c.args.self.start + n) c.len.ensures)

pub returns-in-Some : goal.returns-in-Some
returns-in-Some c wanted reached st = times-back wanted (finished (c.args.self.start + length c.args.self.begun) reached.awaited reached.parts) reached.parts
    c.in-Some.offset (finished-so (finished (c.args.self.start + length c.args.self.begun) reached.awaited reached.parts) c.is_finished.result reached.parts
    (c.args.self.start + length c.args.self.begun) (c.is_finished.ensures.finished wanted reached (c.args.self.start + length c.args.self.begun) st)
    c.if-not-is_finished.false) (sym st.dump_is.back ∙ c.in-Some.is)

pub returns-in-None : goal.returns-in-None
returns-in-None c wanted reached st = subst (Gives fault_in kept_bytes c.conclude.result) (sym (times-fine wanted (finished (c.args.self.start + length
    c.args.self.begun) reached.awaited reached.parts) reached.parts (finished-so (finished (c.args.self.start + length c.args.self.begun) reached.awaited
    reached.parts) c.is_finished.result reached.parts (c.args.self.start + length c.args.self.begun)
    (c.is_finished.ensures.finished wanted reached (c.args.self.start + length c.args.self.begun) st) c.if-not-is_finished.false) (sym st.dump_is.back
    ∙ c.in-None.is))) (c.conclude.ensures wanted reached.parts st.dump_is)

pub conclude-requires-clause-stands : goal.conclude-requires-clause-stands
conclude-requires-clause-stands c = (c.requires.stands.0, (c.requires.stands.1.0.parts, c.requires.stands.1.1.dump_is))

pub conclude-requires-clause-ended : goal.conclude-requires-clause-ended
conclude-requires-clause-ended c = c.is_finished.ensures.ended c.if-not-is_finished.false
