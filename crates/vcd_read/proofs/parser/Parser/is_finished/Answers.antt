use Rattle.std.proofs.Common.{◌∙◌, Ok, Err, if◌then◌else◌, sym, ap}
use Rattle.vcd_read.specs.Profile.{Awaited, finished}
use Rattle.vcd_read.specs.declared.parser.Stage.TheVariants as stages
use Rattle.vcd_read.proofs.ParserLemmas.{at-stage, finished-early}
use Rattle.vcd_read.proofs.parser.Parser.is_finished.Goals as goal

pub returns-in-Beginning-clause-finished : goal.returns-in-Beginning-clause-finished
unfolding finished
returns-in-Beginning-clause-finished c wanted reached size st =
    let self = c.args.self.now in
    let aw = at-stage self.stage stages.Beginning self.width self.code self.name self.offset self.vector reached.parts reached.awaited c.in-Beginning.is
    st.awaited_is in
    ap (λ (a : Awaited). finished size a reached.parts) aw ∙ ap (λ test. if test then Ok reached.parts else Err size) (sym st.dump_is.ended_is
    ∙ sym c.has_ended.ensures)

pub returns-in_default-clause-finished : goal.returns-in_default-clause-finished
returns-in_default-clause-finished c wanted reached size st =
    let self = c.args.self.now in
    finished-early self.stage self.width self.code self.name self.offset self.vector reached.parts reached.awaited size c.in_default.not-Beginning
    st.awaited_is
