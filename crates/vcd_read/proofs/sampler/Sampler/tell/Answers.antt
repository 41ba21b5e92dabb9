use Rattle.vcd_read.proofs.SamplerLemmas.{tells-found, tells-wrong}
use Rattle.vcd_read.proofs.sampler.Sampler.tell.Goals as goal

pub returns-in-Wrong : goal.returns-in-Wrong
returns-in-Wrong c wanted kept parts st = tells-wrong wanted kept parts c.args.self.wiring c.args.self.samples c.in-Wrong.fault c.in-Wrong.is st.wiring

pub returns-in-Found : goal.returns-in-Found
returns-in-Found c wanted kept parts st = tells-found wanted kept parts c.args.self.wiring c.args.self.samples c.in-Found.field-0 c.args.self.heads
    c.tell.result c.in-Found.is st.heads st.wiring c.tell.ensures
