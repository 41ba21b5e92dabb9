use Rattle.std.proofs.Common.{ℕ, Option, subst}
use Rattle.vcd_read.specs.History.{clock_in}
use Rattle.vcd_read.specs.Variables.{IsNumbered}
use Rattle.vcd_read.specs.Wanted.{codes_in, widths_in}
use Rattle.vcd_read.proofs.FindLemmas.{no-clock}
use Rattle.vcd_read.proofs.finder.Finder.harness.Goals as goal

pub returns-in-Some : goal.returns-in-Some
returns-in-Some c scope parts st =
    c.harness_with.ensures scope parts st (subst (λ (o : Option ℕ). IsNumbered c.args.self.wires.now.codes (clock_in scope parts) o) c.in-Some.is
    st.variables_are.clock_is)

pub returns-in-None : goal.returns-in-None
returns-in-None c scope parts st =
    no-clock (codes_in scope parts) (widths_in parts) (clock_in scope parts) c.args.heads.now
    (subst (λ (o : Option ℕ). IsNumbered c.args.self.wires.now.codes (clock_in scope parts) o) c.in-None.is st.variables_are.clock_is)
