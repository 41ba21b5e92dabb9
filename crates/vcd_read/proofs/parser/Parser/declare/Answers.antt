use Rattle.std.proofs.Common.{◌∷◌, ℕ, List, refl, subst}
use Rattle.vcd_read.specs.History.{Declares}
use Rattle.vcd_read.specs.Profile.{Beginning}
use Rattle.vcd_read.specs.Dump as dumps
use Rattle.vcd_read.specs.Dump.{MayDeclare}
use Rattle.vcd_read.proofs.parser.Parser.declare.Goals as goal

pub returns-in-Ok-clause-takes : goal.returns-in-Ok-clause-takes
returns-in-Ok-clause-takes c wanted parts is may =
    let old = c.args.self.now in
    let with_code = subst (λ (k : List ℕ). MayDeclare old.width k parts → dumps.StandsFor wanted c.declare.new.self (Declares old.width k
    c.as_slice-name.result.now ∷ parts)) c.as_slice-code.ensures (c.in-Ok.ensures.stands wanted parts is) in (
      record { awaited = Beginning; parts = Declares old.width old.code old.name ∷ parts },
      (
        refl,
        record {
          dump_is = subst (λ (n : List ℕ). dumps.StandsFor wanted c.declare.new.self (Declares old.width old.code n ∷ parts)) c.as_slice-name.ensures
              (with_code may);
          awaited_is = refl;
        },
      ),
    )
