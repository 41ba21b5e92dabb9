use Rattle.std.proofs.Common.{◌∷◌, refl, sym, ap}
use Rattle.vcd_read.specs.History.{Stamps}
use Rattle.vcd_read.specs.Profile.{Beginning, stamp}
use Rattle.vcd_read.proofs.parser.Parser.stamp.Goals as goal

pub returns-in_default-clause-takes : goal.returns-in_default-clause-takes
unfolding stamp
returns-in_default-clause-takes c wanted parts is = ap (stamp parts c.args.offset) (sym c.in_default.ensures)

pub returns-in-Ok-clause-takes : goal.returns-in-Ok-clause-takes
unfolding stamp
returns-in-Ok-clause-takes c wanted parts is = (
  record { awaited = Beginning; parts = Stamps c.args.offset c.in-Some.time ∷ parts },
  (
    ap (stamp parts
        c.args.offset) (sym c.in-Some.ensures),
    record { dump_is = c.in-Ok.ensures.stands wanted parts is; awaited_is = refl },
  ),
)
