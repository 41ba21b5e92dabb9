use Rattle.std.proofs.Common.{refl, sym, ap}
use Rattle.vcd_read.specs.Profile.{VarCode, next, var_width}
use Rattle.vcd_read.proofs.parser.Parser.var_width.Goals as goal

pub returns-in_default-clause-takes : goal.returns-in_default-clause-takes
unfolding next var_width
returns-in_default-clause-takes c wanted parts is open_yet = ap (var_width parts c.args.offset) (sym c.in_default.ensures)

pub returns-clause-takes : goal.returns-clause-takes
unfolding next var_width
returns-clause-takes c wanted parts is open_yet = (
  record { awaited = VarCode c.in-Some.width; parts = parts },
  (
    ap (var_width parts c.args.offset)
        (sym c.in-Some.ensures),
    record { dump_is = is; awaited_is = (refl, open_yet) },
  ),
)
