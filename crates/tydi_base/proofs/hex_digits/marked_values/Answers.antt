use Rattle.tydi_base.proofs.HexLanes.{marked_lanes_are}
use Rattle.tydi_base.proofs.hex_digits.marked_values.Goals as goal

pub returns : goal.returns
returns g c = marked_lanes_are g.row.N c.args.digits c.fits-digits.0 c.fits-digits.1
