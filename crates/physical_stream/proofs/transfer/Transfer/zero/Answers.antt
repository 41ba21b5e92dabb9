use Rattle.std.proofs.Common.{◌≡◌, ◌≤◌, ◌-◌, ◌*◌, rules, ap}
use Rattle.tydi_base.specs.Bits.{zero_bits}
use Rattle.physical_stream.specs.Params.{Parameters}
use Rattle.physical_stream.proofs.WidthLemmas.{zeros_fit}
use Rattle.physical_stream.proofs.transfer.Transfer.zero.Goals as goal

pub returns-clause-fits : goal.returns-clause-fits
returns-clause-fits c =
    let some : 1 ≤ c.args.p.now.lanes = search rules
    in let last_lane : c.p.inside.lanes - 1 ≡ c.args.p.now.lanes - 1 = ap (λ (p : Parameters). p.lanes - 1) c.p.view_is
    in let content : c.in_ok-content.content ≡ zero_bits (c.args.p.now.lanes * c.args.p.now.element) = search rules
    in let last : c.in_ok-last.last ≡ zero_bits (c.args.p.now.lanes * c.args.p.now.dims) = search rules
    in let user : c.in_ok-user.user ≡ zero_bits c.args.p.now.user = search rules
    in zeros_fit c.args.p.now _ _ _ _ some last_lane content last user
