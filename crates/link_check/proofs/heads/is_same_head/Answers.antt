use Rattle.std.proofs.Common.{Decides, ◌≡◌, Bool, subst, sym}
use Rattle.link_check.proofs.HeadLemmas.{Head-Decides}
use Rattle.link_check.proofs.heads.is_same_head.Goals as goal

pub returns : goal.returns
returns c = subst (λ (b : Bool). Decides b (c.args.one.now ≡ c.args.other.now)) (sym c.eq.ensures) (Head-Decides c.args.one.now c.args.other.now)
