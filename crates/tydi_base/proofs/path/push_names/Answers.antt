use Rattle.std.proofs.Common.{◌++◌, ◌∙◌, ap}
use Rattle.tydi_base.proofs.PathLoops.{Writes-init}
use Rattle.tydi_base.proofs.path.push_names.Goals as goal

pub loop-name-init : goal.loop-name-init
loop-name-init c = Writes-init _ _ _ _ c.first-item.result c.in-len1-up.len_at_least c.first-item.is (c.in_ok-extend_from_slice.ensures.ok ∙ ap (λ name. c.args.out.now ++ name) c.as_bytes.ensures.value)
