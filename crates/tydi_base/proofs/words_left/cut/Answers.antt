use Rattle.std.proofs.Common.{refl, arith}
use Rattle.tydi_base.proofs.SizedLemmas.{cut_rest}
use Rattle.tydi_base.proofs.words_left.cut.Goals as goal

pub returns : goal.returns
returns c = rw c.after_space.ensures (cut_rest c.args.text.now _ c.args.size (omega (arith, c.if-text-size.false)) refl (c.is_end.ensures.0 c.if-not-is_end.false))
