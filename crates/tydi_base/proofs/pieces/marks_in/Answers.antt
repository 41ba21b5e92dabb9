use Rattle.std.proofs.Common.{◌≡◌, ◌↔◌, ◌<◌, ◌∙◌, eqb, get_or, take, length, sym, subst, w8, arith}
use Rattle.std.specs.Int.{bit_at}
use Rattle.std.proofs.lemmas.List.{get_or-take, length-take}
use Rattle.std.proofs.lemmas.Simd.{bitmask_splat}
use Rattle.tydi_base.proofs.MarkLemmas.{marks-lanes}
use Rattle.tydi_base.proofs.pieces.marks_in.Goals as goal

pub returns : goal.returns
returns c k =
    let text = c.args.text.now in
    let long : length (take 32 text) ≡ 32 = omega (arith, length-take 32 text, c.requires) in
    let lane = marks-lanes c.args.separator (take 32 text) k in
    subst (λ m. (bit_at m k ≡ 1) ↔ (k < 32 × (get_or text k 0 ≡ c.args.separator))) (sym (bitmask_splat w8 eqb (take 32 text) 32 c.args.separator long (omega arith))) (
      λ one. let both = lane.0 one in let lt : k < 32 = omega (arith, both.0, long) in (lt, sym (get_or-take 32 text k 0 lt) ∙ both.1),
      λ both. lane.1 (omega (arith, long, both.0), get_or-take 32 text k 0 both.0 ∙ both.1),
    )
