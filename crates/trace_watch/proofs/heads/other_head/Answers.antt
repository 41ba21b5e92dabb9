use Rattle.std.proofs.Common.{◌≡◌, ℕ, true, length, refl, subst, arith}
use Rattle.std.proofs.lemmas.Option.{slice_get_read}
use Rattle.trace_decode.proofs.HeadLemmas.{SameBefore, differ_past, same_more}
use Rattle.trace_watch.proofs.heads.other_head.Goals as goal

pub heads-preserved : goal.heads-preserved
heads-preserved c =
    let so : c.is_head_at.result ≡ true = let told = c.if-not-is_head_at.false in cc in
    let others = c.args.others.now in
    same_more c.args.heads.now others c.heads.place c.index-others-place.result c.heads.invariant (c.is_head_at.ensures.0 so)
    (slice_get_read others (length others) c.heads.place c.index-others-place.result refl c.heads-test.true c.index-others-place.is)

pub returns-else-heads-others : goal.returns-else-heads-others
returns-else-heads-others c =
    let end : c.heads.place ≡ length c.args.others.now = omega (arith, c.heads.auto.place-end, c.heads-test.false) in
    differ_past c.args.heads.now c.args.others.now (length c.args.others.now) (subst (λ (n : ℕ). SameBefore c.args.heads.now c.args.others.now n) end c.heads.invariant) refl c.if-heads-others.false
