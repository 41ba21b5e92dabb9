use Rattle.std.proofs.Common.{◌≡◌, ◌∙◌, ℕ, true, length, map, sym, subst, arith}
use Rattle.std.proofs.lemmas.List.{length-map}
use Rattle.port_drive.specs.Drives.{head_of_stream}
use Rattle.trace_decode.proofs.HeadLemmas.{SameBefore, differ_past, head_there, same_more}
use Rattle.trace_decode.proofs.heads.other_head.Goals as goal

pub streams-preserved : goal.streams-preserved
streams-preserved c =
    let so : c.is_head_at.result ≡ true = let told = c.if-not-is_head_at.false in cc in
    same_more c.args.heads.now (map head_of_stream c.args.streams.now) c.streams.place (head_of_stream c.index-streams-place.result) c.streams.invariant (c.is_head_at.ensures.0 so)
    (head_there c.args.streams.now c.streams.place c.index-streams-place.result c.streams-test.true c.index-streams-place.is)

pub returns-else-heads-streams : goal.returns-else-heads-streams
returns-else-heads-streams c =
    let long = length-map c.args.streams.now head_of_stream in
    let end : c.streams.place ≡ length c.args.streams.now = omega (arith, c.streams.auto.place-end, c.streams-test.false) in
    differ_past c.args.heads.now (map head_of_stream c.args.streams.now) (length c.args.streams.now)
    (subst (λ (n : ℕ). SameBefore c.args.heads.now (map head_of_stream c.args.streams.now) n) end c.streams.invariant) (sym long)
    (λ same. let even : length c.args.heads.now ≡ length c.args.streams.now = same ∙ long in c.if-heads-streams.false even)
