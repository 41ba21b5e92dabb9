use Rattle.std.proofs.Common.{◌∙◌, List, ap, length, arith}
use Rattle.physical_stream.specs.Cycles.{cycle_in}
use Rattle.physical_stream.specs.declared.head.Head.{Head}
use Rattle.link_check.proofs.KeptTextLemmas.{row-next, stream-within}
use Rattle.link_check.proofs.kept_text.KeptTextRowSink.row.Goals as goal

pub stream_behind-self-requires : goal.stream_behind-self-requires
stream_behind-self-requires c =
    omega (arith, c.in_ok-write.ensures.stream, c.len.ensures, ap (λ (l : List Head). length l) c.in_ok-write.ensures.heads, stream-within c.args.self.now c.requires.0 (cycle_in c.args.row) c.requires.1.0 c.requires.1.1)

pub returns-clause-taken : goal.returns-clause-taken
returns-clause-taken c t stands can =
    let next = row-next c.args.self.now t (cycle_in c.args.row) stands can c.write.new.self.stream c.len.result c.stream_behind-self.result c.in_ok-write.ensures.stream
    (c.len.ensures ∙ ap (λ (l : List Head). length l) c.in_ok-write.ensures.heads) c.stream_behind-self.ensures in
    record { heads = c.in_ok-write.ensures.heads ∙ stands.heads; cycle = next.0; next = next.1; text = c.in_ok-write.ensures.text t stands can }
