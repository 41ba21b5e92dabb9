use Rattle.std.proofs.Common.{◌<◌, List, length, sym, subst, arith}
use Rattle.type_split.specs.Streams.{plain_split}
use Rattle.trace_compare.specs.Standing.{HasStream, TellsStream}
use Rattle.trace_compare.specs.declared.stream_compared.StreamCompared.{StreamCompared}
use Rattle.trace_compare.proofs.TellLemmas.{has_stream, is_compared, more_told}
use Rattle.trace_compare.proofs.compare_run.CompareRun.differences.Goals as goal

pub difference_at-requires : goal.difference_at-requires
difference_at-requires c =
    let within : c.streams.stream < length c.args.self.now.states.items = omega (arith, c.streams-test.true, c.len-stream-end.ensures, c.args.self.now.states.ok.0) in
    subst (λ (l : List StreamCompared). HasStream (plain_split c.args.split.now) c.args.wants.now l c.streams.stream) (sym c.deref.ensures.value)
    (has_stream (plain_split c.args.split.now) c.args.wants.now c.requires.0 c.args.self.now c.requires.1 c.streams.stream within)

pub streams-preserved : goal.streams-preserved
streams-preserved c t runs =
    let within : c.streams.stream < length c.args.self.now.states.items = omega (arith, c.streams-test.true, c.len-stream-end.ensures, c.args.self.now.states.ok.0) in
    let tells = subst (λ (l : List StreamCompared). TellsStream (plain_split c.args.split.now) c.args.wants.now l c.streams.stream c.in_ok-first.first) c.deref.ensures.value c.in_ok-first.ensures in
    more_told c.args.wants.now _ c.streams.stream c.streams.found c.push_some.new.found c.in_ok-first.first (c.streams.invariant t runs)
    (is_compared (plain_split c.args.split.now) c.args.wants.now t c.args.self.now runs c.streams.stream within c.in_ok-first.first tells) c.in_ok-push_some.ensures
