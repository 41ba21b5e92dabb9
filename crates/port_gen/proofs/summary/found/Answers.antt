use Rattle.std.proofs.Common.{subst, sym, ◌∙◌}
use Rattle.cycle_trace.specs.Trace.{streams_of}
use Rattle.logical_value.specs.Tree.{plain_port}
use Rattle.type_split.specs.Streams.{PlainSplit, plain_split}
use Rattle.trace_decode.specs.Outcome.{IsDecoded, users_on}
use Rattle.port_gen.proofs.SummaryLemmas.{found-summary, found-text}
use Rattle.port_gen.proofs.summary.found.Goals as goal

pub returns : goal.returns
returns c value t known taken =
    let split = plain_split c.args.split.now in
    let users = users_on (streams_of t) in
    let counts = c.in_ok-counts.ensures t (record { legal = known.legal; whole = known.whole; answers = c.finish.ensures t taken.surveyed }) in
    let decoded = c.in_ok-decoded.ensures split t value users
    (record { can = known.can; carries = known.carries; decodes = subst (λ (s : PlainSplit). IsDecoded s t c.finish-2.result) taken.split_is (c.finish-2.ensures t taken.decoded) }) in
    found-summary split value t _ counts (sym known.cycles_are)
    (found-text split value (plain_port c.in_ok-decoded.decoded.value) users c.in_ok-decoded.decoded.users _ c.in_ok-decoded_length.ensures decoded.0 decoded.1)
    (c.total.ensures t taken.summed)
