use Rattle.std.proofs.lemmas.List.Sums.{prefix_len-le-length}
use Rattle.til_lexer.proofs.spans.space_span.Goals as goal

pub span_while-requires-clause-counted : goal.span_while-requires-clause-counted
span_while-requires-clause-counted c bytes count counts = rw counts (prefix_len-le-length _ bytes.now)
