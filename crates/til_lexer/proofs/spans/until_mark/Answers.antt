use Rattle.std.proofs.Common.{not, eqb}
use Rattle.std.proofs.lemmas.List.Sums.{prefix_len-le-length}
use Rattle.til_lexer.proofs.PlaceLemmas.{marked}
use Rattle.til_lexer.proofs.spans.until_mark.Goals as goal

pub span_while-span-requires-clause-counted : goal.span_while-span-requires-clause-counted
span_while-span-requires-clause-counted c bytes count counts = rw counts (prefix_len-le-length _ bytes.now)

pub returns-then-span-bytes : goal.returns-then-span-bytes
returns-then-span-bytes c =
    marked c.args.mark c.args.place c.args.bytes.now c.span_while-span.result
    (c.span_while-span.ensures.value (λ byte. not (eqb byte c.args.mark)) (λ byte passes says. says) (λ bytes count counts. counts)) c.if-span-bytes.true
