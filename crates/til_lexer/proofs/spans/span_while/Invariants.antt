use Rattle.std.proofs.Common.{◌≡◌, ◌+◌, ◌-◌, ◌≤◌, ℕ, Bool, length}
use Rattle.til_lexer.specs.Spans.{Decides, CountsInLine, CountsWithin}
use Rattle.til_lexer.proofs.SpanLemmas.{Passed}
use Rattle.til_lexer.proofs.spans.span_while.Given as goal

-- the bytes of the lines so far and what is left of the text are all that is to be passed; and the place of the line that begins
abbrev pub invariant-lines : goal.invariant-lines
invariant-lines g l = goal.F-IsAlwaysCallable g l.passes × goal.L-IsAlwaysCallable g l.in_line × CountsWithin g.L.Fn l.in_line
    × (l.span.count ≤ length l.bytes) × (l.span.after.offset ≡ l.fn.place.offset + l.span.count)
    × (l.span.after.line ≤ l.span.after.offset + 1) × (l.span.after.column ≤ l.span.after.offset + 1)
    × ((test : ℕ → Bool) → Decides g.F.Fn l.passes test → CountsInLine g.L.Fn l.in_line test → Passed test l.fn.place l.bytes l.span)

abbrev pub decreases-lines : goal.decreases-lines
decreases-lines g l = length l.bytes - l.span.count
