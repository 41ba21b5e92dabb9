use Rattle.std.proofs.Common.{arith}
use Rattle.vhdl_text.proofs.CodeLemmas.{cut-found, cut-none}
use Rattle.vhdl_text.proofs.cuts.cut_last.Goals as goal

pub returns-then-text-left : goal.returns-then-text-left
returns-then-text-left c = cut-found c.args.mark c.args.text.now c.bytes.left (omega (arith, c.bytes-test.true)) c.bytes.invariant.0 c.bytes.invariant.1 c.if-text-left.true

pub returns : goal.returns
returns c = cut-none c.args.mark c.args.text.now c.bytes.left (omega (arith, c.bytes-test.false)) c.bytes.invariant.1
