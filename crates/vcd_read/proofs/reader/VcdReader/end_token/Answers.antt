use Rattle.std.proofs.Common.{List, ℕ, subst}
use Rattle.vcd_read.specs.Parser as parsers
use Rattle.vcd_read.specs.Profile.{read_on}
use Rattle.vcd_read.specs.Tokens.{token_at}
use Rattle.vcd_read.proofs.reader.VcdReader.end_token.Goals as goal

pub returns-clause-takes : goal.returns-clause-takes
returns-clause-takes c wanted reached st =
    subst (λ (l : List ℕ). parsers.Takes wanted c.take_token.result c.take_token.new.parser (read_on reached.awaited reached.parts (token_at
    c.args.self.now.start l))) c.as_slice.ensures (c.take_token.ensures.takes wanted reached st)
