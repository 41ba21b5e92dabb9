use Rattle.std.proofs.Common.{◌∙◌, refl, sym}
use Rattle.vcd_read.specs.Profile.{VectorCode}
use Rattle.vcd_read.proofs.ParserLemmas.{empty-vector, some-vector}
use Rattle.vcd_read.proofs.parser.Parser.begin_vector.Goals as goal

pub returns-then-len-eq0-clause-takes : goal.returns-then-len-eq0-clause-takes
returns-then-len-eq0-clause-takes c wanted parts states is letters = empty-vector parts c.args.offset states c.args.self.now.vector letters (sym
    c.len.ensures ∙ c.if-len-eq0.true)

pub returns-clause-takes : goal.returns-clause-takes
returns-clause-takes c wanted parts states is letters = (
  record { awaited = VectorCode c.args.offset states; parts = parts },
  (
    some-vector parts c.args.offset states c.args.self.now.vector letters (λ none. c.if-len-eq0.false (c.len.ensures ∙ none)),
    record { dump_is = is; awaited_is = record { states = states; is = refl; letters_are = letters } },
  ),
)
