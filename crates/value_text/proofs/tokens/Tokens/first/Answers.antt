use Rattle.std.proofs.Common.{◌∙◌, ap}
use Rattle.tydi_reading.specs.Reading.{first}
use Rattle.value_text.proofs.TokenLemmas.{first-is}
use Rattle.value_text.proofs.tokens.Tokens.first.Goals as goal

pub returns : goal.returns
returns c = first-is c.self.inside.bytes.now c.self.inside.after.now c.self.inside.next c.self.invariant.found ∙ ap first c.self.view_is
