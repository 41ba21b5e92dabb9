use Rattle.std.proofs.Common.{◌∙◌, sym, ap}
use Rattle.tydi_reading.specs.Reading.{rest_of}
use Rattle.value_text.proofs.TokenLemmas.{rest-none, rest-some}
use Rattle.value_text.proofs.tokens.TokensSource.skip.Goals as goal

pub returns-then-is_some : goal.returns-then-is_some
returns-then-is_some c =
    c.self-then-is_some.view_is ∙ c.new.ensures ∙ rest-some c.self.inside.bytes.now c.self.inside.after.now c.self.inside.next c.self.invariant.found (sym c.is_some.ensures ∙ c.if-is_some.true)
    ∙ ap rest_of c.self.view_is

pub returns-else-is_some : goal.returns-else-is_some
returns-else-is_some c =
    sym c.self.view_is ∙ rest-none c.self.inside.bytes.now c.self.inside.after.now c.self.inside.next c.self.invariant.found (sym c.is_some.ensures ∙ c.if-is_some.false)
    ∙ ap rest_of c.self.view_is
