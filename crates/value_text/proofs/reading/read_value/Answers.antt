use Rattle.std.proofs.Common.{◌∙◌, sym, ap}
use Rattle.type_split.specs.Streams.{plain_split}
use Rattle.value_text.specs.Port.{port, valued}
use Rattle.value_text.specs.Tokens.{tokens_of}
use Rattle.value_text.proofs.FitLemmas.{read_series_fit}
use Rattle.value_text.proofs.reading.read_value.Goals as goal

pub returns-in-Ok-clause-fits : goal.returns-in-Ok-clause-fits
returns-in-Ok-clause-fits c =
    read_series_fit (plain_split c.args.split.now) (tokens_of c.args.text.now) c.in-Ok.roots
    (ap valued (ap (port (plain_split c.args.split.now)) (sym c.new-tokens.ensures) ∙ c.in-Ok.ensures))
