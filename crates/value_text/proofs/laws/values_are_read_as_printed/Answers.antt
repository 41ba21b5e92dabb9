use Rattle.value_text.proofs.printed.NamedSplits.{splits_named}
use Rattle.value_text.proofs.printed.ReadAgain.{values_read}
use Rattle.value_text.proofs.printed.ReadOnce.{values_once}
use Rattle.value_text.proofs.laws.values_are_read_as_printed.Goals as goal

pub returns : goal.returns
returns c = record { printed = values_read; named = splits_named; once = values_once }
