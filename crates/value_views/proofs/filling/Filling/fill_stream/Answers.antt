use Rattle.std.proofs.Common.{◌∙◌, sym}
use Rattle.logical_types.specs.Tree.{plain, settings_of}
use Rattle.value_views.specs.Taking.{left}
use Rattle.value_views.proofs.TakingLemmas.{taken_stream}
use Rattle.value_views.proofs.filling.Filling.fill_stream.Goals as goal

pub returns-else-is_apart : goal.returns-else-is_apart
returns-else-is_apart c = λ one value more waits.
    taken_stream (left c.args.self.now) (left c.take.new.self) c.args.number (plain c.args.stream.now.element) (plain c.args.stream.now.user) (settings_of c.args.stream.now) one value more c.take.result
    (sym c.is_apart.ensures ∙ c.if-is_apart.false) waits c.take.ensures
