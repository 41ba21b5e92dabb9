use Rattle.std.proofs.Common.{List, ◌++◌, ap, ◌∙◌}
use Rattle.std.specs.List.{flat_map}
use Rattle.std.proofs.lemmas.List.{take_all}
use Rattle.signal_layout.specs.declared.signal.Signal.{Signal}
use Rattle.vhdl_writer.specs.Architecture.{set_of}
use Rattle.vhdl_writer.specs.Components.{where_present}
use Rattle.vhdl_writer.specs.EndStreams.{channel_lent}
use Rattle.vhdl_writer.proofs.sets.add_sets.Goals as goal

pub returns : goal.returns
returns c =
    c.signals.invariant
    ∙ ap (λ (l : List Signal). c.args.sets.now ++ flat_map (where_present c.args.receiving.now.stream.now.params (set_of (channel_lent c.args.sending.now c.args.receiving.now))) l)
    (take_all c.signals.signal-index c.all_signals-signal-items.result.now c.signals-test.false ∙ c.all_signals-signal-items.ensures)
