-- The law of assignments: what the signals of a stream show at the one end of a net, they show at the other (Tydi specification, signals;
-- the defaults of absent signals are this project's own; the assignments are the concurrent ones of IEEE 1076).
use Rattle.std.specs.Prelude.{◌≡◌, ℕ, Bool, false, IsTrue, List, get_or}
use Rattle.std.specs.List.{All}
use Rattle.tydi_base.specs.Level.{at_most}
use Rattle.physical_stream.specs.Cycles.{Cycle}
use Rattle.physical_stream.specs.Params.{Parameters}
use Rattle.signal_layout.specs.declared.signal.Signal.TheVariants as signals
use Rattle.vhdl_meaning.specs.Meaning.{cycle_with}
use Rattle.vhdl_text.specs.declared.arch.ArchSet.{ArchSet}
use Rattle.vhdl_text.specs.declared.arch.ArchSource.{ArchSource}
use Rattle.vhdl_text.specs.declared.arch.ArchSource.TheVariants as sources
use Rattle.vhdl_writer.specs.Architecture.{Channel, EndStream, end_signal, sets_of_channel}

-- the word that each name has, lowest bit first
abbrev pub Words : Type 0
Words = List ℕ → List Bool

-- the word of the source of an assignment
abbrev pub word_from : Words → ArchSource → List Bool
word_from words (sources.Wire name) = words name
word_from words (sources.Constant bits) = bits

-- the target of an assignment has the word of its source
abbrev pub IsKept : Words → ArchSet → Type 0
IsKept words set = words set.target ≡ word_from words set.source

-- a source with the one parameters may drive a sink with the other: they differ in their levels alone, and the source's is at most the
-- sink's
pub record MayDrive (source sink : Parameters) : Type 0 where
  pub lanes : source.lanes ≡ sink.lanes
  pub dims : source.dims ≡ sink.dims
  pub element : source.element ≡ sink.element
  pub user : source.user ≡ sink.user
  pub level : IsTrue (at_most source.level sink.level)

-- the cycle that the signals of a stream show at an end: each signal that the end lacks stands at its default
abbrev pub cycle_at : Words → EndStream → Cycle
cycle_at words end = cycle_with end.stream.params (get_or (words (end_signal end signals.Ready)) 0 false) (λ signal. words (end_signal end signal))

-- under the assignments of a channel the receiving end shows the cycle that the sending end shows: the same transfer where there is one,
-- with each signal that the sending end lacks at its default, and the same ready bit
abbrev pub CyclesAreCarried : Type 0
CyclesAreCarried = (words : Words) (channel : Channel) → MayDrive channel.sending.stream.params channel.receiving.stream.params
    → All (IsKept words) (sets_of_channel channel) → cycle_at words channel.receiving ≡ cycle_at words channel.sending
