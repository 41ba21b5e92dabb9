-- How many bytes the text of an architecture has at least, by the lengths of names alone: it is counted before any of the text is made. This
-- project's own.
use Rattle.std.specs.Prelude.{◌≡◌, ℕ, ◌+◌, ◌*◌, ◌<◌, ◌≤◌, List, length, Option, Some, None}
use Rattle.std.specs.List.{sum_by}
use Rattle.til_resolve.specs.declared.project.Instance.{Instance}
use Rattle.vhdl_writer.specs.Architecture.{signals_at}
use Rattle.vhdl_writer.specs.declared.component.Component.{Component}
use Rattle.vhdl_writer.specs.declared.component.PortSignal.{PortSignal}

-- the bytes of the two lines for a signal of an instance, in either language: the signal that is tied to it, and the port map. In Verilog
-- they have 24 beside the names where the signal is one bit, and in VHDL more.
abbrev pub least_of_signal : List ℕ → PortSignal → ℕ
least_of_signal instance signal = 2 * length instance + 3 * length signal.name + 24

abbrev pub least_of_signals : List ℕ → List PortSignal → ℕ
least_of_signals instance signals = sum_by (least_of_signal instance) signals

abbrev pub least_of_instance : List Component → Instance → ℕ
least_of_instance components one = least_of_signals one.name (signals_at components one.streamlet)

-- those of all instances of an implementation
abbrev pub least_of_instances : List Component → List Instance → ℕ
least_of_instances components instances = sum_by (least_of_instance components) instances

-- a count within the limit, or none where it is over
abbrev pub IsCount : ℕ → ℕ → Option ℕ → Type 0
IsCount limit total (Some count) = (count ≡ total) × (total ≤ limit)
IsCount limit total None = limit < total
