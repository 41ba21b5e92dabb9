-- Components: the ports of a streamlet with their physical streams, and the signals of these (Tydi specification, physical streams and
-- signals; their names and order are this project's own).
use Rattle.std.specs.Prelude.{ℕ, Bool, true, false, not, List, [], ◌∷◌, map, Option, Some, None, if◌then◌else◌}
use Rattle.std.specs.List.{flat_map}
use Rattle.physical_stream.specs.Params.{Parameters}
use Rattle.signal_layout.specs.Layout.{is_present, bits_of_signal}
use Rattle.signal_layout.specs.declared.signal.Signal.{Signal}
use Rattle.signal_layout.specs.declared.signal.Signal.TheVariants as signals
use Rattle.til_resolve.specs.PlainProject.{PlainPort, PlainStreamlet}
use Rattle.type_split.specs.Nodes.{turned}
use Rattle.type_split.specs.Streams.{streams_of}
use Rattle.type_split.specs.declared.split.Phys.{Phys}
use Rattle.vhdl_writer.specs.Names.{name_in, stem_of}
use Rattle.vhdl_writer.specs.declared.component.Component.{Component}
use Rattle.vhdl_writer.specs.declared.component.PortSignal.{PortSignal}
use Rattle.vhdl_writer.specs.declared.component.PortStream.{PortStream}
use Rattle.vhdl_writer.specs.declared.component.SplitPort.{SplitPort}

-- ---- signals

-- the signals of physical streams, in the order of the specification
abbrev pub all_signals : List Signal
all_signals =
    signals.Valid ∷ signals.Ready ∷ signals.Content ∷ signals.Last ∷ signals.Stai ∷ signals.Endi ∷ signals.Strb ∷ signals.User ∷ []

-- the value of a function at a signal, where the stream has it
abbrev pub where_present : {A : Type 0} → Parameters → (Signal → A) → Signal → List A
where_present p make signal = if is_present p signal then make signal ∷ [] else []

-- the values of a function at the signals that a stream has, in the order of the specification
abbrev pub for_signals : {A : Type 0} → Parameters → (Signal → A) → List A
for_signals p make = flat_map (where_present p make) all_signals

-- ready is the one signal that flows against its stream
abbrev pub is_ready : Signal → Bool
is_ready signals.Valid = false
is_ready signals.Ready = true
is_ready signals.Content = false
is_ready signals.Last = false
is_ready signals.Stai = false
is_ready signals.Endi = false
is_ready signals.Strb = false
is_ready signals.User = false

-- the width of the vector that a signal is; valid and ready are one bit each, and no vectors
abbrev pub vector_width : Parameters → Signal → Option ℕ
vector_width p signals.Valid = None
vector_width p signals.Ready = None
vector_width p signals.Content = Some (bits_of_signal p signals.Content)
vector_width p signals.Last = Some (bits_of_signal p signals.Last)
vector_width p signals.Stai = Some (bits_of_signal p signals.Stai)
vector_width p signals.Endi = Some (bits_of_signal p signals.Endi)
vector_width p signals.Strb = Some (bits_of_signal p signals.Strb)
vector_width p signals.User = Some (bits_of_signal p signals.User)

-- a signal flows out of its component: a stream flows into an `in` port and out of an `out` port, the other way where it is reversed,
-- and its signals flow with it, ready against it
abbrev pub flows_out : (inward reversed : Bool) → Signal → Bool
flows_out inward reversed signal = turned (turned (not inward) reversed) (is_ready signal)

-- ---- ports

-- a physical stream of the port of this name
abbrev pub stream_of : List ℕ → Phys → PortStream
stream_of port one = record { stem = stem_of port one.path; params = one.params; reversed = one.reversed }

-- a port with these physical streams
abbrev pub port_with : PlainPort → List Phys → SplitPort
port_with port streams = record { name = port.name; inward = port.inward; streams = map (stream_of port.name) streams }

-- a port with the physical streams of its type
abbrev pub port_of : PlainPort → SplitPort
port_of port = port_with port (streams_of port.ltype)

-- a signal of a physical stream of a port
abbrev pub signal_of : (inward : Bool) → PortStream → Signal → PortSignal
signal_of inward stream signal = record {
  name = name_in stream.stem signal;
  outward = flows_out inward stream.reversed signal;
  width = vector_width stream.params signal;
}

-- the signals of a physical stream of a port
abbrev pub signals_of_stream : (inward : Bool) → PortStream → List PortSignal
signals_of_stream inward stream = for_signals stream.params (signal_of inward stream)

-- the signals of a port, its streams in the order of its type
abbrev pub signals_of_port : SplitPort → List PortSignal
signals_of_port port = flat_map (signals_of_stream port.inward) port.streams

-- ports with all their signals
abbrev pub component_with : List SplitPort → Component
component_with ports = record { ports = ports; signals = flat_map signals_of_port ports }

-- the component of a streamlet
abbrev pub component_of : PlainStreamlet → Component
component_of streamlet = component_with (map port_of streamlet.ports)
