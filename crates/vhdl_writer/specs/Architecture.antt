-- The architectures of a project's nets (IEEE 1076, design entities; the forms are this project's own): an entity for each streamlet, and
-- for each implementation of instances and links an architecture, which has a signal for each signal of each instance's ports, the
-- instances with their port maps, and an assignment for each signal of each net.
use Rattle.std.specs.Prelude.{ℕ, suc, nat_eq, Bool, false, List, [], ◌∷◌, map, Option, Some, None, slice_get, codes, if◌then◌else◌}
use Rattle.std.specs.List.{find, flat_map}
use Rattle.std.specs.Str.{bytes_eq}
use Rattle.tydi_base.specs.Bits.{bits_of}
use Rattle.physical_stream.specs.Params.{Parameters}
use Rattle.signal_layout.specs.Layout.{is_present, bits_of_signal, default_number, default_of}
use Rattle.signal_layout.specs.declared.signal.Signal.{Signal}
use Rattle.til_resolve.specs.PlainProject.{PlainStreamlet}
use Rattle.til_resolve.specs.SoundProject.{instances_inside}
use Rattle.til_resolve.specs.declared.project.Instance.{Instance}
use Rattle.til_resolve.specs.declared.project.LinkEnd.{LinkEnd}
use Rattle.link_check.specs.Chains.{is_structural}
use Rattle.link_check.specs.Ends.{instance_named}
use Rattle.link_check.specs.declared.nets.ImplNets.{ImplNets}
use Rattle.link_check.specs.declared.nets.Net.{Net}
use Rattle.vhdl_text.specs.declared.arch.Arch.{Arch}
use Rattle.vhdl_text.specs.declared.arch.ArchMap.{ArchMap}
use Rattle.vhdl_text.specs.declared.arch.ArchPart.{ArchPart}
use Rattle.vhdl_text.specs.declared.arch.ArchPort.{ArchPort}
use Rattle.vhdl_text.specs.declared.arch.ArchSet.{ArchSet}
use Rattle.vhdl_text.specs.declared.arch.ArchSource.{ArchSource}
use Rattle.vhdl_text.specs.declared.arch.ArchSource.TheVariants as sources
use Rattle.vhdl_text.specs.declared.arch.ArchWire.{ArchWire}
use Rattle.vhdl_writer.specs.Components.{component_of, for_signals, is_ready}
use Rattle.vhdl_writer.specs.Names.{name_at, name_in, name_under, quoted}
use Rattle.vhdl_writer.specs.declared.component.Component.{Component}
use Rattle.vhdl_writer.specs.declared.component.PortSignal.{PortSignal}
use Rattle.vhdl_writer.specs.declared.component.PortStream.{PortStream}
use Rattle.vhdl_writer.specs.declared.component.SplitPort.{SplitPort}

-- ---- entities

-- the clock and the reset, which each entity has first
abbrev pub bit_port : List ℕ → ArchPort
bit_port name = record { name = name; outward = false; width = None }

-- the port of an entity for a signal
abbrev pub entity_port : PortSignal → ArchPort
entity_port signal = record { name = quoted signal.name; outward = signal.outward; width = signal.width }

-- the ports of an entity
abbrev pub entity_ports : List PortSignal → List ArchPort
entity_ports signals = bit_port (codes "clk") ∷ bit_port (codes "rst") ∷ map entity_port signals

-- ---- instances

-- the component of a number, and its signals
abbrev pub signals_found : Option Component → List PortSignal
signals_found None = []
signals_found (Some component) = component.signals

abbrev pub signals_at : List Component → ℕ → List PortSignal
signals_at components number = signals_found (slice_get components number)

-- the signal of an architecture that is tied to a signal of an instance
abbrev pub wire_of : List ℕ → PortSignal → ArchWire
wire_of instance signal = record { name = quoted (name_under instance signal.name); width = signal.width }

abbrev pub wires_of : List Component → Instance → List ArchWire
wires_of components one = map (wire_of one.name) (signals_at components one.streamlet)

-- the port map of an instance ties each of its ports to the signal that is named after it, and the clock and the reset through
abbrev pub through : List ℕ → ArchMap
through name = record { port = name; wire = name }

abbrev pub map_of : List ℕ → PortSignal → ArchMap
map_of instance signal = record { port = quoted signal.name; wire = quoted (name_under instance signal.name) }

abbrev pub maps_of : List ℕ → List PortSignal → List ArchMap
maps_of instance signals = through (codes "clk") ∷ through (codes "rst") ∷ map (map_of instance) signals

-- the path of the streamlet of a number
abbrev pub path_found : Option PlainStreamlet → List (List ℕ)
path_found None = []
path_found (Some streamlet) = streamlet.path

abbrev pub path_at : List PlainStreamlet → ℕ → List (List ℕ)
path_at streamlets number = path_found (slice_get streamlets number)

-- an instance
abbrev pub part_of : List PlainStreamlet → List Component → Instance → ArchPart
part_of streamlets components one = record {
  name = one.name;
  entity = path_at streamlets one.streamlet;
  maps = maps_of one.name (signals_at components one.streamlet);
}

-- ---- assignments

-- a physical stream at an end inside an implementation: that of an own port, or of a port of an instance
pub record EndStream : Type 0 where
  pub instance : Option (List ℕ)
  pub stream : PortStream

-- the name of a signal there
abbrev pub end_signal : EndStream → Signal → List ℕ
end_signal one signal = quoted (name_at one.instance (name_in one.stream.stem signal))

-- a physical stream of a net: the end that it comes from, and the end that it goes to
pub record Channel : Type 0 where
  pub sending : EndStream
  pub receiving : EndStream

-- a stream comes from the source end of its net, or from the sink end where it is reversed
abbrev pub channel_between : EndStream → EndStream → Channel
channel_between source sink = if source.stream.reversed then record { sending = sink; receiving = source } else record { sending = source; receiving = sink }

-- the channels of two ends that have these streams, in their order
abbrev pub channels_of : (source sink : Option (List ℕ)) → List PortStream → List PortStream → List Channel
channels_of source sink [] others = []
channels_of source sink (one ∷ more) [] = []
channels_of source sink (one ∷ more) (other ∷ others) =
    channel_between (record { instance = source; stream = one }) (record { instance = sink; stream = other }) ∷ channels_of source sink more others

-- the word of a signal that a stream lacks
abbrev pub default_word : Parameters → Signal → List Bool
default_word p signal = bits_of (bits_of_signal p signal) (default_number p (default_of signal))

-- where a signal of the receiving end comes from: the signal of that kind at the sending end, or its default where that lacks it
abbrev pub source_of : Channel → Signal → ArchSource
source_of channel signal =
    if is_present channel.sending.stream.params signal then sources.Wire (end_signal channel.sending signal)
    else sources.Constant (default_word channel.receiving.stream.params signal)

-- the assignment for a signal of the receiving end; ready goes the other way
abbrev pub set_of : Channel → Signal → ArchSet
set_of channel signal =
    if is_ready signal then record { target = end_signal channel.sending signal; source = sources.Wire (end_signal channel.receiving signal) }
    else record { target = end_signal channel.receiving signal; source = source_of channel signal }

-- the assignments for all signals that the receiving end has
abbrev pub sets_of_channel : Channel → List ArchSet
sets_of_channel channel = for_signals channel.receiving.stream.params (set_of channel)

-- the ports of the component of a number
abbrev pub ports_found : Option Component → List SplitPort
ports_found None = []
ports_found (Some component) = component.ports

abbrev pub ports_at : List Component → ℕ → List SplitPort
ports_at components number = ports_found (slice_get components number)

-- the streams of the port of a name
abbrev pub streams_found : Option SplitPort → List PortStream
streams_found None = []
streams_found (Some port) = port.streams

abbrev pub streams_named : List SplitPort → List ℕ → List PortStream
streams_named ports name = streams_found (find (λ (port : SplitPort). bytes_eq port.name name) ports)

-- the streams of a port of an instance
abbrev pub streams_inside : List Component → Option Instance → List ℕ → List PortStream
streams_inside components None name = []
streams_inside components (Some one) name = streams_named (ports_at components one.streamlet) name

-- the streams at an end inside the implementation of the streamlet of a number, which has these instances
abbrev pub streams_under : List Component → (home : ℕ) → List Instance → Option (List ℕ) → List ℕ → List PortStream
streams_under components home instances None name = streams_named (ports_at components home) name
streams_under components home instances (Some instance) name = streams_inside components (instance_named instances instance) name

abbrev pub streams_at : List Component → (home : ℕ) → List Instance → LinkEnd → List PortStream
streams_at components home instances end = streams_under components home instances end.instance end.port

-- the channels of a net
abbrev pub channels_in : List Component → (home : ℕ) → List Instance → Net → List Channel
channels_in components home instances net =
    channels_of net.source.instance net.sink.instance (streams_at components home instances net.source) (streams_at components home instances net.sink)

-- the assignments for a net: by stream, and in each stream by signal
abbrev pub sets_of_net : List Component → (home : ℕ) → List Instance → Net → List ArchSet
sets_of_net components home instances net = flat_map sets_of_channel (channels_in components home instances net)

-- ---- architectures

-- the nets of the implementation of a streamlet
abbrev pub nets_found : Option ImplNets → List Net
nets_found None = []
nets_found (Some impl) = impl.nets

abbrev pub nets_of : List ImplNets → ℕ → List Net
nets_of impls number = nets_found (find (λ (one : ImplNets). nat_eq one.streamlet number) impls)

-- the entity of the streamlet of a number, and its architecture if it has one
abbrev pub arch_of : List PlainStreamlet → List Component → List ImplNets → ℕ → PlainStreamlet → Arch
arch_of streamlets components impls number one = record {
  name = one.path;
  ports = entity_ports (signals_at components number);
  has_body = is_structural one.body;
  wires = flat_map (wires_of components) (instances_inside one.body);
  parts = map (part_of streamlets components) (instances_inside one.body);
  sets = flat_map (sets_of_net components number (instances_inside one.body)) (nets_of impls number);
}

-- those of streamlets one after another, the first of which has this number
abbrev pub archs_from : List PlainStreamlet → List Component → List ImplNets → ℕ → List PlainStreamlet → List Arch
archs_from streamlets components impls number [] = []
archs_from streamlets components impls number (one ∷ more) =
    arch_of streamlets components impls number one ∷ archs_from streamlets components impls (suc number) more

-- the entities and architectures of a project with these nets, in text order
abbrev pub architectures : List PlainStreamlet → List ImplNets → List Arch
architectures streamlets impls = archs_from streamlets (map component_of streamlets) impls 0 streamlets
