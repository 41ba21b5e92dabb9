-- The laws of the assignments of an architecture: each signal of each receiving end has exactly one, and there are no others; and what they
-- carry from one end of a net to the other (Tydi specification, signals; IEEE 1076, concurrent signal assignments).
use Rattle.std.specs.Prelude.{◌≡◌, ◌↔◌, ℕ, Bool, true, IsTrue, List, [], ◌∷◌, ◌++◌, length, map, slice_get, None, Some, Contains}
use Rattle.std.specs.List.{All, flat_map}
use Rattle.tydi_base.specs.Name.{is_name}
use Rattle.physical_stream.specs.Cycles.{Cycle}
use Rattle.physical_stream.specs.declared.head.Head.{Head}
use Rattle.signal_layout.specs.Layout.{is_present}
use Rattle.signal_layout.specs.declared.signal.Signal.{Signal}
use Rattle.cycle_trace.specs.Trace.{TraceText}
use Rattle.type_split.specs.Streams.{streams_of}
use Rattle.type_split.specs.declared.split.Phys.{Phys}
use Rattle.til_resolve.specs.PlainProject.{PlainPort, PlainProject, PlainStreamlet}
use Rattle.til_resolve.specs.SoundProject.{AreDistinct, IsSoundProject, instances_inside}
use Rattle.til_resolve.specs.declared.project.Instance.{Instance}
use Rattle.link_check.specs.Carry.{carried}
use Rattle.link_check.specs.Checked.{AreNets}
use Rattle.link_check.specs.declared.nets.ImplNets.{ImplNets}
use Rattle.link_check.specs.declared.nets.Net.{Net}
use Rattle.link_check.specs.declared.nets.Nets.{Nets}
use Rattle.vhdl_text.specs.declared.arch.ArchSet.{ArchSet}
use Rattle.vhdl_writer.specs.Architecture.{Channel, EndStream, channels_in, nets_of, set_of, sets_of_net, streams_at}
use Rattle.vhdl_writer.specs.Clashes.{first_clash}
use Rattle.vhdl_writer.specs.Components.{component_of}
use Rattle.vhdl_writer.specs.Laws.{IsKept, MayDrive, Words, cycle_at}
use Rattle.vhdl_writer.specs.declared.component.Component.{Component}
use Rattle.vhdl_writer.specs.declared.component.PortStream.{PortStream}

-- ---- designs

-- the names that the names of signals are made of are names: those of ports, of instances, and along the paths of physical streams
pub record HasNames (streamlet : PlainStreamlet) : Type 0 where
  pub ports : (port : PlainPort) → Contains streamlet.ports port → IsTrue (is_name port.name)
  pub streams : (port : PlainPort) (stream : Phys) → Contains streamlet.ports port → Contains (streams_of port.ltype) stream
      → All (λ name. IsTrue (is_name name)) stream.path
  pub instances : (instance : Instance) → Contains (instances_inside streamlet.body) instance → IsTrue (is_name instance.name)

-- a project that stands and has architectures: its names are names, no port of it has two physical streams of one path, and these are its
-- nets
pub record IsDesigned (project : PlainProject) (nets : Nets) : Type 0 where
  pub sound : IsSoundProject project
  pub names : (streamlet : PlainStreamlet) → Contains project.streamlets streamlet → HasNames streamlet
  pub apart : first_clash project.streamlets ≡ None
  pub nets_are : AreNets project.streamlets nets

-- ---- exactly one assignment to each signal of each receiving end

module _ (components : List Component) (home : ℕ) (instances : List Instance) (nets : List Net) where
  -- an assignment is the one for a signal that the receiving end of a stream of a net has
  pub record IsForSignal (set : ArchSet) : Type 0 where
    pub net : Net
    pub among : Contains nets net
    pub channel : Channel
    pub inside : Contains (channels_in components home instances net) channel
    pub signal : Signal
    pub present : is_present channel.receiving.stream.params signal ≡ true
    pub is : set ≡ set_of channel signal

  -- these are the assignments: for each signal that the receiving end of a stream of a net has there is its one, there is no other, and no
  -- two have one target
  pub record AreAssignments (sets : List ArchSet) : Type 0 where
    pub each : (set : ArchSet) → Contains sets set ↔ IsForSignal set
    pub once : AreDistinct (λ (set : ArchSet). set.target) sets

-- the assignments of the architecture of a streamlet of this number
abbrev pub sets_inside : List PlainStreamlet → List ImplNets → ℕ → PlainStreamlet → List ArchSet
sets_inside streamlets impls number one =
    flat_map (sets_of_net (map component_of streamlets) number (instances_inside one.body)) (nets_of impls number)

-- each architecture of streamlets with these nets has the assignments of its nets
abbrev pub AreAssignedOnce : List PlainStreamlet → Nets → Type 0
AreAssignedOnce streamlets nets = (number : ℕ) (one : PlainStreamlet) → slice_get streamlets number ≡ Some one
    → AreAssignments (map component_of streamlets) number (instances_inside one.body) (nets_of nets.impls number)
    (sets_inside streamlets nets.impls number one)

-- the law of assignments in each architecture of a project
abbrev pub EachSignalIsAssignedOnce : Type 0
EachSignalIsAssignedOnce = (project : PlainProject) (nets : Nets) → IsDesigned project nets → AreAssignedOnce project.streamlets nets

-- ---- the streams of a net

-- each stream at either end has its channel, and the sending end of each may drive the receiving end
pub record AreDriven (source sink : List PortStream) (channels : List Channel) : Type 0 where
  pub of_source : length channels ≡ length source
  pub of_sink : length channels ≡ length sink
  pub may : All (λ (channel : Channel). MayDrive channel.sending.stream.params channel.receiving.stream.params) channels

-- so it is with each of these nets of streamlets
abbrev pub AreNetsDriven : List PlainStreamlet → Nets → Type 0
AreNetsDriven streamlets nets = (number : ℕ) (one : PlainStreamlet) → slice_get streamlets number ≡ Some one
    → (net : Net) → Contains (nets_of nets.impls number) net
    → AreDriven (streams_at (map component_of streamlets) number (instances_inside one.body) net.source)
    (streams_at (map component_of streamlets) number (instances_inside one.body) net.sink)
    (channels_in (map component_of streamlets) number (instances_inside one.body) net)

-- and with all nets that the check of links gives
abbrev pub CheckedNetsAreDriven : Type 0
CheckedNetsAreDriven = (streamlets : List PlainStreamlet) (nets : Nets) → AreNets streamlets nets → AreNetsDriven streamlets nets

-- ---- what arrives

-- the ends of channels where their data arrives, and where it comes from
abbrev pub receiving_ends : List Channel → List EndStream
receiving_ends channels = map (λ (channel : Channel). channel.receiving) channels

abbrev pub sending_ends : List Channel → List EndStream
sending_ends channels = map (λ (channel : Channel). channel.sending) channels

-- the rows that these ends show in these steps, one after another
abbrev pub rows_at : List EndStream → List Words → List Cycle
rows_at ends [] = []
rows_at ends (words ∷ more) = map (cycle_at words) ends ++ rows_at ends more

-- the trace of these ends, whose streams have these heads
abbrev pub trace_at : List Head → List EndStream → List Words → TraceText
trace_at heads ends steps = record { cycles = length steps; heads = heads; rows = rows_at ends steps }

-- under the assignments of an architecture, the trace at the receiving ends of a net is the one that arrives where that at the sending ends
-- is carried there
abbrev pub DoNetsCarry : List PlainStreamlet → Nets → Type 0
DoNetsCarry streamlets nets = (number : ℕ) (one : PlainStreamlet) → slice_get streamlets number ≡ Some one
    → (net : Net) → Contains (nets_of nets.impls number) net
    → (steps : List Words) → All (λ (words : Words). All (IsKept words) (sets_inside streamlets nets.impls number one)) steps
    → (from to : List Head)
    → trace_at to (receiving_ends (channels_in (map component_of streamlets) number (instances_inside one.body) net)) steps
    ≡ carried to (trace_at from (sending_ends (channels_in (map component_of streamlets) number (instances_inside one.body) net)) steps)

-- so it is with the nets that the check of links gives
abbrev pub CheckedNetsCarry : Type 0
CheckedNetsCarry = (streamlets : List PlainStreamlet) (nets : Nets) → AreNets streamlets nets → DoNetsCarry streamlets nets
