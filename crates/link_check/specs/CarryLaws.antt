-- The laws of traces that are carried. This project's own.
use Rattle.std.specs.Prelude.{◌≡◌, ℕ, Bool, false, List, Option, Some, None, option_and_then, slice_get}
use Rattle.physical_stream.specs.Cycles.{Cycle, StreamTrace, done_in}
use Rattle.physical_stream.specs.Ending.{ending_of}
use Rattle.physical_stream.specs.First.{IsFirst}
use Rattle.physical_stream.specs.Items.{items_of_all}
use Rattle.physical_stream.specs.declared.head.Head.{Head}
use Rattle.complexity_rules.specs.Levels.{AreRaised}
use Rattle.cycle_trace.specs.Survey.{first_unfinished}
use Rattle.cycle_trace.specs.Surveying.{offends_in}
use Rattle.cycle_trace.specs.Trace.{IsTrace, TraceText, streams_of}
use Rattle.logical_types.specs.Tree.{Ltype}
use Rattle.link_check.specs.Carry.{AreAlike, LevelsRise, carried, heads_from, heads_of_port, heads_to}
use Rattle.til_resolve.specs.PlainProject.{PlainPort, PlainStreamlet}
use Rattle.link_check.specs.Chains.{LeadsToSink, streamlet_under}
use Rattle.link_check.specs.Checked.{AreNets}
use Rattle.link_check.specs.Compatible.{Compatible}
use Rattle.link_check.specs.Ends.{port_named, ports_at}
use Rattle.link_check.specs.declared.leaf.LeafPort.{LeafPort}
use Rattle.link_check.specs.declared.nets.Nets.{Nets}

-- a trace, and heads at which its streams may arrive
pub record CanCarry (t : TraceText) (heads : List Head) : Type 0 where
  pub trace : IsTrace t
  pub alike : AreAlike t.heads heads
  pub rise : LevelsRise t.heads heads

-- what arrives is a trace
abbrev pub CarriedTracesStand : Type 0
CarriedTracesStand = (t : TraceText) (heads : List Head) → CanCarry t heads → IsTrace (carried heads t)

-- the same stream at both ends: its cycles, the items done in each cycle, and how it ends
pub record IsSameStream (one other : StreamTrace) : Type 0 where
  pub cycles : other.cycles ≡ one.cycles
  pub items : (now : Cycle) → items_of_all other.params (done_in now) ≡ items_of_all one.params (done_in now)
  pub ending : ending_of other.params other.cycles ≡ ending_of one.params one.cycles

-- each stream has the same cycles, items and ending where it arrives
abbrev pub CarriedStreamsStay : Type 0
CarriedStreamsStay = (t : TraceText) (heads : List Head) → CanCarry t heads
    → (stream : ℕ) (one other : StreamTrace) → slice_get (streams_of t) stream ≡ Some one → slice_get (streams_of (carried heads t)) stream ≡ Some other → IsSameStream one other

-- and each stands at a level whose first number is not lower; nothing else of it is another
abbrev pub CarriedStreamsRise : Type 0
CarriedStreamsRise = (t : TraceText) (heads : List Head) → CanCarry t heads → AreRaised (streams_of t) (streams_of (carried heads t))

-- a trace without an offence arrives without one
abbrev pub CarriedTracesStayLegal : Type 0
CarriedTracesStayLegal = (t : TraceText) (heads : List Head) → CanCarry t heads → IsFirst (offends_in t) None → IsFirst (offends_in (carried heads t)) None

-- and the first stream that does not end whole, if there is one, is the same
abbrev pub CarriedEndingsStay : Type 0
CarriedEndingsStay = (t : TraceText) (heads : List Head) → CanCarry t heads → first_unfinished 0 (streams_of (carried heads t)) ≡ first_unfinished 0 (streams_of t)

-- the port that stands at a leaf port
abbrev pub port_at : List PlainStreamlet → LeafPort → Option PlainPort
port_at streamlets leaf = option_and_then (λ number. port_named (ports_at streamlets number) leaf.port) (streamlet_under streamlets leaf.top leaf.instances)

-- the types of the ports at two leaf ports are compatible, the source's first
pub record HaveTypes (streamlets : List PlainStreamlet) (source sink : LeafPort) : Type 0 where
  pub one : PlainPort
  pub other : PlainPort
  pub here : port_at streamlets source ≡ Some one
  pub there : port_at streamlets sink ≡ Some other
  pub compatible : Compatible false one.ltype other.ltype

-- so it is at the ends of each chain of nets
abbrev pub ChainsKeepTypes : Type 0
ChainsKeepTypes = (streamlets : List PlainStreamlet) (nets : Nets) → AreNets streamlets nets → (source sink : LeafPort) → LeadsToSink streamlets nets.impls source sink → HaveTypes streamlets source sink

-- types that are compatible with a third one, on either side of it, are so with each other
abbrev pub CompatibleIsTransitive : Type 0
CompatibleIsTransitive = (reversed : Bool) (source between sink : Ltype) → Compatible reversed source between → Compatible reversed between sink → Compatible reversed source sink

-- the streams of compatible ports are alike at both ends, and the level of none falls on its way
pub record PortsRise (source sink : Ltype) : Type 0 where
  pub alike : AreAlike (heads_from (heads_of_port source) (heads_of_port sink)) (heads_to (heads_of_port source) (heads_of_port sink))
  pub rise : LevelsRise (heads_from (heads_of_port source) (heads_of_port sink)) (heads_to (heads_of_port source) (heads_of_port sink))

abbrev pub CompatiblePortsRise : Type 0
CompatiblePortsRise = (source sink : Ltype) → Compatible false source sink → PortsRise source sink
