-- The channels of a net: each stream at either end has one, and the sending end may drive the receiving end.
use Rattle.std.proofs.Common.{◌≡◌, ℕ, suc, ◌⊎◌, inl, inr, Bool, true, false, IsTrue, List, [], ◌∷◌, length, map, Option, Contains, slice_get, refl, sym, ap, ◌∙◌, subst, if◌then◌else◌}
use Rattle.std.specs.List.{All}
use Rattle.std.proofs.lemmas.List.Elements.{All-cons, All-nil}
use Rattle.physical_stream.specs.Levels.{at_level}
use Rattle.physical_stream.specs.Params.{Parameters}
use Rattle.type_split.specs.Streams.{streams_of}
use Rattle.type_split.specs.declared.split.Phys.{Phys}
use Rattle.til_resolve.specs.PlainProject.{PlainStreamlet}
use Rattle.til_resolve.specs.SoundProject.{instances_inside}
use Rattle.link_check.specs.Carry.{head_of_stream}
use Rattle.link_check.specs.Compatible.{are_in_order}
use Rattle.link_check.specs.declared.nets.Net.{Net}
use Rattle.link_check.proofs.NetLemmas.{Contains-cons, Contains-none}
use Rattle.link_check.proofs.TwinLemmas.{AreLinked, IsLinked, ports-linked}
use Rattle.vhdl_writer.specs.Architecture.{Channel, EndStream, channel_between, channels_in, channels_of, nets_of, streams_at}
use Rattle.vhdl_writer.specs.Components.{component_of, stream_of}
use Rattle.vhdl_writer.specs.Laws.{MayDrive}
use Rattle.vhdl_writer.specs.WiringLaws.{AreDriven, CheckedNetsAreDriven}
use Rattle.vhdl_writer.specs.declared.component.PortStream.{PortStream}
use Rattle.vhdl_writer.proofs.ApartLemmas.{Contains-first, Contains-later}
use Rattle.vhdl_writer.proofs.NetLemmas.{HasPorts, has-ports, link-nets}

-- ---- the streams that a channel is of

-- a stream of a port at an end inside an implementation
abbrev pub stream_at_end : Option (List ℕ) → List ℕ → Phys → EndStream
stream_at_end instance port stream = record { instance = instance; stream = stream_of port stream }

-- the channel of a net between these streams
abbrev pub channel_at : Net → Phys → Phys → Channel
channel_at net source sink = channel_between (stream_at_end net.source.instance net.source.port source) (stream_at_end net.sink.instance net.sink.port sink)

pub record IsBetween (net : Net) (sources sinks : List Phys) (channel : Channel) : Type 0 where
  pub source : Phys
  pub sink : Phys
  pub among : Contains sources source
  pub amid : Contains sinks sink
  pub is : channel ≡ channel_at net source sink

-- the channels of a net whose ends have these streams
abbrev pub channels_for : Net → List Phys → List Phys → List Channel
channels_for net sources sinks = channels_of net.source.instance net.sink.instance (map (stream_of net.source.port) sources) (map (stream_of net.sink.port) sinks)

pub between : (net : Net) (sources sinks : List Phys) (channel : Channel) → Contains (channels_for net sources sinks) channel → IsBetween net sources sinks channel
between net [] sinks channel there = absurd (Contains-none channel there)
between net (source ∷ more) [] channel there = absurd (Contains-none channel there)
between net (source ∷ more) (sink ∷ others) channel there = by (Contains-cons (channel_at net source sink) (channels_for net more others) channel there) (between net more others channel)
  where
    by : (channel_at net source sink ≡ channel) ⊎ Contains (channels_for net more others) channel → (Contains (channels_for net more others) channel → IsBetween net more others channel) → IsBetween net (source ∷ more) (sink ∷ others) channel
    by (inl same) rest = record { source = source; sink = sink; among = Contains-first source more; amid = Contains-first sink others; is = sym same }
    by (inr later) rest = let found = rest later in
        record { source = found.source; sink = found.sink; among = Contains-later source more found.source found.among; amid = Contains-later sink others found.sink found.amid; is = found.is }

-- ---- the sending end may drive the receiving end

same-sides : (p q : Parameters) → q ≡ at_level q.level p → (p.lanes ≡ q.lanes) × (p.dims ≡ q.dims) × (p.element ≡ q.element) × (p.user ≡ q.user)
same-sides p q is = (
  sym (ap (λ (r : Parameters). r.lanes) is),
  sym (ap (λ (r : Parameters). r.dims) is),
  sym (ap (λ (r : Parameters). r.element) is),
  sym (ap (λ (r : Parameters). r.user) is),
)

abbrev MayDriveIn : Channel → Type 0
MayDriveIn channel = MayDrive channel.sending.stream.params channel.receiving.stream.params

may-drive : (one other : EndStream) → other.stream.params ≡ at_level other.stream.params.level one.stream.params
    → IsTrue (are_in_order one.stream.reversed one.stream.params.level other.stream.params.level) → MayDriveIn (channel_between one other)
may-drive one other params level = by one.stream.reversed level
  where
    same : (one.stream.params.lanes ≡ other.stream.params.lanes) × (one.stream.params.dims ≡ other.stream.params.dims) × (one.stream.params.element ≡ other.stream.params.element)
        × (one.stream.params.user ≡ other.stream.params.user)
    same = same-sides one.stream.params other.stream.params params

    by : (reversed : Bool) → IsTrue (are_in_order reversed one.stream.params.level other.stream.params.level)
        → MayDriveIn (if reversed then record { sending = other; receiving = one } else record { sending = one; receiving = other })
    by false level = record { lanes = same.0; dims = same.1; element = same.2; user = same.3; level = level }
    by true level = record { lanes = sym same.0; dims = sym same.1; element = sym same.2; user = sym same.3; level = level }

all-driven : (net : Net) (sources sinks : List Phys) → AreLinked (map head_of_stream sources) (map head_of_stream sinks)
    → AreDriven (map (stream_of net.source.port) sources) (map (stream_of net.sink.port) sinks) (channels_for net sources sinks)
all-driven net [] [] linked = record { of_source = refl; of_sink = refl; may = All-nil MayDriveIn }
all-driven net [] (sink ∷ others) linked = absurd linked
all-driven net (source ∷ more) [] linked = absurd linked
all-driven net (source ∷ more) (sink ∷ others) linked =
    let rest = all-driven net more others linked.1 in
    record {
      of_source = ap (λ (n : ℕ). suc n) rest.of_source;
      of_sink = ap (λ (n : ℕ). suc n) rest.of_sink;
      may = All-cons MayDriveIn (channel_between (stream_at_end net.source.instance net.source.port source) (stream_at_end net.sink.instance net.sink.port sink)) (channels_for net more others)
          (may-drive (stream_at_end net.source.instance net.source.port source) (stream_at_end net.sink.instance net.sink.port sink) linked.0.params linked.0.level) rest.may;
    }

-- the channels of a net between ports are those of the streams of these
pub channels-are : (streamlets : List PlainStreamlet) (number : ℕ) (one : PlainStreamlet) (net : Net) (ports : HasPorts streamlets number one net)
    → channels_in (map component_of streamlets) number (instances_inside one.body) net ≡ channels_for net (streams_of ports.from) (streams_of ports.to)
channels-are streamlets number one net ports =
    ap (λ (streams : List PortStream). channels_of net.source.instance net.sink.instance streams (streams_at (map component_of streamlets) number (instances_inside one.body) net.sink)) ports.source.streams
    ∙ ap (λ (streams : List PortStream). channels_of net.source.instance net.sink.instance (map (stream_of net.source.port) (streams_of ports.from)) streams) ports.sink.streams

pub nets-driven : CheckedNetsAreDriven
nets-driven streamlets nets are number one at net there =
    let ports = has-ports streamlets number one (nets_of nets.impls number) net at (link-nets streamlets nets are number one at) there in
    subst (λ (channels : List Channel). AreDriven (streams_at (map component_of streamlets) number (instances_inside one.body) net.source)
    (streams_at (map component_of streamlets) number (instances_inside one.body) net.sink) channels) (sym (channels-are streamlets number one net ports))
    (subst (λ (streams : List PortStream). AreDriven streams (streams_at (map component_of streamlets) number (instances_inside one.body) net.sink) (channels_for net (streams_of ports.from) (streams_of ports.to)))
    (sym ports.source.streams)
    (subst (λ (streams : List PortStream). AreDriven (map (stream_of net.source.port) (streams_of ports.from)) streams (channels_for net (streams_of ports.from) (streams_of ports.to))) (sym ports.sink.streams)
    (all-driven net (streams_of ports.from) (streams_of ports.to) (ports-linked ports.from ports.to ports.types))))
