-- The assignments of a channel, of a net and of an architecture: what each is for, and no two of them to one signal.
use Rattle.std.proofs.Common.{◌≡◌, ◌↔◌, ℕ, zero, suc, ◌⊎◌, inl, inr, Bool, true, false, cond, IsTrue, IfSome, List, [], ◌∷◌, ◌++◌, map, Option, Some, None, option_map, Contains, slice_get, refl, sym, ap, ◌∙◌, subst, if◌then◌else◌}
use Rattle.std.specs.List.{All, flat_map}
use Rattle.std.proofs.lemmas.List.Elements.{All-contains, Contains-get_or}
use Rattle.tydi_base.specs.Name.{is_name}
use Rattle.tydi_base.specs.Path.{PathsAreReadAsSpelled}
use Rattle.signal_layout.specs.Layout.{is_present}
use Rattle.signal_layout.specs.declared.signal.Signal.{Signal}
use Rattle.signal_layout.specs.declared.signal.Signal.TheVariants as signals
use Rattle.logical_types.specs.Tree.{Ltype}
use Rattle.type_split.specs.Streams.{streams_of}
use Rattle.type_split.specs.declared.split.Phys.{Phys}
use Rattle.til_resolve.specs.PlainProject.{PlainPort, PlainProject, PlainStreamlet}
use Rattle.til_resolve.specs.SoundProject.{AreDistinct, instances_inside}
use Rattle.til_resolve.specs.declared.project.Instance.{Instance}
use Rattle.til_resolve.specs.declared.project.LinkEnd.{LinkEnd}
use Rattle.link_check.specs.Links.{net_of}
use Rattle.link_check.specs.declared.nets.Net.{Net}
use Rattle.link_check.specs.declared.nets.Nets.{Nets}
use Rattle.link_check.proofs.NetLemmas.{AreOnce, Contains-cons, Contains-none, all-once, alone-by_sink, alone-by_source, is_source_end, same-end}
use Rattle.vhdl_text.specs.declared.arch.ArchSet.{ArchSet}
use Rattle.vhdl_writer.specs.Architecture.{Channel, EndStream, channel_between, channels_in, end_signal, nets_of, set_of, sets_of_channel, sets_of_net, source_of}
use Rattle.vhdl_text.specs.declared.arch.ArchSource.TheVariants as sources
use Rattle.vhdl_writer.specs.Components.{all_signals, component_of, is_ready, where_present}
use Rattle.vhdl_writer.specs.WiringLaws.{AreAssignments, EachSignalIsAssignedOnce, HasNames, IsDesigned, IsForSignal, sets_inside}
use Rattle.vhdl_writer.specs.declared.component.Component.{Component}
use Rattle.vhdl_writer.proofs.ApartLemmas.{AreApart, Contains-at, Contains-first, Contains-flat, Contains-flat_in, Contains-later, apart-append, apart-distinct, apart-flat, distinct-apart}
use Rattle.vhdl_writer.proofs.ChannelLemmas.{IsBetween, between, channel_at, channels-are, channels_for, stream_at_end}
use Rattle.vhdl_writer.proofs.EndLemmas.{HasPort, inside_of}
use Rattle.vhdl_writer.proofs.NetLemmas.{AreLinkNets, HasPorts, has-ports, link-nets}
use Rattle.vhdl_writer.proofs.PathLemmas.{paths-apart}
use Rattle.vhdl_writer.proofs.TargetLemmas.{IsNamed, IsOutside, IsSameSpot, Spot, text_at, texts-same}

-- ---- the assignments of a channel

abbrev target_of : ArchSet → List ℕ
target_of set = set.target

-- the assignment for a signal that the receiving end has
pub record IsOfSignal (channel : Channel) (set : ArchSet) : Type 0 where
  pub signal : Signal
  pub present : is_present channel.receiving.stream.params signal ≡ true
  pub is : set ≡ set_of channel signal

-- a thing for a signal that is present
here-made : {A : Type 0} (present : Bool) (made y : A) → Contains (if present then made ∷ [] else []) y → (present ≡ true) × (y ≡ made)
here-made true made y there = (refl, by (Contains-cons made [] y there))
  where
    by : (made ≡ y) ⊎ Contains [] y → y ≡ made
    by (inl same) = sym same
    by (inr none) = absurd (Contains-none y none)
here-made false made y there = absurd (Contains-none y there)

there-made : {A : Type 0} (present : Bool) (made : A) → present ≡ true → Contains (if present then made ∷ [] else []) made
there-made true made is = Contains-first made []
there-made false made is = absurd cc

one-apart : {A K : Type 0} (key : A → K) (present : Bool) (made : A) → AreApart key (if present then made ∷ [] else [])
one-apart key true made = (λ y there same. Contains-none y there, tt)
one-apart key false made = tt

pub of-signal : (channel : Channel) (set : ArchSet) → Contains (sets_of_channel channel) set → IsOfSignal channel set
of-signal channel set there =
    let found = Contains-flat (where_present channel.receiving.stream.params (set_of channel)) all_signals set there in
    let made = here-made (is_present channel.receiving.stream.params found.0) (set_of channel found.0) set found.2 in
    record { signal = found.0; present = made.0; is = made.1 }

every-signal : (signal : Signal) → Contains all_signals signal
every-signal signals.Valid = Contains-at all_signals 0 signals.Valid refl
every-signal signals.Ready = Contains-at all_signals 1 signals.Ready refl
every-signal signals.Content = Contains-at all_signals 2 signals.Content refl
every-signal signals.Last = Contains-at all_signals 3 signals.Last refl
every-signal signals.Stai = Contains-at all_signals 4 signals.Stai refl
every-signal signals.Endi = Contains-at all_signals 5 signals.Endi refl
every-signal signals.Strb = Contains-at all_signals 6 signals.Strb refl
every-signal signals.User = Contains-at all_signals 7 signals.User refl

pub for-signal : (channel : Channel) (signal : Signal) → is_present channel.receiving.stream.params signal ≡ true → Contains (sets_of_channel channel) (set_of channel signal)
for-signal channel signal present =
    Contains-flat_in (where_present channel.receiving.stream.params (set_of channel)) all_signals signal (set_of channel signal) (every-signal signal)
    (there-made (is_present channel.receiving.stream.params signal) (set_of channel signal) present)

-- the place of a signal among all
abbrev rank : Signal → ℕ
rank signals.Valid = 0
rank signals.Ready = 1
rank signals.Content = 2
rank signals.Last = 3
rank signals.Stai = 4
rank signals.Endi = 5
rank signals.Strb = 6
rank signals.User = 7

ranked : (i : ℕ) (signal : Signal) → slice_get all_signals i ≡ Some signal → rank signal ≡ i
ranked zero signal at = let same : signals.Valid ≡ signal = cc in ap rank (sym same)
ranked (suc zero) signal at = let same : signals.Ready ≡ signal = cc in ap rank (sym same)
ranked (suc (suc zero)) signal at = let same : signals.Content ≡ signal = cc in ap rank (sym same)
ranked (suc (suc (suc zero))) signal at = let same : signals.Last ≡ signal = cc in ap rank (sym same)
ranked (suc (suc (suc (suc zero)))) signal at = let same : signals.Stai ≡ signal = cc in ap rank (sym same)
ranked (suc (suc (suc (suc (suc zero))))) signal at = let same : signals.Endi ≡ signal = cc in ap rank (sym same)
ranked (suc (suc (suc (suc (suc (suc zero)))))) signal at = let same : signals.Strb ≡ signal = cc in ap rank (sym same)
ranked (suc (suc (suc (suc (suc (suc (suc zero))))))) signal at = let same : signals.User ≡ signal = cc in ap rank (sym same)
ranked (suc (suc (suc (suc (suc (suc (suc (suc more)))))))) signal at = absurd cc

signals-once : AreApart (λ (s : Signal). s) all_signals
signals-once = distinct-apart (λ (s : Signal). s) all_signals
    (λ i j one other here there same. sym (ranked i one here) ∙ ap rank same ∙ ranked j other there)

-- ---- the target of each

-- the spot of a signal of a stream of this path at an end
abbrev pub spot_at : LinkEnd → List (List ℕ) → Signal → Spot
spot_at end path signal = record { instance = end.instance; port = end.port; path = path; signal = signal }

abbrev channel_by : Bool → EndStream → EndStream → Channel
channel_by reversed one other = if reversed then record { sending = other; receiving = one } else record { sending = one; receiving = other }

abbrev target_by : Bool → Channel → Signal → List ℕ
target_by ready channel signal =
    let set : ArchSet =
    if ready then record { target = end_signal channel.sending signal; source = sources.Wire (end_signal channel.receiving signal) }
    else record { target = end_signal channel.receiving signal; source = source_of channel signal } in
    set.target

target-by : (one other : EndStream) (signal : Signal) (reversed ready : Bool)
    → (target_by ready (channel_by reversed one other) signal ≡ end_signal one signal) ⊎ (target_by ready (channel_by reversed one other) signal ≡ end_signal other signal)
target-by one other signal false true = inl refl
target-by one other signal false false = inr refl
target-by one other signal true true = inr refl
target-by one other signal true false = inl refl

target-at : (net : Net) (source sink : Phys) (signal : Signal)
    → ((set_of (channel_at net source sink) signal).target ≡ text_at (spot_at net.source source.path signal)) ⊎ ((set_of (channel_at net source sink) signal).target ≡ text_at (spot_at net.sink sink.path signal))
target-at net source sink signal = target-by (stream_at_end net.source.instance net.source.port source) (stream_at_end net.sink.instance net.sink.port sink) signal source.reversed (is_ready signal)

-- ---- an architecture

module _ (reads : PathsAreReadAsSpelled) (project : PlainProject) (nets : Nets) (designed : IsDesigned project nets) (number : ℕ) (one : PlainStreamlet) (at : slice_get project.streamlets number ≡ Some one) where
  there-one : Contains project.streamlets one
  there-one = Contains-at project.streamlets number one at

  of-links : AreLinkNets project.streamlets one (nets_of nets.impls number)
  of-links = link-nets project.streamlets nets designed.nets_are number one at

  ports : (net : Net) → Contains (nets_of nets.impls number) net → HasPorts project.streamlets number one net
  ports net there = has-ports project.streamlets number one (nets_of nets.impls number) net at of-links there

  -- an end at which a port stands, with a path of one of its streams
  record IsGood (spot : Spot) : Type 0 where
    named : IsNamed spot
    own : spot.instance ≡ None → (port : PlainPort) × Contains one.ports port × (port.name ≡ spot.port)
    inner : (name : List ℕ) → spot.instance ≡ Some name → (instance : Instance) × Contains (instances_inside one.body) instance × (instance.name ≡ name)

  good : (end : LinkEnd) (ltype : Ltype) (stream : Phys) (signal : Signal) → HasPort project.streamlets number one end.instance end.port ltype → Contains (streams_of ltype) stream → IsGood (spot_at end stream.path signal)
  good end ltype stream signal port there = record {
    named = record {
      instance = instance-named end.instance refl;
      port = subst (λ (name : List ℕ). IsTrue (is_name name)) port.named (names.ports port.port port.inside);
      path = names.streams port.port stream port.inside (subst (λ (t : Ltype). Contains (streams_of t) stream) (sym port.type_is) there);
    };
    own = λ none. (port.port, port.own none, port.named);
    inner = λ name is. port.inner name is;
  }
    where
      names : HasNames port.owner
      names = designed.names port.owner port.owned

      instance-named : (instance : Option (List ℕ)) → end.instance ≡ instance → IfSome instance (λ name. IsTrue (is_name name))
      instance-named None is = tt
      instance-named (Some name) is = let found = port.inner name is in subst (λ (n : List ℕ). IsTrue (is_name n)) found.2 ((designed.names one there-one).instances found.0 found.1)

  outside : (spot other : Spot) → IsGood spot → IsGood other → IsOutside spot other
  outside spot other good_one good_other = record {
    apart = λ name none some same.
        let own = good_one.own none in let inner = good_other.inner name some in
        (designed.sound.names one there-one).apart inner.0 own.0 inner.1 own.1 (own.2 ∙ same ∙ sym inner.2);
  }

  same-spots : (spot other : Spot) → IsGood spot → IsGood other → text_at spot ≡ text_at other → IsSameSpot spot other
  same-spots spot other good_one good_other e = texts-same reads spot other good_one.named good_other.named (outside spot other good_one good_other) (outside other spot good_other good_one) e

  -- the target of an assignment is a signal of these two streams, at the one end of a net or at the other
  record AtSpot (net : Net) (source sink : Phys) (target : List ℕ) (signal : Signal) : Type 0 where
    end : LinkEnd
    path : List (List ℕ)
    side : ((end ≡ net.source) × (path ≡ source.path)) ⊎ ((end ≡ net.sink) × (path ≡ sink.path))
    is : target ≡ text_at (spot_at end path signal)
    good_is : IsGood (spot_at end path signal)

  at-between : (net : Net) (there : Contains (nets_of nets.impls number) net) (source sink : Phys) (signal : Signal) → Contains (streams_of (ports net there).from) source → Contains (streams_of (ports net there).to) sink
      → AtSpot net source sink (set_of (channel_at net source sink) signal).target signal
  at-between net there source sink signal among amid = by (target-at net source sink signal)
    where
      by : ((set_of (channel_at net source sink) signal).target ≡ text_at (spot_at net.source source.path signal)) ⊎ ((set_of (channel_at net source sink) signal).target ≡ text_at (spot_at net.sink sink.path signal))
          → AtSpot net source sink (set_of (channel_at net source sink) signal).target signal
      by (inl is) = record { end = net.source; path = source.path; side = inl (refl, refl); is = is; good_is = good net.source (ports net there).from source signal (ports net there).source among }
      by (inr is) = record { end = net.sink; path = sink.path; side = inr (refl, refl); is = is; good_is = good net.sink (ports net there).to sink signal (ports net there).sink amid }

  -- two assignments of one target are at one end, of streams of one path, and for one signal
  meet : (net other : Net) (x y z w : Phys) (one_target other_target : List ℕ) (s t : Signal) → one_target ≡ other_target → (a : AtSpot net x y one_target s) (b : AtSpot other z w other_target t)
      → (a.end ≡ b.end) × (a.path ≡ b.path) × (s ≡ t)
  meet net other x y z w one_target other_target s t same a b =
      let spot = same-spots (spot_at a.end a.path s) (spot_at b.end b.path t) a.good_is b.good_is (sym a.is ∙ same ∙ b.is) in
      (same-end a.end b.end spot.instance spot.port, spot.path, spot.signal)

  -- the two ends of a net are not one, nor is the source end of one the sink end of another
  ends-apart : (net other : Net) → Contains (nets_of nets.impls number) net → Contains (nets_of nets.impls number) other → net.source ≡ other.sink → ⊥
  ends-apart net other there here same =
      let source = (ports net there).sides.source in let sink = (ports other here).sides.sink in
      let clash : ◌≡◌ {A = Option Bool} (Some true) (Some false) = sym source ∙ ap (is_source_end project.streamlets (inside_of project.streamlets one)) same ∙ sink in absurd cc

  -- an assignment of channels between these streams, and what it is for
  record Hit (net : Net) (sources sinks : List Phys) (set : ArchSet) : Type 0 where
    source : Phys
    sink : Phys
    among : Contains sources source
    amid : Contains sinks sink
    signal : Signal
    spot : AtSpot net source sink set.target signal

  hit : (net : Net) (there : Contains (nets_of nets.impls number) net) (sources sinks : List Phys) → ((x : Phys) → Contains sources x → Contains (streams_of (ports net there).from) x)
      → ((y : Phys) → Contains sinks y → Contains (streams_of (ports net there).to) y) → (set : ArchSet) → Contains (flat_map sets_of_channel (channels_for net sources sinks)) set → Hit net sources sinks set
  hit net there sources sinks from to set inside =
      let found = Contains-flat sets_of_channel (channels_for net sources sinks) set inside in
      let mine = of-signal found.0 set found.2 in
      let channel = between net sources sinks found.0 found.1 in
      record {
        source = channel.source;
        sink = channel.sink;
        among = channel.among;
        amid = channel.amid;
        signal = mine.signal;
        spot = subst (λ (target : List ℕ). AtSpot net channel.source channel.sink target mine.signal)
            (ap (λ (c : Channel). (set_of c mine.signal).target) (sym channel.is) ∙ ap (λ (s : ArchSet). s.target) (sym mine.is))
            (at-between net there channel.source channel.sink mine.signal (from channel.source channel.among) (to channel.sink channel.amid));
      }

  -- the assignments of one channel
  channel-apart : (net : Net) (there : Contains (nets_of nets.impls number) net) (source sink : Phys) → Contains (streams_of (ports net there).from) source → Contains (streams_of (ports net there).to) sink
      → AreApart target_of (sets_of_channel (channel_at net source sink))
  channel-apart net there source sink among amid =
      apart-flat target_of (where_present (channel_at net source sink).receiving.stream.params (set_of (channel_at net source sink))) all_signals signals-once
      (λ signal inside. one-apart target_of (is_present (channel_at net source sink).receiving.stream.params signal) (set_of (channel_at net source sink) signal))
      (λ s t y w i j here behind same. cross s t y w here behind same)
    where
      cross : (s t : Signal) (y w : ArchSet) → Contains (where_present (channel_at net source sink).receiving.stream.params (set_of (channel_at net source sink)) s) y
          → Contains (where_present (channel_at net source sink).receiving.stream.params (set_of (channel_at net source sink)) t) w → target_of y ≡ target_of w → s ≡ t
      cross s t y w here behind same =
          let first = here-made (is_present (channel_at net source sink).receiving.stream.params s) (set_of (channel_at net source sink) s) y here in
          let second = here-made (is_present (channel_at net source sink).receiving.stream.params t) (set_of (channel_at net source sink) t) w behind in
          (meet net net source sink source sink (set_of (channel_at net source sink) s).target (set_of (channel_at net source sink) t).target s t
          (ap target_of (sym first.1) ∙ same ∙ ap target_of second.1) (at-between net there source sink s among amid) (at-between net there source sink t among amid)).2

  -- the assignments of one net
  streams-apart : (net : Net) (there : Contains (nets_of nets.impls number) net) (sources sinks : List Phys) → ((x : Phys) → Contains sources x → Contains (streams_of (ports net there).from) x)
      → ((y : Phys) → Contains sinks y → Contains (streams_of (ports net there).to) y) → AreApart (λ (stream : Phys). stream.path) sources → AreApart (λ (stream : Phys). stream.path) sinks
      → AreApart target_of (flat_map sets_of_channel (channels_for net sources sinks))
  streams-apart net there [] sinks from to sources_apart sinks_apart = tt
  streams-apart net there (source ∷ more) [] from to sources_apart sinks_apart = tt
  streams-apart net there (source ∷ more) (sink ∷ others) from to sources_apart sinks_apart =
      apart-append target_of (sets_of_channel (channel_at net source sink)) (flat_map sets_of_channel (channels_for net more others))
      (channel-apart net there source sink (from source (Contains-first source more)) (to sink (Contains-first sink others)))
      (streams-apart net there more others later_from later_to sources_apart.1 sinks_apart.1)
      (λ y w here behind same. cross y w (of-signal (channel_at net source sink) y here) (hit net there more others later_from later_to w behind) same)
    where
      later_from : (x : Phys) → Contains more x → Contains (streams_of (ports net there).from) x
      later_from x inside = from x (Contains-later source more x inside)

      later_to : (y : Phys) → Contains others y → Contains (streams_of (ports net there).to) y
      later_to y inside = to y (Contains-later sink others y inside)

      by : (x y : Phys) (a_end b_end : LinkEnd) (a_path b_path : List (List ℕ)) → Contains more x → Contains others y → a_end ≡ b_end → a_path ≡ b_path
          → ((a_end ≡ net.source) × (a_path ≡ source.path)) ⊎ ((a_end ≡ net.sink) × (a_path ≡ sink.path)) → ((b_end ≡ net.source) × (b_path ≡ x.path)) ⊎ ((b_end ≡ net.sink) × (b_path ≡ y.path)) → ⊥
      by x y a_end b_end a_path b_path among amid same_end same_path (inl a) (inl b) = sources_apart.0 x among (sym a.1 ∙ same_path ∙ b.1)
      by x y a_end b_end a_path b_path among amid same_end same_path (inr a) (inr b) = sinks_apart.0 y amid (sym a.1 ∙ same_path ∙ b.1)
      by x y a_end b_end a_path b_path among amid same_end same_path (inl a) (inr b) = ends-apart net net there there (sym a.0 ∙ same_end ∙ b.0)
      by x y a_end b_end a_path b_path among amid same_end same_path (inr a) (inl b) = ends-apart net net there there (sym b.0 ∙ sym same_end ∙ a.0)

      cross : (y w : ArchSet) → IsOfSignal (channel_at net source sink) y → Hit net more others w → target_of y ≡ target_of w → ⊥
      cross y w mine found same =
          let first = at-between net there source sink mine.signal (from source (Contains-first source more)) (to sink (Contains-first sink others)) in
          let met = meet net net source sink found.source found.sink (set_of (channel_at net source sink) mine.signal).target w.target mine.signal found.signal (ap target_of (sym mine.is) ∙ same) first found.spot in
          by found.source found.sink first.end found.spot.end first.path found.spot.path found.among found.amid met.0 met.1 first.side found.spot.side

  -- the channels of a net, by the streams of its ports
  net-sets : (net : Net) (there : Contains (nets_of nets.impls number) net) → sets_of_net (map component_of project.streamlets) number (instances_inside one.body) net
      ≡ flat_map sets_of_channel (channels_for net (streams_of (ports net there).from) (streams_of (ports net there).to))
  net-sets net there = ap (flat_map sets_of_channel) (channels-are project.streamlets number one net (ports net there))

  port-apart : (end : LinkEnd) (ltype : Ltype) → HasPort project.streamlets number one end.instance end.port ltype → AreApart (λ (stream : Phys). stream.path) (streams_of ltype)
  port-apart end ltype port = subst (λ (t : Ltype). AreApart (λ (stream : Phys). stream.path) (streams_of t)) port.type_is
      (paths-apart project.streamlets port.owner port.port designed.apart port.owned port.inside)

  net-apart : (net : Net) (there : Contains (nets_of nets.impls number) net) → AreApart target_of (sets_of_net (map component_of project.streamlets) number (instances_inside one.body) net)
  net-apart net there = subst (λ (sets : List ArchSet). AreApart target_of sets) (sym (net-sets net there))
      (streams-apart net there (streams_of (ports net there).from) (streams_of (ports net there).to) (λ x inside. inside) (λ y inside. inside)
      (port-apart net.source (ports net there).from (ports net there).source) (port-apart net.sink (ports net there).to (ports net there).sink))

  net-hit : (net : Net) (there : Contains (nets_of nets.impls number) net) (set : ArchSet) → Contains (sets_of_net (map component_of project.streamlets) number (instances_inside one.body) net) set
      → Hit net (streams_of (ports net there).from) (streams_of (ports net there).to) set
  net-hit net there set inside =
      hit net there (streams_of (ports net there).from) (streams_of (ports net there).to) (λ x i. i) (λ y i. i) set (subst (λ (sets : List ArchSet). Contains sets set) (net-sets net there) inside)

  -- a target belongs to one net
  one-net : (net other : Net) (y w : ArchSet) (there : Contains (nets_of nets.impls number) net) (here : Contains (nets_of nets.impls number) other)
      → Contains (sets_of_net (map component_of project.streamlets) number (instances_inside one.body) net) y → Contains (sets_of_net (map component_of project.streamlets) number (instances_inside one.body) other) w
      → target_of y ≡ target_of w → net ≡ other
  one-net net other y w there here inside behind same =
      let a = net-hit net there y inside in let b = net-hit other here w behind in
      by a.spot.end b.spot.end (meet net other a.source a.sink b.source b.sink y.target w.target a.signal b.signal same a.spot b.spot).0 a.spot.side b.spot.side
    where
      linked : (n : Net) → Contains (nets_of nets.impls number) n → Contains (map (net_of project.streamlets (inside_of project.streamlets one)) of-links.links) n
      linked n among = subst (λ (all : List Net). Contains all n) of-links.nets_are among

      by : {P Q R S : Type 0} (a_end b_end : LinkEnd) → a_end ≡ b_end → ((a_end ≡ net.source) × P) ⊎ ((a_end ≡ net.sink) × Q) → ((b_end ≡ other.source) × R) ⊎ ((b_end ≡ other.sink) × S) → net ≡ other
      by a_end b_end e (inl a) (inl b) = alone-by_source project.streamlets (inside_of project.streamlets one) of-links.links net other of-links.clean (linked net there) (linked other here) (sym a.0 ∙ e ∙ b.0)
      by a_end b_end e (inr a) (inr b) = alone-by_sink project.streamlets (inside_of project.streamlets one) of-links.links net other of-links.clean (linked net there) (linked other here) (sym a.0 ∙ e ∙ b.0)
      by a_end b_end e (inl a) (inr b) = absurd (ends-apart net other there here (sym a.0 ∙ e ∙ b.0))
      by a_end b_end e (inr a) (inl b) = absurd (ends-apart other net here there (sym b.0 ∙ sym e ∙ a.0))

  nets-once : (links : List Net) → AreOnce links → AreApart (λ (net : Net). net) links
  nets-once [] once = tt
  nets-once (net ∷ more) once = (λ other there same. once.0 other there same, nets-once more once.1)

  all-apart : AreApart target_of (sets_inside project.streamlets nets.impls number one)
  all-apart =
      apart-flat target_of (sets_of_net (map component_of project.streamlets) number (instances_inside one.body)) (nets_of nets.impls number)
      (nets-once (nets_of nets.impls number) (subst AreOnce (sym of-links.nets_are) (all-once project.streamlets (inside_of project.streamlets one) of-links.links of-links.clean)))
      (λ net there. net-apart net there)
      (λ net other y w there here inside behind same. one-net net other y w there here inside behind same)

  of-net : (set : ArchSet) → Contains (sets_inside project.streamlets nets.impls number one) set → IsForSignal (map component_of project.streamlets) number (instances_inside one.body) (nets_of nets.impls number) set
  of-net set there =
      let net = Contains-flat (sets_of_net (map component_of project.streamlets) number (instances_inside one.body)) (nets_of nets.impls number) set there in
      let channel = Contains-flat sets_of_channel (channels_in (map component_of project.streamlets) number (instances_inside one.body) net.0) set net.2 in
      let mine = of-signal channel.0 set channel.2 in
      record { net = net.0; among = net.1; channel = channel.0; inside = channel.1; signal = mine.signal; present = mine.present; is = mine.is }

  for-net : (set : ArchSet) → IsForSignal (map component_of project.streamlets) number (instances_inside one.body) (nets_of nets.impls number) set → Contains (sets_inside project.streamlets nets.impls number one) set
  for-net set is =
      subst (Contains (sets_inside project.streamlets nets.impls number one)) (sym is.is)
      (Contains-flat_in (sets_of_net (map component_of project.streamlets) number (instances_inside one.body)) (nets_of nets.impls number) is.net (set_of is.channel is.signal) is.among
      (Contains-flat_in sets_of_channel (channels_in (map component_of project.streamlets) number (instances_inside one.body) is.net) is.channel (set_of is.channel is.signal) is.inside
      (for-signal is.channel is.signal is.present)))

  assignments : AreAssignments (map component_of project.streamlets) number (instances_inside one.body) (nets_of nets.impls number) (sets_inside project.streamlets nets.impls number one)
  assignments = record { each = λ set. (of-net set, for-net set); once = apart-distinct target_of (sets_inside project.streamlets nets.impls number one) all-apart }

pub assigned-once : PathsAreReadAsSpelled → EachSignalIsAssignedOnce
assigned-once reads project nets designed number one at = assignments reads project nets designed number one at
