-- The physical streams at an end inside an implementation are those of the port that stands there.
use Rattle.std.proofs.Common.{◌≡◌, ℕ, zero, suc, Bool, true, false, cond, List, [], ◌∷◌, map, Option, Some, None, option_map, option_and_then, Contains, bytes_eq, refl, sym, ap, ◌∙◌, subst}
use Rattle.std.specs.List.{find, slice_get}
use Rattle.std.proofs.lemmas.Slice.Eq.{bytes_eq-Decides}
use Rattle.logical_types.specs.Tree.{Ltype}
use Rattle.type_split.specs.Streams.{streams_of}
use Rattle.til_resolve.specs.PlainProject.{PlainPort, PlainStreamlet}
use Rattle.til_resolve.specs.SoundProject.{instances_inside}
use Rattle.til_resolve.specs.declared.project.Instance.{Instance}
use Rattle.til_resolve.specs.declared.project.LinkEnd.{LinkEnd}
use Rattle.link_check.specs.Ends as ends
use Rattle.link_check.specs.Ends.{Inside, Side, instance_named, instance_side, own_side, port_named, side_named}
use Rattle.vhdl_writer.specs.Architecture.{ports_at, ports_found, streams_at, streams_found, streams_inside, streams_named, streams_under}
use Rattle.vhdl_writer.specs.Components.{component_of, port_of, stream_of}
use Rattle.vhdl_writer.specs.declared.component.Component.{Component}
use Rattle.vhdl_writer.specs.declared.component.PortStream.{PortStream}
use Rattle.vhdl_writer.specs.declared.component.SplitPort.{SplitPort}
use Rattle.vhdl_writer.proofs.ApartLemmas.{Contains-at, Contains-first, Contains-later}

-- ---- the first of a list that passes

mapped-at : {A B : Type 0} (f : A → B) (xs : List A) (i : ℕ) → slice_get (map f xs) i ≡ option_map f (slice_get xs i)
mapped-at f [] zero = refl
mapped-at f [] (suc i) = refl
mapped-at f (x ∷ xs) zero = refl
mapped-at f (x ∷ xs) (suc i) = mapped-at f xs i

pub find-mapped : {A B : Type 0} (f : A → B) (test : B → Bool) (xs : List A) → find test (map f xs) ≡ option_map f (find (λ (x : A). test (f x)) xs)
find-mapped f test [] = refl
find-mapped {A} {B} f test (x ∷ xs) = by (test (f x)) (find-mapped f test xs)
  where
    by : (b : Bool) → find test (map f xs) ≡ option_map f (find (λ (z : A). test (f z)) xs) → cond b (Some (f x)) (find test (map f xs)) ≡ option_map f (cond b (Some x) (find (λ (z : A). test (f z)) xs))
    by true rest = refl
    by false rest = rest

pub find-found : {A : Type 0} (test : A → Bool) (xs : List A) (x : A) → find test xs ≡ Some x → Contains xs x × (test x ≡ true)
find-found test [] x e = absurd cc
find-found {A} test (y ∷ xs) x e = by (test y) refl e (find-found test xs x)
  where
    by : (b : Bool) → test y ≡ b → cond b (Some y) (find test xs) ≡ Some x → (find test xs ≡ Some x → Contains xs x × (test x ≡ true)) → Contains (y ∷ xs) x × (test x ≡ true)
    by true is e rest = let same : y ≡ x = cc in subst (λ (z : A). Contains (y ∷ xs) z × (test z ≡ true)) same (Contains-first y xs, is)
    by false is e rest = let found = rest e in (Contains-later y xs x found.0, found.1)

same-bytes : (one other : List ℕ) → bytes_eq one other ≡ true → one ≡ other
same-bytes one other e = (bytes_eq-Decides one other).0 e

-- ---- the streams of a port by its name

named-streams : (ports : List PlainPort) (name : List ℕ) (port : PlainPort) → port_named ports name ≡ Some port
    → (Contains ports port × (port.name ≡ name)) × (streams_named (map port_of ports) name ≡ map (stream_of name) (streams_of port.ltype))
named-streams ports name port e =
    let found = find-found (λ (one : PlainPort). bytes_eq one.name name) ports port e in
    let named : port.name ≡ name = same-bytes port.name name found.1 in (
      (found.0, named),
      ap streams_found (find-mapped port_of (λ (one : SplitPort). bytes_eq one.name name) ports ∙ ap (option_map port_of) e)
          ∙ ap (λ (n : List ℕ). map (stream_of n) (streams_of port.ltype)) named,
    )

module _ (streamlets : List PlainStreamlet) where
  component-ports : (number : ℕ) (one : PlainStreamlet) → slice_get streamlets number ≡ Some one → ports_at (map component_of streamlets) number ≡ map port_of one.ports
  component-ports number one at = ap ports_found (mapped-at component_of streamlets number ∙ ap (option_map component_of) at)

  -- the port that stands at an end inside the implementation of a streamlet of this number, and its streams there
  pub record HasPort (number : ℕ) (one : PlainStreamlet) (instance : Option (List ℕ)) (name : List ℕ) (ltype : Ltype) : Type 0 where
    pub owner : PlainStreamlet
    pub owned : Contains streamlets owner
    pub port : PlainPort
    pub inside : Contains owner.ports port
    pub named : port.name ≡ name
    pub type_is : port.ltype ≡ ltype
    pub streams : streams_under (map component_of streamlets) number (instances_inside one.body) instance name ≡ map (stream_of name) (streams_of ltype)
    pub own : instance ≡ None → Contains one.ports port
    pub inner : (inst : List ℕ) → instance ≡ Some inst → (found : Instance) × Contains (instances_inside one.body) found × (found.name ≡ inst)

  abbrev pub inside_of : PlainStreamlet → Inside
  inside_of one = record { own = one.ports; instances = instances_inside one.body }

  own-port : (number : ℕ) (one : PlainStreamlet) (name : List ℕ) (side : Side) (found : Option PlainPort) → slice_get streamlets number ≡ Some one → port_named one.ports name ≡ found
      → option_map own_side found ≡ Some side → HasPort number one None name side.ltype
  own-port number one name side None at is e = absurd cc
  own-port number one name side (Some port) at is e =
      let same : own_side port ≡ side = cc in
      let found = named-streams one.ports name port is in
      let type_is : port.ltype ≡ side.ltype = ap (λ (s : Side). s.ltype) same in
      record {
        owner = one;
        owned = Contains-at streamlets number one at;
        port = port;
        inside = found.0.0;
        named = found.0.1;
        type_is = type_is;
        streams = ap (λ (ports : List SplitPort). streams_named ports name) (component-ports number one at) ∙ found.1 ∙ ap (λ (t : Ltype). map (stream_of name) (streams_of t)) type_is;
        own = λ none. found.0.0;
        inner = λ inst e. absurd cc;
      }

  inner-port : (number : ℕ) (one : PlainStreamlet) (inst name : List ℕ) (side : Side) (instance : Instance) (owner : Option PlainStreamlet) (found : Option PlainPort)
      → instance_named (instances_inside one.body) inst ≡ Some instance → slice_get streamlets instance.streamlet ≡ owner → port_named (ends.ports_found owner) name ≡ found
      → option_map instance_side found ≡ Some side → HasPort number one (Some inst) name side.ltype
  inner-port number one inst name side instance None found there at is e = absurd (no-port found is e)
    where
      no-port : (found : Option PlainPort) → None ≡ found → option_map instance_side found ≡ Some side → ⊥
      no-port None is e = cc
      no-port (Some port) is e = cc
  inner-port number one inst name side instance (Some owner) None there at is e = absurd cc
  inner-port number one inst name side instance (Some owner) (Some port) there at is e =
      let same : instance_side port ≡ side = cc in
      let found = named-streams owner.ports name port is in
      let type_is : port.ltype ≡ side.ltype = ap (λ (s : Side). s.ltype) same in
      let among = find-found (λ (i : Instance). bytes_eq i.name inst) (instances_inside one.body) instance there in
      record {
        owner = owner;
        owned = Contains-at streamlets instance.streamlet owner at;
        port = port;
        inside = found.0.0;
        named = found.0.1;
        type_is = type_is;
        streams = ap (λ (i : Option Instance). streams_inside (map component_of streamlets) i name) there
            ∙ ap (λ (ports : List SplitPort). streams_named ports name) (component-ports instance.streamlet owner at) ∙ found.1 ∙ ap (λ (t : Ltype). map (stream_of name) (streams_of t)) type_is;
        own = λ none. absurd cc;
        inner = λ other e. (instance, among.0, same-bytes instance.name inst among.1 ∙ same_name inst other e);
      }
    where
      same_name : (one other : List ℕ) → ◌≡◌ {A = Option (List ℕ)} (Some one) (Some other) → one ≡ other
      same_name one other e = cc

  pub has-port : (number : ℕ) (one : PlainStreamlet) (instance : Option (List ℕ)) (name : List ℕ) (side : Side) → slice_get streamlets number ≡ Some one
      → side_named streamlets (inside_of one) instance name ≡ Some side → HasPort number one instance name side.ltype
  has-port number one None name side at e = own-port number one name side (port_named one.ports name) at refl e
  has-port number one (Some inst) name side at e = by (instance_named (instances_inside one.body) inst) refl e
    where
      by : (found : Option Instance) → instance_named (instances_inside one.body) inst ≡ found
          → option_and_then (λ (i : Instance). option_map instance_side (port_named (ends.ports_at streamlets i.streamlet) name)) found ≡ Some side → HasPort number one (Some inst) name side.ltype
      by None there e = absurd cc
      by (Some instance) there e =
          inner-port number one inst name side instance (slice_get streamlets instance.streamlet) (port_named (ends.ports_at streamlets instance.streamlet) name) there refl refl e
