-- Nodes that are added one after another.
use Rattle.std.proofs.Common.{◌≡◌, ℕ, suc, ◌+◌, ◌<◌, ◌≤◌, Bool, true, false, ◌&&◌, ◌||◌, cond, Option, Some, None, List, [], ◌∷◌, ◌++◌, map, length, get_or, drop, refl, sym, ap, ◌∙◌, arith, append_assoc}
use Rattle.std.proofs.lemmas.List.{length-append, length-map, append-nil}
use Rattle.std.specs.Option.{option_or}
use Rattle.logical_types.specs.declared.ltype.Part.{Part}
use Rattle.logical_types.specs.declared.ltype.StreamType.{StreamType}
use Rattle.logical_types.specs.Tree.{group, union, Parts, plain, plain_parts, plain_of_stream, settings_of}
use Rattle.logical_types.specs.Faults.{faults_at, faults_within, faults_of_parts}
use Rattle.logical_types.proofs.PlainLemmas.{plain_parts-at, plain_parts-past}
use Rattle.logical_types.proofs.FaultLemmas.{faults_of_parts-at}
use Rattle.logical_types.proofs.PlainTypes.{apart}
use Rattle.type_split.specs.Found.{IsFound}
use Rattle.type_split.specs.Nodes.{StreamNode, nodes_in, nodes_in_parts, number_of_streams, streams_in_parts, number_of_physical, physical_in_parts, is_physical, node_at, place_inside}
use Rattle.type_split.specs.Splitting.{AreAdded, CanSplit, clash_within, clash_in_parts}
use Rattle.type_split.specs.Streams.{node_view}
use Rattle.type_split.specs.declared.found.Found.{Found}
use Rattle.type_split.specs.declared.place.Place.{Place}
use Rattle.type_split.specs.declared.splitting.Splitting.{Splitting}
use Rattle.type_split.proofs.CountLemmas.{counted, nodes_in-length, physical-few}
use Rattle.type_split.proofs.ValidLemmas.{valid-stream}

-- so many nodes are there after some were added
pub added-length : (old new : Splitting) (added : List StreamNode) (count : ℕ) (clash : Option (List (List ℕ))) (taken : Bool) → AreAdded old new added count clash taken
    → length new.nodes ≡ length added + length old.nodes
added-length old new added count clash taken is =
    let all = sym (length-map new.nodes node_view) ∙ ap length is.nodes ∙ length-append (map node_view old.nodes) added in
    let before = length-map old.nodes node_view in
    omega (arith, all, before)

-- ---- the first clash

or-assoc : {A : Type 0} (one two three : Option A) → option_or (option_or one two) three ≡ option_or one (option_or two three)
or-assoc None two three = refl
or-assoc (Some x) two three = refl

or-none : {A : Type 0} (one : Option A) → option_or one None ≡ one
or-none None = refl
or-none (Some x) = refl

-- a clash that is found here comes before those further inside
or-here : {A : Type 0} (before : Option A) (test : Bool) (here : A) (inside : Option A)
    → option_or (option_or before (cond test (Some here) None)) inside ≡ option_or before (cond test (Some here) inside)
or-here None true here inside = refl
or-here None false here inside = refl
or-here (Some x) test here inside = refl

-- ---- parts

-- the parts of a Group or a Union that can be split can be split
pub CanSplit-group : (old : Splitting) (place : Place) (parts : Parts) (more : ℕ) → CanSplit old place (faults_within place.around (group parts)) more → CanSplit old place (faults_of_parts place.around parts) more
CanSplit-group old place parts more can =
    record { valid = (apart (faults_at (record { around = place.around; ltype = group parts })) (faults_of_parts place.around parts) can.valid).1; flows = can.flows; nodes = can.nodes; streams = can.streams }

pub CanSplit-union : (old : Splitting) (place : Place) (parts : Parts) (more : ℕ) → CanSplit old place (faults_within place.around (union parts)) more → CanSplit old place (faults_of_parts place.around parts) more
CanSplit-union old place parts more can =
    record { valid = (apart (faults_at (record { around = place.around; ltype = union parts })) (faults_of_parts place.around parts) can.valid).1; flows = can.flows; nodes = can.nodes; streams = can.streams }

-- the parts that are left are to be added behind what was added
pub record AreLeft (old new : Splitting) (place : Place) (parts rest : Parts) : Type 0 where
  pub names : new.names ≡ old.names
  pub valid : faults_of_parts place.around rest ≡ []
  pub number : streams_in_parts rest + length new.nodes ≡ streams_in_parts parts + length old.nodes
  pub physical : physical_in_parts rest + new.physical ≡ physical_in_parts parts + old.physical
  pub few : new.physical ≤ length new.nodes
  pub taken : new.is_taken ≡ old.is_taken
  pub clash : option_or new.clash (clash_in_parts old.names rest) ≡ option_or old.clash (clash_in_parts old.names parts)
  pub added : map node_view new.nodes ++ nodes_in_parts old.names place (length new.nodes) new.physical rest
      ≡ map node_view old.nodes ++ nodes_in_parts old.names place (length old.nodes) old.physical parts

pub AreLeft-all : (old : Splitting) (place : Place) (parts : Parts) → CanSplit old place (faults_of_parts place.around parts) (streams_in_parts parts) → AreLeft old old place parts parts
AreLeft-all old place parts can = record { names = refl; valid = can.valid; number = refl; physical = refl; few = can.streams; taken = refl; clash = refl; added = refl }

pub AreLeft-step : (old middle new : Splitting) (place : Place) (parts : List Part) (at : ℕ) (one : Part) → at < length parts → one ≡ get_or parts at one
    → CanSplit old place (faults_of_parts place.around (plain_parts parts)) (streams_in_parts (plain_parts parts)) → AreLeft old middle place (plain_parts parts) (plain_parts (drop at parts))
    → (CanSplit middle place (faults_within place.around (plain one.ltype)) (number_of_streams (plain one.ltype))
    → AreAdded middle new (nodes_in (middle.names ++ one.name ∷ []) place (length middle.nodes) middle.physical (plain one.ltype)) (number_of_physical (plain one.ltype))
    (clash_within (middle.names ++ one.name ∷ []) false (plain one.ltype)) middle.is_taken)
    → AreLeft old new place (plain_parts parts) (plain_parts (drop (at + 1) parts))
AreLeft-step old middle new place parts at one within is can left step =
    let first = plain_parts-at parts at one within is in
    let rest = plain_parts (drop (at + 1) parts) in
    let t = plain one.ltype in
    let faults = apart (faults_within place.around t) (faults_of_parts place.around rest) (sym (faults_of_parts-at place.around parts at one within is) ∙ left.valid) in
    let streams = ap streams_in_parts first in
    let physicals = ap physical_in_parts first in
    let added = step (record { valid = faults.0; flows = can.flows; nodes = omega (arith, left.number, streams, can.nodes); streams = left.few }) in
    let count = nodes_in-length (middle.names ++ one.name ∷ []) place (length middle.nodes) middle.physical t in
    let longer = added-length middle new _ _ _ _ added in
    let few = physical-few t in
    let here : List (List ℕ) → List StreamNode = λ n. nodes_in (n ++ one.name ∷ []) place (length middle.nodes) middle.physical t in
    let behind : ℕ → ℕ → List StreamNode = λ n p. nodes_in_parts old.names place n p rest in
    let number_is : length new.nodes ≡ number_of_streams t + length middle.nodes = omega (arith, longer, count) in
    record {
      names = added.names ∙ left.names;
      valid = faults.1;
      number = omega (arith, left.number, streams, longer, count);
      physical = omega (arith, left.physical, physicals, added.physical);
      few = omega (arith, left.few, longer, count, added.physical, few);
      taken = added.taken_is ∙ left.taken;
      clash = ap (λ (found : Option (List (List ℕ))). option_or found (clash_in_parts old.names rest)) added.clash_is
          ∙ or-assoc middle.clash (clash_within (middle.names ++ one.name ∷ []) false t) (clash_in_parts old.names rest)
          ∙ ap (λ (n : List (List ℕ)). option_or middle.clash (option_or (clash_within (n ++ one.name ∷ []) false t) (clash_in_parts old.names rest))) left.names
          ∙ ap (λ (parts : Parts). option_or middle.clash (clash_in_parts old.names parts)) (sym first)
          ∙ left.clash;
      added = ap (λ (l : List StreamNode). l ++ behind (length new.nodes) new.physical) (added.nodes ∙ ap (λ (n : List (List ℕ)). map node_view middle.nodes ++ here n) left.names)
          ∙ append_assoc (map node_view middle.nodes) (here old.names) (behind (length new.nodes) new.physical)
          ∙ ap (λ (n : ℕ). map node_view middle.nodes ++ (here old.names ++ behind n new.physical)) number_is
          ∙ ap (λ (p : ℕ). map node_view middle.nodes ++ (here old.names ++ behind (number_of_streams t + length middle.nodes) p)) added.physical
          ∙ ap (λ (parts : Parts). map node_view middle.nodes ++ nodes_in_parts old.names place (length middle.nodes) middle.physical parts) (sym first)
          ∙ left.added;
    }

pub AreLeft-none : (old new : Splitting) (place : Place) (parts : List Part) (at : ℕ) → length parts ≤ at → AreLeft old new place (plain_parts parts) (plain_parts (drop at parts))
    → AreAdded old new (nodes_in_parts old.names place (length old.nodes) old.physical (plain_parts parts)) (physical_in_parts (plain_parts parts))
    (clash_in_parts old.names (plain_parts parts)) old.is_taken
AreLeft-none old new place parts at done left =
    let none = plain_parts-past parts at done in
    let physicals = ap physical_in_parts none in
    record {
      names = left.names;
      nodes = sym (append-nil (map node_view new.nodes)) ∙ ap (λ (parts : Parts). map node_view new.nodes ++ nodes_in_parts old.names place (length new.nodes) new.physical parts) (sym none) ∙ left.added;
      physical = omega (arith, left.physical, physicals);
      clash_is = sym (or-none new.clash) ∙ ap (λ (parts : Parts). option_or new.clash (clash_in_parts old.names parts)) (sym none) ∙ left.clash;
      taken_is = left.taken;
    }

-- ---- a Stream

pub stream-added : (old middle new : Splitting) (place : Place) (one : StreamType) (found : Found) → IsFound one place (length old.nodes) found → 1 ≤ found.inside.around.product.num
    → CanSplit old place (faults_within place.around (plain_of_stream one)) (number_of_streams (plain_of_stream one))
    → AreAdded old middle (node_at old.names place (length old.nodes) old.physical (plain one.element) (plain one.user) (settings_of one) ∷ [])
    (cond {A = ℕ} (is_physical (plain one.element) (plain one.user) (settings_of one)) 1 0)
    (cond (is_physical (plain one.element) (plain one.user) (settings_of one) && old.is_taken) (Some old.names) None)
    (is_physical (plain one.element) (plain one.user) (settings_of one) || old.is_taken)
    → (CanSplit middle found.inside (faults_within found.inside.around (plain one.element)) (number_of_streams (plain one.element))
    → AreAdded middle new (nodes_in middle.names found.inside (length middle.nodes) middle.physical (plain one.element)) (number_of_physical (plain one.element))
    (clash_within middle.names middle.is_taken (plain one.element)) middle.is_taken)
    → AreAdded old new (nodes_in old.names place (length old.nodes) old.physical (plain_of_stream one)) (number_of_physical (plain_of_stream one))
    (clash_within old.names old.is_taken (plain_of_stream one)) middle.is_taken
stream-added old middle new place one found is flows can node step =
    let settings = settings_of one in
    let element = plain one.element in
    let physical = cond {A = ℕ} (is_physical element (plain one.user) settings) 1 0 in
    let fine = valid-stream place.around element (plain one.user) settings can.valid in
    let longer = added-length old middle _ _ _ _ node in
    let most = counted (is_physical element (plain one.user) settings) in
    let inner = place_inside place (length old.nodes) settings in
    let added = step (record {
      valid = ap (λ (p : Place). faults_within p.around element) is.inside_is ∙ fine.element_valid;
      flows = flows;
      nodes = omega (arith, can.nodes, longer);
      streams = omega (arith, can.streams, longer, node.physical, most);
    }) in
    let here = node_at old.names place (length old.nodes) old.physical element (plain one.user) settings in
    let test : Bool = is_physical element (plain one.user) settings && old.is_taken in
    let behind : List (List ℕ) → Place → ℕ → ℕ → List StreamNode = λ names p n count. nodes_in names p n count element in
    let number_is : length middle.nodes ≡ suc (length old.nodes) = omega (arith, longer) in
    record {
      names = added.names ∙ node.names;
      nodes = added.nodes ∙ ap (λ (l : List StreamNode). l ++ behind middle.names found.inside (length middle.nodes) middle.physical) node.nodes
          ∙ append_assoc (map node_view old.nodes) (here ∷ []) (behind middle.names found.inside (length middle.nodes) middle.physical)
          ∙ ap (λ (n : List (List ℕ)). map node_view old.nodes ++ here ∷ behind n found.inside (length middle.nodes) middle.physical) node.names
          ∙ ap (λ (p : Place). map node_view old.nodes ++ here ∷ behind old.names p (length middle.nodes) middle.physical) is.inside_is
          ∙ ap (λ (n : ℕ). map node_view old.nodes ++ here ∷ behind old.names inner n middle.physical) number_is
          ∙ ap (λ (n : ℕ). map node_view old.nodes ++ here ∷ behind old.names inner (suc (length old.nodes)) n) node.physical;
      physical = omega (arith, added.physical, node.physical);
      clash_is = added.clash_is
          ∙ ap (λ (found : Option (List (List ℕ))). option_or found (clash_within middle.names middle.is_taken element)) node.clash_is
          ∙ ap (λ (n : List (List ℕ)). option_or (option_or old.clash (cond test (Some old.names) None)) (clash_within n middle.is_taken element)) node.names
          ∙ ap (λ (b : Bool). option_or (option_or old.clash (cond test (Some old.names) None)) (clash_within old.names b element)) node.taken_is
          ∙ or-here old.clash test old.names (clash_within old.names (is_physical element (plain one.user) settings || old.is_taken) element);
      taken_is = added.taken_is;
    }
