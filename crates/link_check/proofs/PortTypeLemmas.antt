-- The types of the ports along a chain of nets.
use Rattle.std.proofs.Common.{◌≡◌, ◌∙◌, ℕ, Bool, true, false, List, [], ◌∷◌, map, Option, Some, None, option_map, option_and_then, IsPermutation, refl, sym, ap, subst}
use Rattle.til_resolve.specs.Cycles.{ByWay}
use Rattle.til_resolve.specs.PlainProject.{PlainPort, PlainStreamlet}
use Rattle.til_resolve.specs.declared.project.Instance.{Instance}
use Rattle.logical_types.specs.Tree.{Ltype}
use Rattle.link_check.specs.CarryLaws.{ChainsKeepTypes, HaveTypes, port_at}
use Rattle.link_check.specs.Chains.{NetLeads, instances_of_end, streamlet_under}
use Rattle.link_check.specs.Checked.{fault_of_bodies, impl_of}
use Rattle.link_check.specs.Compatible.{Compatible}
use Rattle.link_check.specs.Ends.{Inside, Side, instance_named, instance_side, own_side, port_named, ports_at, side_named, side_of}
use Rattle.link_check.specs.Links.{Body}
use Rattle.link_check.specs.Order.{bodies_from, bodies_in_text}
use Rattle.link_check.specs.Sizes.{instances_at}
use Rattle.link_check.specs.declared.leaf.LeafPort.{LeafPort}
use Rattle.link_check.specs.declared.nets.ImplNets.{ImplNets}
use Rattle.link_check.specs.declared.nets.Net.{Net}
use Rattle.link_check.proofs.ChainLemmas.{IsNetOf, inside-is, its-net, same_some, under-push}
use Rattle.link_check.proofs.CheckedLemmas.{nets-of}
use Rattle.link_check.proofs.NetLemmas.{HasSides, all-sides}
use Rattle.link_check.proofs.TransitiveLemmas.{compatible_is_transitive}

module _ (streamlets : List PlainStreamlet) where
  abbrev port_in : List ℕ → Option ℕ → Option PlainPort
  port_in port number = option_and_then (λ n. port_named (ports_at streamlets n) port) number

  -- a port has the type of the side of an end
  record HasType (found : Option PlainPort) (side : Side) : Type 0 where
    pub port : PlainPort
    pub is : found ≡ Some port
    pub same : port.ltype ≡ side.ltype

  own-type : (found : Option PlainPort) (side : Side) → option_map own_side found ≡ Some side → HasType found side
  own-type None side e = absurd cc
  own-type (Some port) side e = record { port = port; is = refl; same = let s : own_side port ≡ side = cc in ap (λ (x : Side). x.ltype) s }

  inner-type : (found : Option PlainPort) (side : Side) → option_map instance_side found ≡ Some side → HasType found side
  inner-type None side e = absurd cc
  inner-type (Some port) side e = record { port = port; is = refl; same = let s : instance_side port ≡ side = cc in ap (λ (x : Side). x.ltype) s }

  instance-type : (found : Option Instance) (port : List ℕ) (side : Side) → option_and_then (λ (one : Instance). option_map instance_side (port_named (ports_at streamlets one.streamlet) port)) found ≡ Some side
      → HasType (port_in port (option_map (λ (one : Instance). one.streamlet) found)) side
  instance-type None port side e = absurd cc
  instance-type (Some one) port side e = inner-type (port_named (ports_at streamlets one.streamlet) port) side e

  end-type : (top : ℕ) (instances : List (List ℕ)) (number : ℕ) (instance : Option (List ℕ)) (port : List ℕ) (side : Side) → streamlet_under streamlets top instances ≡ Some number
      → side_named streamlets (record { own = ports_at streamlets number; instances = instances_at streamlets number }) instance port ≡ Some side
      → HasType (port_at streamlets (record { top = top; instances = instances_of_end instances instance; port = port })) side
  end-type top instances number None port side under e = subst (λ (f : Option PlainPort). HasType f side) (sym (ap (port_in port) under)) (own-type (port_named (ports_at streamlets number) port) side e)
  end-type top instances number (Some name) port side under e = subst (λ (f : Option PlainPort). HasType f side)
      (sym (ap (port_in port) (under-push streamlets top instances name ∙ ap (option_and_then (λ n. option_map (λ (one : Instance). one.streamlet) (instance_named (instances_at streamlets n) name))) under)))
      (instance-type (instance_named (instances_at streamlets number) name) port side e)

  -- an end that is known to be on a side has one
  some-side : (found : Option Side) (is : Bool) → option_map (λ (side : Side). side.is_source) found ≡ Some is → (side : Side) × (found ≡ Some side)
  some-side None is e = absurd cc
  some-side (Some side) is e = (side, refl)

  -- types that are compatible, one after another
  types-on : (one between other : LeafPort) → HaveTypes streamlets one between → HaveTypes streamlets between other → HaveTypes streamlets one other
  types-on one between other first second =
      let same : first.other ≡ second.one = same_some first.other second.one (sym first.there ∙ second.here) in
      record {
        one = first.one;
        other = second.other;
        here = first.here;
        there = second.there;
        compatible = compatible_is_transitive false first.one.ltype first.other.ltype second.other.ltype first.compatible
            (subst (λ (p : PlainPort). Compatible false p.ltype second.other.ltype) (sym same) second.compatible);
      }

  module _ (bodies : List Body) (all : IsPermutation (bodies_from 0 streamlets) bodies) (none : fault_of_bodies streamlets bodies ≡ None) where
    abbrev Next : LeafPort → LeafPort → Type 0
    Next = NetLeads streamlets (map (impl_of streamlets) bodies)

    sides : (number : ℕ) (net : Net) → IsNetOf streamlets bodies all none number net → HasSides streamlets (record { own = ports_at streamlets number; instances = instances_at streamlets number }) net
    sides number net its = subst (λ (inside : Inside). HasSides streamlets inside net) (inside-is streamlets bodies all none number net its) (all-sides streamlets its.body.inside [] its.body.links net its.clean its.there)

    net-types : (one next : LeafPort) → Next one next → HaveTypes streamlets one next
    net-types one next leads =
        let its = sides leads.number leads.net (its-net streamlets bodies all none one next leads) in
        let inside : Inside = record { own = ports_at streamlets leads.number; instances = instances_at streamlets leads.number } in
        let from = some-side (side_of streamlets inside leads.net.source) true its.source in
        let to = some-side (side_of streamlets inside leads.net.sink) false its.sink in
        let here = end-type one.top leads.instances leads.number leads.net.source.instance leads.net.source.port from.0 leads.under from.1 in
        let there = end-type one.top leads.instances leads.number leads.net.sink.instance leads.net.sink.port to.0 leads.under to.1 in
        record {
          one = here.port;
          other = there.port;
          here = ap (port_at streamlets) leads.from ∙ here.is;
          there = ap (port_at streamlets) leads.to ∙ there.is;
          compatible = subst (λ (t : Ltype). Compatible false t there.port.ltype) (sym here.same) (subst (λ (t : Ltype). Compatible false from.0.ltype t) (sym there.same) (its.types from.0 to.0 from.1 to.1));
        }

    way-types : (way : List LeafPort) (one last : LeafPort) → ByWay Next one way last → HaveTypes streamlets one last
    way-types [] one last by = net-types one last by
    way-types (next ∷ way) one last by = types-on one next last (net-types one next by.0) (way-types way next last by.1)

pub chains_keep_types : ChainsKeepTypes
chains_keep_types streamlets nets are source sink leads =
    let its = nets-of streamlets nets are in
    way-types streamlets (bodies_in_text streamlets) its.all its.faultless leads.way.0 source sink (subst (λ (impls : List ImplNets). ByWay (NetLeads streamlets impls) source leads.way.0 sink) its.impls_are leads.way.1)
