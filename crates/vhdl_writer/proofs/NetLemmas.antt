-- The nets of a checked project: they are those of links without a fault, and a port stands at each of their ends.
use Rattle.std.proofs.Common.{◌≡◌, ℕ, Bool, true, false, cond, nat_eq, List, [], ◌∷◌, map, Option, Some, None, option_map, Contains, slice_get, refl, sym, ap, ◌∙◌, subst}
use Rattle.std.specs.List.{find}
use Rattle.std.specs.Option.{option_or}
use Rattle.std.proofs.lemmas.Bool.{eqb-true}
use Rattle.til_resolve.specs.PlainProject.{PlainStreamlet}
use Rattle.til_resolve.specs.SoundProject.{HasNamesApart, instances_inside}
use Rattle.til_resolve.specs.declared.project.Link.{Link}
use Rattle.til_resolve.specs.declared.project.LinkEnd.{LinkEnd}
use Rattle.logical_types.specs.Tree.{Ltype}
use Rattle.link_check.specs.Checked.{AreNets, impl_of}
use Rattle.link_check.specs.Compatible.{Compatible}
use Rattle.link_check.specs.Ends.{Inside, Side, side_of}
use Rattle.link_check.specs.Links.{Body, fault_of_body, fault_of_links, is_linked, net_of}
use Rattle.link_check.specs.Order.{bodies_in_text}
use Rattle.link_check.specs.declared.fault.LinkFault.{LinkFault}
use Rattle.link_check.specs.declared.nets.ImplNets.{ImplNets}
use Rattle.link_check.specs.declared.nets.Net.{Net}
use Rattle.link_check.specs.declared.nets.Nets.{Nets}
use Rattle.link_check.proofs.CheckedLemmas.{AreOf, nets-of}
use Rattle.link_check.proofs.NetLemmas.{Contains-mapped, HasSides, all-sides, body_found, its-body, its-inside, no-fault}
use Rattle.vhdl_writer.specs.Architecture.{nets_found, nets_of}
use Rattle.vhdl_writer.proofs.EndLemmas.{HasPort, find-found, has-port, inside_of}

-- nets are those of links that have no fault
pub record AreLinkNets (streamlets : List PlainStreamlet) (one : PlainStreamlet) (nets : List Net) : Type 0 where
  pub links : List Link
  pub nets_are : nets ≡ map (net_of streamlets (inside_of streamlets one)) links
  pub clean : fault_of_links streamlets (inside_of streamlets one) [] links ≡ None

first-none : (one other : Option LinkFault) → option_or one other ≡ None → one ≡ None
first-none None other e = refl
first-none (Some fault) other e = absurd cc

module _ (streamlets : List PlainStreamlet) (nets : Nets) (are : AreOf streamlets nets) (number : ℕ) (one : PlainStreamlet) (at : slice_get streamlets number ≡ Some one) where
  body-nets : (body : Body) → Contains (bodies_in_text streamlets) body → body.streamlet ≡ number → AreLinkNets streamlets one (impl_of streamlets body).nets
  body-nets body there same =
      let inside_is : body.inside ≡ inside_of streamlets one = (its-inside number (Some one) body
      (subst (λ (found : Option PlainStreamlet). body_found number found ≡ body ∷ []) at
      (subst (λ (n : ℕ). body_found n (slice_get streamlets n) ≡ body ∷ []) same (its-body streamlets (bodies_in_text streamlets) body are.all there)))).0 in
      let faultless : fault_of_links streamlets body.inside [] body.links ≡ None = first-none (fault_of_links streamlets body.inside [] body.links) _ (no-fault streamlets (bodies_in_text streamlets) body are.faultless there) in
      record {
        links = body.links;
        nets_are = ap (λ (inside : Inside). map (net_of streamlets inside) body.links) inside_is;
        clean = subst (λ (inside : Inside). fault_of_links streamlets inside [] body.links ≡ None) inside_is faultless;
      }

  impl-nets : (impl : ImplNets) → Contains nets.impls impl → nat_eq impl.streamlet number ≡ true → AreLinkNets streamlets one impl.nets
  impl-nets impl there same =
      let found = Contains-mapped (impl_of streamlets) (bodies_in_text streamlets) impl (subst (λ (impls : List ImplNets). Contains impls impl) are.impls_are there) in
      subst (λ (i : ImplNets). AreLinkNets streamlets one i.nets) found.2
      (body-nets found.0 found.1 (ap (λ (i : ImplNets). i.streamlet) found.2 ∙ eqb-true impl.streamlet number same))

  found-nets : (found : Option ImplNets) → find (λ (impl : ImplNets). nat_eq impl.streamlet number) nets.impls ≡ found → AreLinkNets streamlets one (nets_found found)
  found-nets None is = record { links = []; nets_are = refl; clean = refl }
  found-nets (Some impl) is = let inside = find-found (λ (impl : ImplNets). nat_eq impl.streamlet number) nets.impls impl is in impl-nets impl inside.0 inside.1

-- the nets of the implementation of a streamlet
pub link-nets : (streamlets : List PlainStreamlet) (nets : Nets) → AreNets streamlets nets → (number : ℕ) (one : PlainStreamlet) → slice_get streamlets number ≡ Some one
    → AreLinkNets streamlets one (nets_of nets.impls number)
link-nets streamlets nets are number one at = found-nets streamlets nets (nets-of streamlets nets are) number one at (find (λ (impl : ImplNets). nat_eq impl.streamlet number) nets.impls) refl

-- ---- the ports at the ends of a net

pub record HasPorts (streamlets : List PlainStreamlet) (number : ℕ) (one : PlainStreamlet) (net : Net) : Type 0 where
  pub from : Ltype
  pub to : Ltype
  pub source : HasPort streamlets number one net.source.instance net.source.port from
  pub sink : HasPort streamlets number one net.sink.instance net.sink.port to
  pub types : Compatible false from to
  pub sides : HasSides streamlets (inside_of streamlets one) net

some-side : (found : Option Side) (is : Bool) → option_map (λ (side : Side). side.is_source) found ≡ Some is → (side : Side) × (found ≡ Some side)
some-side None is e = absurd cc
some-side (Some side) is e = (side, refl)

pub has-ports : (streamlets : List PlainStreamlet) (number : ℕ) (one : PlainStreamlet) (nets : List Net) (net : Net) → slice_get streamlets number ≡ Some one → AreLinkNets streamlets one nets → Contains nets net
    → HasPorts streamlets number one net
has-ports streamlets number one nets net at are there =
    let inside = inside_of streamlets one in
    let sides = all-sides streamlets inside [] are.links net are.clean (subst (λ (all : List Net). Contains all net) are.nets_are there) in
    let from = some-side (side_of streamlets inside net.source) true sides.source in
    let to = some-side (side_of streamlets inside net.sink) false sides.sink in
    record {
      from = from.0.ltype;
      to = to.0.ltype;
      source = has-port streamlets number one net.source.instance net.source.port from.0 at from.1;
      sink = has-port streamlets number one net.sink.instance net.sink.port to.0 at to.1;
      types = sides.types from.0 to.0 from.1 to.1;
      sides = sides;
    }
