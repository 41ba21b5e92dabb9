-- Implementations, as the code holds them. No public clause names them. This project's own.
use Rattle.std.specs.Prelude.{◌≡◌, ℕ, List, map}
use Rattle.til_resolve.specs.PlainProject.{PlainStreamlet, plain_port}
use Rattle.til_resolve.specs.declared.project.Streamlet.{Streamlet}
use Rattle.link_check.specs.Checked.{fault_of_bodies, impl_of}
use Rattle.link_check.specs.Ends.{ports_at}
use Rattle.link_check.specs.Links as links
use Rattle.link_check.specs.Order.{body_of}
use Rattle.link_check.specs.declared.nets.ImplNets.{ImplNets}
use Rattle.link_check.specs.declared.order.Body.{Body}

abbrev pub body_lent : List PlainStreamlet → Body → links.Body
body_lent streamlets body = record {
  streamlet = body.number;
  place = body.place;
  inside = record { own = ports_at streamlets body.number; instances = body.instances.now };
  links = body.links.now;
}

abbrev pub bodies_lent : List PlainStreamlet → List Body → List links.Body
bodies_lent streamlets bodies = map (body_lent streamlets) bodies

-- the body of a streamlet of this number
abbrev pub body_there : ℕ → Streamlet → List links.Body
body_there number streamlet = body_of number (map plain_port streamlet.ports) streamlet.body

-- the nets of the bodies so far, which have no fault
pub record AreWired (streamlets : List PlainStreamlet) (bodies so_far rest : List Body) (impls : List ImplNets) : Type 0 where
  pub faults : fault_of_bodies streamlets (bodies_lent streamlets rest) ≡ fault_of_bodies streamlets (bodies_lent streamlets bodies)
  pub impls_are : impls ≡ map (impl_of streamlets) (bodies_lent streamlets so_far)
