-- The ends that stand in links, as a set of names. It serves the check of links, and no public clause.
use Rattle.std.specs.Prelude.{◌≡◌, ℕ, Bool, List, [], ◌∷◌, ◌++◌, map, Option, option_map}
use Rattle.std.specs.Borrow.{Bor}
use Rattle.std.specs.List.{list_all}
use Rattle.std.specs.Option.{option_cmp}
use Rattle.std.specs.Ordering.{ordering_then}
use Rattle.std.specs.declared.cmp.Ordering.{Ordering}
use Rattle.til_resolve.specs.Ordered.{by_name}
use Rattle.til_resolve.specs.PlainProject.{PlainStreamlet}
use Rattle.til_resolve.specs.declared.project.Instance.{Instance}
use Rattle.til_resolve.specs.declared.project.Link.{Link}
use Rattle.til_resolve.specs.declared.project.LinkEnd.{LinkEnd}
use Rattle.link_check.specs.Ends.{Inside, ends_of_instance}
use Rattle.link_check.specs.Links.{is_linked, net_of, fault_of_links}
use Rattle.link_check.specs.declared.nets.Net.{Net}

-- the names of an end
abbrev pub EndKey : Type 0
EndKey = Option (List ℕ) × List ℕ

-- ends by the names of their instances, and then by those of their ports
abbrev pub by_end : EndKey → EndKey → Ordering
by_end one other = ordering_then (option_cmp by_name one.0 other.0) (by_name one.1 other.1)

-- the end of an instance that may be there, and of a port
abbrev pub end_named : Option (Bor (List ℕ)) → List ℕ → LinkEnd
end_named instance port = record { instance = option_map (λ (name : Bor (List ℕ)). name.now) instance; port = port }

abbrev pub end_of_key : EndKey → LinkEnd
end_of_key key = record { instance = key.0; port = key.1 }

-- a set has the ends of these links
abbrev pub Sees : (EndKey → Bool) → List Link → Type 0
Sees has links = (key : EndKey) → has key ≡ is_linked links (end_of_key key)

-- the nets of the links so far, which have no fault, and the set of their ends
pub record AreLinked (streamlets : List PlainStreamlet) (inside : Inside) (links so_far rest : List Link) (nets : List Net) (has : EndKey → Bool) : Type 0 where
  pub faults : fault_of_links streamlets inside so_far rest ≡ fault_of_links streamlets inside [] links
  pub nets_are : nets ≡ map (net_of streamlets inside) so_far
  pub seen : Sees has so_far

-- one link more
pub record AddsLink (streamlets : List PlainStreamlet) (inside : Inside) (earlier : List Link) (link : Link) (old new : List Net) (has : EndKey → Bool) : Type 0 where
  pub nets_are : new ≡ old ++ net_of streamlets inside link ∷ []
  pub seen : Sees has (earlier ++ link ∷ [])

-- each end of an instance stands in one of these links
abbrev pub instance_linked : List PlainStreamlet → List Link → Instance → Bool
instance_linked streamlets links one = list_all (is_linked links) (ends_of_instance streamlets one)
