-- The numbers of a graph that lead to themselves are the cycles that a tree reports.
use Rattle.std.proofs.Common.{◌≡◌, ℕ, List, length, Option, Some, None, refl, sym, subst, ◌∙◌}
use Rattle.tydi_base.specs.declared.place.Place.{Place}
use Rattle.til_resolve.specs.declared.cycles.Site.TheVariants as sites
use Rattle.til_resolve.specs.Cycles.{LeadsTo}
use Rattle.til_resolve.specs.Declarations.{Declaration}
use Rattle.til_resolve.specs.Earliest.{IsEarliest, IsBelow}
use Rattle.til_resolve.specs.Faults.{IsCyclicAtName, IsCyclicAtTarget}
use Rattle.til_resolve.specs.Graph.{Leads, HasInside, type_graph}
use Rattle.til_resolve.specs.Suspects.{IsCyclicAt}
use Rattle.til_resolve.proofs.ContainmentLemmas.{contains-there, contains-back}
use Rattle.til_resolve.proofs.EarliestLemmas.{IsEarliest-same}
use Rattle.til_resolve.proofs.TypeGraphLemmas.{cyclic-there, cyclic-back}

-- an option holds one number
pub one_number : (found : Option ℕ) (s t : ℕ) → Some s ≡ found → found ≡ Some t → t ≡ s
one_number found s t one other = let same : Some s ≡ Some t = one ∙ other in cc

pub no_number : (found : Option ℕ) (t : ℕ) → None ≡ found → found ≡ Some t → ⊥
no_number found t none some = let same : None ≡ Some t = none ∙ some in cc

-- the same at each number
below-same : (At Other : ℕ → Place → Type 0) (n : ℕ) (found : Option Place) → ((one : ℕ) (place : Place) → At one place → Other one place) → ((one : ℕ) (place : Place) → Other one place → At one place)
    → IsEarliest (IsBelow At n) found → IsEarliest (IsBelow Other n) found
below-same At Other n found there back = IsEarliest-same (IsBelow At n) (IsBelow Other n) found
    (λ place is. record { one = is.one; within = is.within; at = there is.one place is.at })
    (λ place is. record { one = is.one; within = is.within; at = back is.one place is.at })

-- type declarations
pub told-types : (all : List Declaration) (graph : List (List ℕ)) (n : ℕ) (found : Option Place) → graph ≡ type_graph all (length all)
    → IsEarliest (IsBelow (IsCyclicAt sites.Name all graph) n) found → IsEarliest (IsBelow (IsCyclicAtName all) n) found
told-types all graph n found is = below-same (IsCyclicAt sites.Name all graph) (IsCyclicAtName all) n found there back
  where
    there : (one : ℕ) (place : Place) → IsCyclicAt sites.Name all graph one place → IsCyclicAtName all one place
    there one place so =
        let same : Some one ≡ Some so.number = so.is in
        let number : so.number ≡ one = cc in
        record {
          at = so.at;
          leads = cyclic-there all one (subst (λ (g : List (List ℕ)). LeadsTo (Leads g) one one) is (subst (λ k. LeadsTo (Leads graph) k k) number so.leads));
        }

    back : (one : ℕ) (place : Place) → IsCyclicAtName all one place → IsCyclicAt sites.Name all graph one place
    back one place so = record { at = so.at; number = one; is = refl; leads = subst (λ (g : List (List ℕ)). LeadsTo (Leads g) one one) (sym is) (cyclic-back all one so.leads) }

-- streamlets inside streamlets
pub told-instances : (all : List Declaration) (graph : List (List ℕ)) (n : ℕ) (found : Option Place) → HasInside all graph (length all)
    → IsEarliest (IsBelow (IsCyclicAt sites.Target all graph) n) found → IsEarliest (IsBelow (IsCyclicAtTarget all) n) found
told-instances all graph n found is = below-same (IsCyclicAt sites.Target all graph) (IsCyclicAtTarget all) n found
    (λ one place so. record { at = so.at; streamlet = so.number; implements = so.is; leads = contains-there all graph is so.number so.leads })
    (λ one place so. record { at = so.at; number = so.streamlet; is = so.implements; leads = contains-back all graph is so.streamlet so.leads })
