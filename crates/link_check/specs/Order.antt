-- The structural implementations of a project, in the order in which they stand in its text. This project's own.
use Rattle.std.specs.Prelude.{ℕ, suc, List, [], ◌∷◌, ◌++◌, Option, Some, None, IsPermutation, if◌then◌else◌}
use Rattle.std.specs.List.Sorted.{IsSortedByKey}
use Rattle.std.specs.Ordering.{is_lt, nat_cmp, ordering_then}
use Rattle.std.specs.declared.cmp.Ordering.{Ordering}
use Rattle.til_resolve.specs.PlainProject.{PlainPort, PlainStreamlet}
use Rattle.til_resolve.specs.declared.project.Impl.{Impl}
use Rattle.til_resolve.specs.declared.project.Impl.TheVariants as impls
use Rattle.link_check.specs.Links.{Body}

-- the body of a streamlet of this number, where it has instances and links
abbrev pub body_of : ℕ → List PlainPort → Option Impl → List Body
body_of number ports None = []
body_of number ports (Some (impls.Linked text)) = []
body_of number ports (Some (impls.Structural place instances links)) =
    record { streamlet = number; place = place; inside = record { own = ports; instances = instances }; links = links } ∷ []

-- the bodies of streamlets, the first of which has this number
abbrev pub bodies_from : ℕ → List PlainStreamlet → List Body
bodies_from number [] = []
bodies_from number (one ∷ more) = body_of number one.ports one.body ++ bodies_from (suc number) more

-- where a body stands: by the path after `of` in the text, and two of one place, which no text has, by their streamlets
abbrev pub stands_at : Body → ℕ × ℕ
stands_at body = (body.place.offset, body.streamlet)

abbrev pub in_text : ℕ × ℕ → ℕ × ℕ → Ordering
in_text one other = ordering_then (nat_cmp one.0 other.0) (nat_cmp one.1 other.1)

-- how two bodies stand to each other in the text
abbrev pub by_text : Body → Body → Ordering
by_text one other = in_text (stands_at one) (stands_at other)

-- a body in its place among bodies in text order: behind those that stand before it
abbrev pub placed : Body → List Body → List Body
placed body [] = body ∷ []
placed body (first ∷ more) = if is_lt (by_text first body) then first ∷ placed body more else body ∷ first ∷ more

-- bodies in text order
abbrev pub ordered : List Body → List Body
ordered [] = []
ordered (body ∷ more) = placed body (ordered more)

-- the bodies of a project, in text order
abbrev pub bodies_in_text : List PlainStreamlet → List Body
bodies_in_text streamlets = ordered (bodies_from 0 streamlets)

-- a list has the bodies of a project in text order. A project has one such list.
pub record IsInTextOrder (streamlets : List PlainStreamlet) (bodies : List Body) : Type 0 where
  pub all : IsPermutation (bodies_from 0 streamlets) bodies
  pub sorted : IsSortedByKey stands_at in_text bodies
