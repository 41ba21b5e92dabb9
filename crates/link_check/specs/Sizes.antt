-- How many instances a streamlet has inside it, at all levels of its hierarchy. This project's own.
use Rattle.std.specs.Prelude.{ℕ, zero, suc, ◌+◌, ◌<◌, Bool, nat_lt, List, [], Option, Some, None, slice_get}
use Rattle.std.specs.List.{list_any, sum_by}
use Rattle.til_resolve.specs.PlainProject.{PlainStreamlet}
use Rattle.til_resolve.specs.SoundProject.{instances_inside}
use Rattle.til_resolve.specs.declared.project.Instance.{Instance}

-- the instances in the implementation of a streamlet, if it has one of instances and links
abbrev pub instances_found : Option PlainStreamlet → List Instance
instances_found None = []
instances_found (Some streamlet) = instances_inside streamlet.body

abbrev pub instances_at : List PlainStreamlet → ℕ → List Instance
instances_at streamlets number = instances_found (slice_get streamlets number)

-- the instances inside a streamlet, down to so many levels: each of its own, and those inside that
abbrev pub instances_down : List PlainStreamlet → (levels number : ℕ) → ℕ
instances_down streamlets zero number = 0
instances_down streamlets (suc levels) number = sum_by (λ (one : Instance). 1 + instances_down streamlets levels one.streamlet) (instances_at streamlets number)

-- over 65,536 instances, which is this project's own limit, stand inside some streamlet
pub record IsTooLarge (streamlets : List PlainStreamlet) : Type 0 where
  pub levels : ℕ
  pub number : ℕ
  pub many : 65536 < instances_down streamlets levels number

-- these instances, and those inside each, down to so many levels
abbrev pub instances_below : List PlainStreamlet → (levels : ℕ) → List Instance → ℕ
instances_below streamlets levels instances = sum_by (λ (one : Instance). 1 + instances_down streamlets levels one.streamlet) instances

-- over so many instances, down to one level more than that, stand inside some streamlet. A deeper hierarchy has more than so many
-- instances on its way down, so no level below these is looked at.
abbrev pub has_over : (limit : ℕ) → List PlainStreamlet → Bool
has_over limit streamlets = list_any (λ (one : PlainStreamlet). nat_lt limit (instances_below streamlets limit (instances_inside one.body))) streamlets

-- the test whether a project is too large
unfoldable pub is_too_large : List PlainStreamlet → Bool
is_too_large = has_over 65536
