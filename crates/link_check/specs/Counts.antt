-- Counts of instances, as the code keeps them: they rise until none is too low. They serve the test of size, and no public clause.
use Rattle.std.specs.Prelude.{◌≡◌, ℕ, ◌+◌, ◌-◌, ◌<◌, ◌≤◌, min, Bool, nat_lt, List, slice_index_or, slice_set, if◌then◌else◌}
use Rattle.std.specs.List.{sum_by}
use Rattle.til_resolve.specs.PlainProject.{PlainStreamlet}
use Rattle.til_resolve.specs.declared.project.Instance.{Instance}
use Rattle.link_check.specs.Sizes.{instances_at, instances_down}

-- the count of a number
abbrev pub entry : List ℕ → ℕ → ℕ
entry counts number = slice_index_or counts number 0

-- instances, and those inside each by these counts, up to one more than the limit
abbrev pub counted : List ℕ → List Instance → ℕ
counted counts instances = min (sum_by (λ (one : Instance). 1 + entry counts one.streamlet) instances) 65537

-- there are so many levels that no count is above that of the instances down to these
pub record IsBelow (streamlets : List PlainStreamlet) (counts : List ℕ) : Type 0 where
  pub levels : ℕ
  pub below : (number : ℕ) → entry counts number ≤ instances_down streamlets levels number

-- no count before this number is below that by the counts of its instances
abbrev pub HasSettled : List PlainStreamlet → List ℕ → ℕ → Type 0
HasSettled streamlets counts end = (number : ℕ) → number < end → counted counts (instances_at streamlets number) ≤ entry counts number

-- how far counts may still rise
abbrev pub room : List ℕ → ℕ
room counts = sum_by (λ count. 65537 - count) counts

-- a count is this one where it was lower; whether it was
pub record IsRaised (old : List ℕ) (number count : ℕ) (new : List ℕ) (raised : Bool) : Type 0 where
  pub value : new ≡ (if nat_lt (entry old number) count then slice_set old number count else old)
  pub is : raised ≡ nat_lt (entry old number) count
