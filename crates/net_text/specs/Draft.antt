-- The net of the lines so far, as the code keeps it (this project's own).
use Rattle.std.specs.Prelude.{◌≡◌, ℕ, ◌≤◌, List, length, All}
use Rattle.net_text.specs.declared.draft.Draft.{Draft}
use Rattle.net_text.specs.declared.net.NetPlan.{NetPlan}
use Rattle.net_text.specs.Text.{most_stages}

-- a draft as plain data
abbrev pub net_in : Draft → NetPlan
net_in draft = record { stages = draft.stages.items; orders = draft.orders }

-- a draft has the stages of each of its streams, a few for each
pub record IsDraft (draft : Draft) : Type 0 where
  pub streams : length draft.stages.items ≡ length draft.streams.list.now
  pub few : All (λ (stages : List ℕ). length stages ≤ most_stages) draft.stages.items
