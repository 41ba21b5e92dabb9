-- The numbers of streams by their paths, as the code keeps them. This project's own.
use Rattle.std.specs.Prelude.{◌≡◌, ℕ, List, option_map}
use Rattle.std.specs.BTreeMap.{BTreeMap, get}
use Rattle.std.specs.Cmp.Lexicographic.{slice_cmp}
use Rattle.std.specs.Ordering.{nat_cmp}
use Rattle.type_split.specs.declared.split.Phys.{Phys}
use Rattle.plan_text.specs.Blocks.{find_stream}

-- at each path stands the number of the first stream that has it; the first of all has this number
pub record FindsFirst (numbers : BTreeMap (List (List ℕ)) ℕ) (start : ℕ) (streams : List Phys) : Type 0 where
  pub first : (path : List (List ℕ)) → get (slice_cmp (slice_cmp nat_cmp)) numbers path ≡ option_map (λ stream. stream.0) (find_stream path start streams)
