-- The leaves of a generated value, which may be at most those of a value's text (this project's own).
use Rattle.std.specs.Prelude.{◌≡◌, ℕ, suc, ◌+◌, ◌<◌, ◌≤◌, List, map, Result, Ok, Err}
use Rattle.logical_value.specs.Tree.{plain, plain_port, plain_values}
use Rattle.logical_value.specs.declared.value.PortValue.{PortValue}
use Rattle.logical_value.specs.declared.value.Value.{Value}
use Rattle.type_split.specs.Streams.{PlainSplit}
use Rattle.value_text.specs.Leaves.{most_leaves}
use Rattle.value_text.specs.Printable.{leaves_in, leaves_in_all, leaves_of_port}
use Rattle.value_gen.specs.Draws.{Drawn}
use Rattle.value_gen.specs.Made.{generated}
use Rattle.value_gen.specs.declared.fault.GenFault.{GenFault}
use Rattle.value_gen.specs.declared.fault.GenFault.TheVariants as faults

-- the leaves of a value, of values, and of series
abbrev pub leaves : Value → ℕ
leaves value = leaves_in (plain value)

abbrev pub leaves_of_all : List Value → ℕ
leaves_of_all values = leaves_in_all (plain_values values)

abbrev pub leaves_of_roots : List (List Value) → ℕ
leaves_of_roots roots = leaves_of_port (map (map plain) roots)

-- where there is room for so many leaves, what is made leaves the rest of it; or it has more leaves than there is room for
abbrev pub Fills : {A : Type 0} → (A → ℕ) → Drawn A → (old new : ℕ) → Result A GenFault → Type 0
Fills leaves_in one old new (Ok made) = leaves_in made + new ≡ old
Fills leaves_in one old new (Err faults.TooManyLeaves) = old < leaves_in one.made
Fills leaves_in one old new (Err faults.Memory) = Unit {0}

-- there is room for one leaf less; or there is none for a leaf
abbrev pub TakesLeaf : (old new : ℕ) → Result (Unit {0}) GenFault → Type 0
TakesLeaf old new (Ok done) = old ≡ suc new
TakesLeaf old new (Err faults.TooManyLeaves) = old ≡ 0
TakesLeaf old new (Err faults.Memory) = ⊥

-- the generated value of a port, which has at most 1,000,000 leaves; or it has more
abbrev pub IsGenerated : PlainSplit → (seed count : ℕ) → Result PortValue GenFault → Type 0
IsGenerated split seed count (Ok value) = (value.roots ≡ generated split seed count) × (leaves_of_port (plain_port value) ≤ most_leaves)
IsGenerated split seed count (Err faults.TooManyLeaves) = most_leaves < leaves_of_roots (generated split seed count)
IsGenerated split seed count (Err faults.Memory) = Unit {0}
