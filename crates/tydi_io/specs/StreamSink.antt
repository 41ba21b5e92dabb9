-- The sink over a writer, as far as a contract can see it.
use Rattle.std.specs.Prelude.{ℕ, List, Option}

-- the bytes of the writer where it reports them, and the number of calls that failed
pub record StreamSinkState : Type 0 where
  pub written : Option (List ℕ)
  pub faults : ℕ
