-- The store over the system's files, as far as a contract can see it.
use Rattle.std.specs.Prelude.{ℕ, List, Bool, false, Option, Result, Ok, Err}

-- whether a file is started, the bytes that it has left where its reader reports them, and how many calls failed
pub record FileStoreState : Type 0 where
  pub is_started : Bool
  pub left : Option (List ℕ)
  pub faults : ℕ

-- a file is started after a start that answered true, and after no other
abbrev pub has_started : {E : Type 0} → Result Bool E → Bool
has_started (Ok found) = found
has_started (Err _) = false
