-- Fields as they are found, one after another. It serves the search for them, and no public clause. This project's own.
use Rattle.std.specs.Prelude.{◌≡◌, ℕ, ◌+◌, ◌≤◌, List, ◌++◌, filter, Result, IfOk}
use Rattle.split_text.specs.Fields.{has_bits}
use Rattle.split_text.specs.declared.fields.Field.{Field}
use Rattle.split_text.specs.declared.fields.Fields.{Fields}

-- these fields were added, but those without bits, up to this bit, and the names are as before
pub record AreAdded (old new : Fields) (found end : ℕ) (added : List Field) : Type 0 where
  pub ends : found ≡ end
  pub names : new.names ≡ old.names
  pub fields : new.fields ≡ old.fields ++ filter has_bits added

-- the same of a part of an element that is so wide, from this bit on, where elements have at most 4,096 bits
abbrev pub Adds : {E : Type 0} → (old new : Fields) → Result ℕ E → (offset width : ℕ) → List Field → Type 0
Adds old new result offset width added = offset + width ≤ 4096 → IfOk result (λ found. AreAdded old new found (offset + width) added)
