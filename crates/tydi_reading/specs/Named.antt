-- Named arguments in any order, each at most once; one that is not written has its default. The reader, under the name of the form.
-- This project's own.
use Rattle.std.specs.Prelude.{◌≡◌, ◌≤◌, length, Bool, List, [], ◌∷◌, Option, Some, None, option_and_then, if◌then◌else◌, Contains}
use Rattle.tydi_reading.specs.Forms.{Form, ◌⋯◌}
use Rattle.tydi_reading.specs.Lists.{Each, Separated, steps}
use Rattle.tydi_reading.specs.Reading.{Reader, took, leaf, ◌>>=◌}

-- each stands once
abbrev pub AreApart : {K : Type 0} → List K → Type 0
AreApart [] = Unit {0}
AreApart (name ∷ more) = (Contains more name → ⊥) × AreApart more

-- arguments in some order, with a separator between each two, and a last one or none: each at most once, and one that is not written
-- has its default
pub record Named {T K : Type 0} (Separator : Form T) (Argument : K → Form T) (IsDefault : K → Type 0) (ts : List T) : Type 0 where
  pub order : List K
  pub apart : AreApart order
  pub others : (name : K) → (Contains order name → ⊥) → IsDefault name
  pub written : Separated Separator Argument order ts

-- arguments of a whole with a separator after each, and then what leads on in one more; none of them is written twice
pub record NamedTo {T K S : Type 0} (Separator : Form T) (Argument : S → K → Form T) (To : K → Form T) (ts : List T) : Type 0 where
  pub values : S
  pub order : List K
  pub next : K
  pub apart : AreApart (next ∷ order)
  pub leads : (Each (λ name. Argument values name ⋯ Separator) order ⋯ To next) ts

-- the argument that a thing names, where it is not given yet
abbrev pub awaited : {T K G : Type 0} → (T → Option K) → (K → G → Bool) → G → T → Option K
awaited name is_given given t = option_and_then (λ k. if is_given k given then None else Some k) (name t)

-- one argument more: its name, which is not given yet, and its value, which is added to what is given
unfoldable pub argument : {E T K G : Type 0} → (T → Option K) → (K → G → Bool) → (K → G → Reader E T G) → G → Reader E T G
argument name is_given value given = leaf (awaited name is_given given) >>= (λ k. value k given)

-- arguments with separators, beside those that are given, up to where a test of the next thing holds
unfoldable pub named : {E T K G : Type 0} → (T → Bool) → Bool → (T → Bool) → (T → Option K) → (K → G → Bool) → (K → G → Reader E T G) → G → Reader E T G
named test last separates name is_given value = steps test last separates (argument name is_given value)

-- reading a value leaves no more things than there were
pub record NeverGrows {E T K G : Type 0} (value : K → G → Reader E T G) : Type 0 where
  pub least : (k : K) (given : G) (ts rest : List T) (next : G) → value k given ts ≡ took next rest → length rest ≤ length ts
