-- Tables of words, each of which means one thing. This project's own.
use Rattle.std.specs.Prelude.{◌≡◌, ℕ, false, List, [], ◌∷◌, Option, Some, None, if◌then◌else◌}
use Rattle.std.specs.Str.{bytes_eq}

-- the first of these whose own word this is
abbrev pub entry_of : {K : Type 0} → (K → List ℕ) → List K → List ℕ → Option K
entry_of own [] word = None
entry_of own (k ∷ more) word = if bytes_eq word (own k) then Some k else entry_of own more word

-- this is the own word of none of these
abbrev pub IsNoEntry : {K : Type 0} → (K → List ℕ) → List K → List ℕ → Type 0
IsNoEntry own [] word = Unit {0}
IsNoEntry own (k ∷ more) word = (bytes_eq word (own k) ≡ false) × IsNoEntry own more word
