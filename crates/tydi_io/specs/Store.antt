-- The answers of a store that reports its files.
use Rattle.std.specs.Prelude.{◌≡◌, ℕ, ◌+◌, ◌<◌, ◌≤◌, ◌↔◌, List, [], Bool, Option, Some, None, Result, Ok, Err, length, take, drop, unwrap_or, option_map, IsTrue, IsSome}

-- the bytes of a file by its name, None where no file has that name
abbrev pub Files : Type 0
Files = List ℕ → Option (List ℕ)

-- the started file after a start by this name: none where there is no such file
abbrev pub started_at : Files → List ℕ → Option (List ℕ × ℕ)
started_at told name = option_map (λ _. (name, 0)) (told name)

-- an answer says whether there is a file of this name
abbrev pub Finds : {E : Type 0} → Files → List ℕ → Result Bool E → Type 0
Finds told name (Ok found) = IsTrue found ↔ IsSome (told name)
Finds told name (Err _) = Unit {0}

-- the bytes of the started file that were not given yet: none where no file is started
abbrev pub left_of : Files → Option (List ℕ × ℕ) → List ℕ
left_of told None = []
left_of told (Some (name, given)) = drop given (unwrap_or (told name) [])

-- the started file, with so many more of its bytes given
abbrev pub given_more : Option (List ℕ × ℕ) → ℕ → Option (List ℕ × ℕ)
given_more None n = None
given_more (Some (name, given)) n = Some (name, given + n)

-- the front of the piece holds the next n bytes of the file, and n is 0 only at its end or in an empty piece
pub record PullsSome (told : Files) (before after : Option (List ℕ × ℕ)) (into : List ℕ) (n : ℕ) : Type 0 where
  pub within : n ≤ length (left_of told before)
  pub bytes : take n into ≡ take n (left_of told before)
  pub ends : 0 < length into → n ≡ 0 → left_of told before ≡ []
  pub place : after ≡ given_more before n

-- a pull that succeeds gives the next bytes, and one that fails leaves the place
abbrev pub Pulls : {E : Type 0} → Files → Option (List ℕ × ℕ) → Option (List ℕ × ℕ) → List ℕ → Result ℕ E → Type 0
Pulls told before after into (Ok n) = PullsSome told before after into n
Pulls told before after into (Err _) = after ≡ before
