-- The store in memory: its state, and the state after each call.
use Rattle.std.specs.Prelude.{ℕ, List, [], ◌∷◌, Bool, Option, Some, None, Result, Ok, Err, length, min, cond, slice_get, unwrap_or, option_map}
use Rattle.std.specs.Str.{bytes_eq}
use Rattle.tydi_io.specs.Faults.{one_more, faults_after}
use Rattle.tydi_io.specs.Store.{Files, started_at, left_of, given_more}

-- the bytes of the first file of this name
abbrev pub file_in : List (List ℕ × List ℕ) → Files
file_in [] name = None
file_in (file ∷ files) name = cond (bytes_eq file.0 name) (Some file.1) (file_in files name)

-- `most` bytes go at most with one pull, `calls` is the number of the next call, and `failing` has the numbers that fail
pub record MemStoreState : Type 0 where
  pub files : List (List ℕ × List ℕ)
  pub most : ℕ
  pub failing : List ℕ
  pub calls : ℕ
  pub started : Option (List ℕ × ℕ)
  pub faults : ℕ

-- a new store: no call was made, and no file is started
abbrev pub store_at_first : List (List ℕ × List ℕ) → ℕ → List ℕ → MemStoreState
store_at_first files most failing =
    record { files = files; most = most; failing = failing; calls = 0; started = None; faults = 0 }

-- how many bytes a pull gives into a piece of this length
abbrev pub pull_count : MemStoreState → ℕ → ℕ
pull_count store room = min store.most (min room (length (left_of (file_in store.files) store.started)))

-- the state after a start with this result: failed or not, the file is the started one
abbrev pub store_after_start : {E : Type 0} → MemStoreState → List ℕ → Result Bool E → MemStoreState
store_after_start store name result = record store {
  calls = one_more store.calls;
  started = started_at (file_in store.files) name;
  faults = faults_after store.faults result;
}

-- the place after a pull
abbrev pub place_after : {E : Type 0} → Option (List ℕ × ℕ) → Result ℕ E → Option (List ℕ × ℕ)
place_after started (Ok n) = given_more started n
place_after started (Err _) = started

-- the state after a pull with this result
abbrev pub store_after_pull : {E : Type 0} → MemStoreState → Result ℕ E → MemStoreState
store_after_pull store result = record store {
  calls = one_more store.calls;
  started = place_after store.started result;
  faults = faults_after store.faults result;
}

-- the name and the bytes of the file at this index
abbrev pub name_at : List (List ℕ × List ℕ) → ℕ → List ℕ
name_at files index = unwrap_or (option_map (λ file. file.0) (slice_get files index)) []

abbrev pub bytes_at : List (List ℕ × List ℕ) → ℕ → List ℕ
bytes_at files index = unwrap_or (option_map (λ file. file.1) (slice_get files index)) []
