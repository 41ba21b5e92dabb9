-- How the store in memory keeps its started file.
use Rattle.std.specs.Prelude.{◌≡◌, ℕ, ◌<◌, ◌≤◌, List, Option, Some, None, length, option_map}
use Rattle.tydi_io.specs.MemStore.{MemStoreState, file_in, name_at, bytes_at}
use Rattle.tydi_io.specs.declared.started.Started.{Started}
use Rattle.tydi_io.specs.declared.mem_store.MemStore.TheInside.{Inside}

-- the started file by its name
abbrev pub named : List (List ℕ × List ℕ) → Started → List ℕ × ℕ
named files started = (name_at files started.file, started.given)

-- the file is there, it is the first of its name, and no more bytes were given than it has
pub record IsStartedIn (files : List (List ℕ × List ℕ)) (started : Started) : Type 0 where
  pub there : started.file < length files
  pub first : file_in files (name_at files started.file) ≡ Some (bytes_at files started.file)
  pub within : started.given ≤ length (bytes_at files started.file)

abbrev pub IsAnyStartedIn : List (List ℕ × List ℕ) → Option Started → Type 0
IsAnyStartedIn files None = Unit {0}
IsAnyStartedIn files (Some started) = IsStartedIn files started

abbrev pub state_of : Inside → MemStoreState
state_of store = record {
  files = store.files;
  most = store.most;
  failing = store.calls.failing;
  calls = store.calls.next;
  started = option_map (named store.files) store.started;
  faults = store.calls.faults;
}
