-- The sink in memory: its state, and the state after a push.
use Rattle.std.specs.Prelude.{ℕ, ◌-◌, ◌<◌, ◌≤◌, ◌⊎◌, List, [], Result, length, min, Contains}
use Rattle.tydi_io.specs.Faults.{one_more, faults_after}
use Rattle.tydi_io.specs.Sink.{bytes_after}

-- it takes `room` bytes in all and `most` at most with one push, `calls` is the number of the next push, and `failing` has
-- the numbers that fail
pub record MemSinkState : Type 0 where
  pub taken : List ℕ
  pub room : ℕ
  pub most : ℕ
  pub failing : List ℕ
  pub calls : ℕ
  pub faults : ℕ

-- a new sink: no push was made
abbrev pub sink_at_first : ℕ → ℕ → List ℕ → MemSinkState
sink_at_first room most failing =
    record { taken = []; room = room; most = most; failing = failing; calls = 0; faults = 0 }

-- how many bytes a push takes of a piece of this length
abbrev pub push_count : MemSinkState → ℕ → ℕ
push_count sink piece = min sink.most (min piece (sink.room - length sink.taken))

-- the next push is to fail, or it brings bytes and there is no room left
abbrev pub PushFails : MemSinkState → ℕ → Type 0
PushFails sink piece = Contains sink.failing sink.calls ⊎ ((0 < piece) × (sink.room ≤ length sink.taken))

-- the state after a push with this result
abbrev pub sink_after_push : {E : Type 0} → MemSinkState → List ℕ → Result ℕ E → MemSinkState
sink_after_push sink piece result = record sink {
  taken = bytes_after sink.taken piece result;
  calls = one_more sink.calls;
  faults = faults_after sink.faults result;
}
