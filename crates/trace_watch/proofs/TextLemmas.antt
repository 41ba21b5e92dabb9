-- The answer for a text that a watcher was fed.
use Rattle.std.proofs.Common.{◌≡◌, ℕ, List, Option, Some, None, IfSome, Result, Ok, Err, MatchOption}
use Rattle.std.specs.Option.{option_map}
use Rattle.cycle_trace.specs.Beginnings.{IsFault}
use Rattle.cycle_trace.specs.Faults.{fault_in}
use Rattle.cycle_trace.specs.Trace.{TraceText}
use Rattle.cycle_trace.specs.TraceText.{trace_of}
use Rattle.cycle_trace.specs.declared.fault.TraceFault.{TraceFault}
use Rattle.watch_text.specs.Statements.{PlainWatch}
use Rattle.trace_watch.specs.Texts.{IsWatchedText, IsWatchedTrace, IsWatching, Misspelled}
use Rattle.trace_watch.specs.declared.fault.WatchTraceFault.{WatchTraceFault}
use Rattle.trace_watch.specs.declared.fault.WatchTraceFault.TheVariants as faults
use Rattle.trace_watch.specs.declared.watched.StreamWatched.{StreamWatched}

-- the error of a text
pub misspelled : (watch : PlainWatch) (bytes : List ℕ) (fault : TraceFault) → IsFault (trace_of bytes) fault → IfSome (option_map Misspelled (fault_in fault)) (IsWatching watch bytes)
misspelled watch bytes fault is = by_fault (fault_in fault) is
  where
    by_fault : (told : Option TraceFault) → MatchOption told (Unit {0}) (λ f. trace_of bytes ≡ Err f) → IfSome (option_map Misspelled told) (IsWatching watch bytes)
    by_fault None h = tt
    by_fault (Some f) h = h

-- what is said of the trace that a text spells
pub spelled : (watch : PlainWatch) (bytes : List ℕ) (t : TraceText) (result : Result (List StreamWatched) WatchTraceFault) → trace_of bytes ≡ Ok t → IsWatchedTrace watch t result
    → IsWatchedText watch bytes result
spelled watch bytes t (Ok found) read is = (t, (read, is))
spelled watch bytes t (Err (faults.Misspelled fault)) read is = absurd is
spelled watch bytes t (Err (faults.OtherHeader place)) read is = (t, (read, is))
spelled watch bytes t (Err faults.Memory) read is = tt
