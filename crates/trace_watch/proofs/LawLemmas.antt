-- No text is without a thing that is said of it.
use Rattle.std.proofs.Common.{◌≡◌, Result, Ok, Err, refl}
use Rattle.cycle_trace.specs.Trace.{TraceText, streams_of}
use Rattle.cycle_trace.specs.TraceText.{trace_of}
use Rattle.cycle_trace.specs.declared.fault.TraceFault.{TraceFault}
use Rattle.trace_decode.proofs.SomeLemmas.{differ_or_same}
use Rattle.trace_watch.specs.Laws.{SomeWatching}
use Rattle.trace_watch.specs.Texts.{Misspelled, OtherHeader, Watched}
use Rattle.trace_watch.specs.Watched.{watched_of}

pub some_watching : SomeWatching
some_watching watch bytes none = by_read (trace_of bytes) refl
  where
    by_read : (read : Result TraceText TraceFault) → trace_of bytes ≡ read → ⊥
    by_read (Err fault) is = none (Misspelled fault) is
    by_read (Ok t) is =
        differ_or_same t.heads watch.heads (λ place differ. none (OtherHeader place) (t, (is, differ)))
        (λ same. none (Watched (watched_of watch (streams_of t))) (t, (is, (same, refl))))
