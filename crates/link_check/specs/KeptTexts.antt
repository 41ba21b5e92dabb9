-- The text of a trace, kept as its rows come, up to the longest text that is written. This project's own.
use Rattle.std.specs.Prelude.{◌≡◌, ◌<◌, ◌≤◌, ℕ, Bool, true, false, List, length, nat_lt, Option, Some, None, if◌then◌else◌}
use Rattle.cycle_trace.specs.Spelling.{trace_text}
use Rattle.cycle_trace.specs.Surveying.{IsNextRow}
use Rattle.cycle_trace.specs.Trace.{TraceText}
use Rattle.cycle_trace.specs.Version.{version_of}
use Rattle.link_check.specs.declared.kept_text.KeptText.{KeptText}

-- the longest text that is kept: 64 MiB
abbrev pub most_kept : ℕ
most_kept = 67108864

-- the text of a header and the rows so far, in the version that its levels ask for
abbrev pub text_so_far : TraceText → List ℕ
text_so_far t = trace_text (version_of t.heads) t

-- the text is kept, or it is too long
abbrev pub IsKept : (over : Bool) → (kept text : List ℕ) → Type 0
IsKept true kept text = most_kept < length text
IsKept false kept text = (kept ≡ text) × (length text ≤ most_kept)

-- a kept text is that of a header and the rows so far, and knows the stream of the next row
pub record TextStands (kept : KeptText) (t : TraceText) : Type 0 where
  pub heads : kept.heads ≡ t.heads
  pub cycle : ℕ
  pub next : IsNextRow t cycle kept.stream
  pub text : IsKept kept.over kept.text (text_so_far t)

-- before its header has come, nothing is asked of it
abbrev pub KeptTextStands : KeptText → Option TraceText → Type 0
KeptTextStands kept None = Unit {0}
KeptTextStands kept (Some t) = TextStands kept t

-- a text that is at most so long
abbrev pub if_kept : List ℕ → Option (List ℕ)
if_kept text = if nat_lt most_kept (length text) then None else Some text
