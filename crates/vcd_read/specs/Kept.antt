-- The text of a trace, as it is kept: its rows, up to the longest text that is written (this project's own).
use Rattle.std.specs.Prelude.{◌≡◌, ◌<◌, ◌≤◌, ℕ, Bool, true, false, nat_lt, if◌then◌else◌, List, ◌++◌, length, Option, Some, None, option_map, Result, Ok, Err}
use Rattle.cycle_trace.specs.Spelling.{trace_text}
use Rattle.cycle_trace.specs.Trace.{TraceText}
use Rattle.cycle_trace.specs.Version.{version_of}
use Rattle.vcd_read.specs.declared.dump_text.DumpText.{DumpText}
use Rattle.vcd_read.specs.declared.fault.VcdFault.{VcdFault}
use Rattle.vcd_read.specs.declared.kept_rows.KeptRows.{KeptRows}

-- the longest text: 64 MiB
abbrev pub most_kept : ℕ
most_kept = 67108864

-- the text is kept, or it is too long
abbrev pub IsKeptBy : (over : Bool) → (kept text : List ℕ) → Type 0
IsKeptBy true kept text = most_kept < length text
IsKeptBy false kept text = (kept ≡ text) × (length text ≤ most_kept)

abbrev pub IsKept : KeptRows → List ℕ → Type 0
IsKept rows text = IsKeptBy rows.over rows.text text

-- a text that is not too long
abbrev pub if_kept : List ℕ → Option (List ℕ)
if_kept text = if nat_lt most_kept (length text) then None else Some text

-- the bytes of a text of two parts
abbrev pub bytes_of : DumpText → List ℕ
bytes_of text = text.header ++ text.rows

abbrev pub kept_bytes : Option DumpText → Option (List ℕ)
kept_bytes text = option_map bytes_of text

-- the text of a trace, where it is not too long
unfoldable pub kept_text : Result TraceText VcdFault → Result (Option (List ℕ)) VcdFault
kept_text (Ok trace) = Ok (if_kept (trace_text (version_of trace.heads) trace))
kept_text (Err fault) = Err fault
