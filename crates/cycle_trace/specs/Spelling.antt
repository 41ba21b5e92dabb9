-- The text of a trace in each version (this project's own), and the laws that tie it to the reading.
use Rattle.std.specs.Prelude.{◌≡◌, ℕ, Bool, true, if◌then◌else◌, List, [], ◌∷◌, ◌++◌, Option, Some, None, Ok, is_some, codes, decimal, All}
use Rattle.std.specs.List.{flat_map}
use Rattle.tydi_base.specs.Bits.{bits_of}
use Rattle.tydi_base.specs.Hex.{hex_of}
use Rattle.physical_stream.specs.Params.{Parameters}
use Rattle.physical_stream.specs.StreamLine.{IsHead, LF, head_text, words_text}
use Rattle.physical_stream.specs.Signals.{has_content, has_last, has_stai, has_endi, has_strb, has_user}
use Rattle.physical_stream.specs.Cycles.{Cycle}
use Rattle.physical_stream.specs.declared.transfer.Transfer.{Transfer}
use Rattle.physical_stream.specs.declared.head.Head.{Head}
use Rattle.cycle_trace.specs.Version.{may_have, title_text}
use Rattle.cycle_trace.specs.declared.version.Version.{Version}
use Rattle.cycle_trace.specs.Trace.{TraceText, IsTrace, params_of_heads, owed}
use Rattle.cycle_trace.specs.TraceText.{trace_of}

-- the text of a header of this version, of so many cycles and of these heads
abbrev pub header_text : Version → ℕ → List Head → List ℕ
header_text version cycles heads = title_text version ++ (LF ∷ (codes "cycles " ++ (decimal cycles ++ (LF ∷ flat_map head_text heads))))

-- a signal: its key, `=` and its value, where the stream has it
abbrev pub signal_words : Bool → ℕ → List ℕ → List (List ℕ)
signal_words present key value = if present then (key ∷ 61 ∷ value) ∷ [] else []

-- the signals that a stream has, in their order, with these strobe bits
abbrev pub words_of_signals : Parameters → Transfer → List Bool → List (List ℕ)
words_of_signals p t strb =
    signal_words (has_content p) 100 (hex_of t.content) ++ signal_words (has_last p) 108 (hex_of t.last) ++ signal_words (has_stai p) 115 (decimal t.stai)
    ++ signal_words (has_endi p) 101 (decimal t.endi) ++ signal_words (has_strb p) 98 (hex_of strb) ++ signal_words (has_user p) 117 (hex_of t.user)

-- the signals that a stream has of a transfer
abbrev pub transfer_words : Parameters → Transfer → List (List ℕ)
transfer_words p t = words_of_signals p t (bits_of p.lanes t.strb)

-- `-` where there is no word
abbrev pub or_dash : List (List ℕ) → List (List ℕ)
or_dash [] = codes "-" ∷ []
or_dash (word ∷ words) = word ∷ words

-- the words of what a cycle shows
abbrev pub payload_words : Parameters → Option Transfer → List (List ℕ)
payload_words p None = codes "-" ∷ []
payload_words p (Some t) = or_dash (transfer_words p t)

abbrev pub bit_text : Bool → List ℕ
bit_text bit = if bit then codes "1" else codes "0"

-- the line of a row
abbrev pub row_line : Parameters → Cycle → List ℕ
row_line p cycle = words_text (bit_text (is_some cycle.shown) ∷ bit_text cycle.ready ∷ payload_words p cycle.shown)

abbrev pub row_text : Parameters → Cycle → List ℕ
row_text p cycle = row_line p cycle ++ LF ∷ []

-- the rows of these streams, one row for each
abbrev pub rows_text : List Parameters → List Cycle → List ℕ
rows_text (p ∷ streams) (cycle ∷ cycles) = row_text p cycle ++ rows_text streams cycles
rows_text streams cycles = []

-- the text of a trace in this version
abbrev pub trace_text : Version → TraceText → List ℕ
trace_text version t = header_text version t.cycles t.heads ++ rows_text (owed (params_of_heads t.heads) t.cycles) t.rows

-- a text of a trace, in a version that can state its levels, is read as that trace: the second version can state any trace, the
-- first one a trace each of whose levels has one number
abbrev pub TracesAreReadAsSpelled : Type 0
TracesAreReadAsSpelled = (version : Version) (t : TraceText) → IsTrace t → All IsHead t.heads → may_have version t.heads ≡ true → trace_of (trace_text version t) ≡ Ok t

-- a text is the one text of a trace in one of the versions, which its levels may stand in
pub record IsTextOf (text : List ℕ) (t : TraceText) : Type 0 where
  pub version : Version
  pub fits : may_have version t.heads ≡ true
  pub spelled : text ≡ trace_text version t

-- a text that is read as a trace is a text of it
abbrev pub TracesAreSpelledAsRead : Type 0
TracesAreSpelledAsRead = (text : List ℕ) (t : TraceText) → trace_of text ≡ Ok t → IsTrace t × IsTextOf text t × All IsHead t.heads
