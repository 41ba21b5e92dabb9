-- The words of a value change dump that have a meaning, and states (IEEE 1364, value change dump files; IEEE 1164 for the states that
-- VHDL simulators write).
use Rattle.std.specs.Prelude.{ℕ, ◌-◌, Bool, true, false, ◌==◌, ◌&&◌, ◌||◌, nat_lt, if◌then◌else◌, List, [], ◌∷◌, ◌++◌, length, take, drop, replicate}
use Rattle.std.specs.Prelude.{slice_index, Option, Some, None, codes}
use Rattle.std.specs.Str.{bytes_eq}
use Rattle.vcd_read.specs.declared.keyword.Keyword.{Keyword}
use Rattle.vcd_read.specs.declared.keyword.Keyword.TheVariants as keywords
use Rattle.vcd_read.specs.declared.mark.Mark.{Mark}
use Rattle.vcd_read.specs.declared.mark.Mark.TheVariants as marks
use Rattle.vcd_read.specs.declared.state.State.{State}
use Rattle.vcd_read.specs.declared.state.State.TheVariants as states

-- ---- keywords

-- a section that is skipped begins so
abbrev pub is_section : List ℕ → Bool
is_section word = bytes_eq word (codes "$comment") || bytes_eq word (codes "$date") || bytes_eq word (codes "$version") || bytes_eq word (codes "$timescale")

-- a word before the values of a dump, which means nothing here
abbrev pub is_dump : List ℕ → Bool
is_dump word = bytes_eq word (codes "$dumpvars") || bytes_eq word (codes "$dumpall") || bytes_eq word (codes "$dumpon") || bytes_eq word (codes "$dumpoff")

-- the keyword that a word is
unfoldable pub keyword_of : List ℕ → Keyword
keyword_of word =
    if bytes_eq word (codes "$end") then keywords.End
    else (if bytes_eq word (codes "$var") then keywords.Var
    else (if bytes_eq word (codes "$scope") then keywords.Scope
    else (if bytes_eq word (codes "$upscope") then keywords.Upscope
    else (if bytes_eq word (codes "$enddefinitions") then keywords.EndDefinitions
    else (if is_section word then keywords.Section
    else (if is_dump word then keywords.Dump
    else keywords.Other))))))

abbrev pub is_end : List ℕ → Bool
is_end word = bytes_eq word (codes "$end")

-- ---- states

-- the letters of each state, in either case: those of IEEE 1364, and beside them U, W and - for unknown, L for low, H for high
abbrev pub is_low : ℕ → Bool
is_low byte = byte == 48 || byte == 108 || byte == 76

abbrev pub is_high : ℕ → Bool
is_high byte = byte == 49 || byte == 104 || byte == 72

abbrev pub is_unknown : ℕ → Bool
is_unknown byte = byte == 120 || byte == 88 || byte == 117 || byte == 85 || byte == 119 || byte == 87 || byte == 45

abbrev pub is_floating : ℕ → Bool
is_floating byte = byte == 122 || byte == 90

-- the state that a letter stands for
unfoldable pub state_of : ℕ → Option State
state_of byte =
    if is_low byte then Some states.Low
    else (if is_high byte then Some states.High
    else (if is_unknown byte then Some states.Unknown
    else (if is_floating byte then Some states.Floating
    else None)))

-- a state, and those that follow it
unfoldable pub onto_states : Option State → Option (List State) → Option (List State)
onto_states (Some state) (Some states) = Some (state ∷ states)
onto_states (Some state) None = None
onto_states None states = None

-- the states that letters stand for, the highest first
abbrev pub states_of : List ℕ → Option (List State)
states_of [] = Some []
states_of (byte ∷ bytes) = onto_states (state_of byte) (states_of bytes)

-- a vector that is too short is filled with this at its left: 0, or its first state where that is unknown or floating
abbrev pub filling : List State → State
filling [] = states.Low
filling (states.Low ∷ more) = states.Low
filling (states.High ∷ more) = states.Low
filling (states.Unknown ∷ more) = states.Unknown
filling (states.Floating ∷ more) = states.Floating

-- the states of a vector of this width
abbrev pub filled : ℕ → List State → List State
filled width states = replicate (width - length states) (filling states) ++ states

-- the bit of a state
unfoldable pub bit_of : State → Option Bool
bit_of states.Low = Some false
bit_of states.High = Some true
bit_of states.Unknown = None
bit_of states.Floating = None

-- a word with a bit above it
unfoldable pub under : Option Bool → Option (List Bool) → Option (List Bool)
under (Some bit) (Some bits) = Some (bits ++ bit ∷ [])
under (Some bit) None = None
under None bits = None

-- the word of states, the highest first: none where one of them is unknown or floating
abbrev pub word_of : List State → Option (List Bool)
word_of [] = Some []
word_of (state ∷ states) = under (bit_of state) (word_of states)

-- ---- what a token among the changes begins with

unfoldable pub mark_of_state : Option State → Mark
mark_of_state (Some state) = marks.Scalar state
mark_of_state None = marks.Nothing

-- `#` begins a time stamp, a state a scalar change, `b` a vector, `r` or `s` a part that is skipped, and `$` a keyword
unfoldable pub mark_of : ℕ → Mark
mark_of byte =
    if byte == 35 then marks.Stamp
    else (if byte == 98 || byte == 66 then marks.Vector
    else (if byte == 36 then marks.Command
    else (if byte == 114 || byte == 115 then marks.Skipped
    else mark_of_state (state_of byte))))

-- ---- names

-- the last byte is this
abbrev pub ends_in : ℕ → List ℕ → Bool
ends_in mark text = nat_lt 0 (length text) && slice_index text (length text - 1) == mark

-- a byte before what stands before a mark; the mark itself stands before nothing
unfoldable pub before_mark : ℕ → ℕ → Option (List ℕ) → Option (List ℕ)
before_mark mark byte (Some front) = Some (byte ∷ front)
before_mark mark byte None = if byte == mark then Some [] else None

-- what stands before the last of these marks
abbrev pub before_last : ℕ → List ℕ → Option (List ℕ)
before_last mark [] = None
before_last mark (byte ∷ bytes) = before_mark mark byte (before_last mark bytes)

unfoldable pub or_whole : Option (List ℕ) → List ℕ → List ℕ
or_whole (Some front) text = front
or_whole None text = text

-- a name without the range that it ends in
unfoldable pub without_range : List ℕ → List ℕ
without_range name = if ends_in 93 name then or_whole (before_last 91 name) name else name

-- a token that is a range
abbrev pub is_range : List ℕ → Bool
is_range token = slice_index token 0 == 91 && ends_in 93 token

unfoldable pub without_last : List ℕ → List ℕ
without_last text = if ends_in 92 text then take (length text - 1) text else text

-- a name without the backslash before it and the one after it. Icarus Verilog writes an escaped name with the first of them alone.
unfoldable pub bare_name : List ℕ → List ℕ
bare_name name = if slice_index name 0 == 92 then without_last (drop 1 name) else name
