-- The lines of a process and the statements that they spell (this project's own; the statements are those of IEEE 1076).
use Rattle.std.specs.Prelude.{ℕ, suc, Bool, false, ◌==◌, ◌&&◌, ◌||◌, nat_le, nat_lt, nat_eq, if◌then◌else◌, List, [], ◌∷◌, length, map, drop, slice_get, Option, Some, None, option_map, option_and_then, Result, Ok, Err, codes}
use Rattle.std.specs.List.{list_all, list_any, starts_with}
use Rattle.std.specs.Option.{option_map_or}
use Rattle.std.specs.Str.{bytes_eq}
use Rattle.tydi_base.specs.Binary.{binary_word_at, is_binary_digit}
use Rattle.tydi_base.specs.Path.{path_text}
use Rattle.tydi_base.specs.Pieces.{pieces_of}
use Rattle.tydi_reading.specs.declared.fault.Fault.{Fault}
use Rattle.tydi_reading.specs.declared.fault.Fault.TheVariants as faults
use Rattle.tydi_reading.specs.Tables.{entry_of}
use Rattle.physical_stream.specs.StreamLine.{header_number}
use Rattle.physical_stream.specs.declared.head.Head.{Head}
use Rattle.signal_layout.specs.Layout.{width_of}
use Rattle.signal_layout.specs.declared.signal.Signal.{Signal}
use Rattle.signal_layout.specs.declared.signal.Signal.TheVariants as signals
use Rattle.vhdl_text.specs.declared.bench.Stmt.{Stmt}
use Rattle.vhdl_text.specs.declared.bench.Stmt.TheVariants as stmts
use Rattle.vhdl_text.specs.declared.place.Place.{Place}
use Rattle.vhdl_text.specs.declared.refusal.Refusal.{Refusal}
use Rattle.vhdl_text.specs.declared.refusal.Refusal.TheVariants.{UnknownSignal, SecondDriver}
use Rattle.vhdl_text.specs.Text.{quote_of, signal_word}
use Rattle.vhdl_text.specs.WellFormed.{drives, is_signal}

-- ---- cuts

-- the parts before the last byte of a kind, and after it
pub record Cut : Type 0 where
  pub front : List ℕ
  pub back : List ℕ

-- a byte before a text that is cut, or is not
abbrev pub cut_after : ℕ → ℕ → List ℕ → Option Cut → Option Cut
cut_after mark byte text (Some cut) = Some (record { front = byte ∷ cut.front; back = cut.back })
cut_after mark byte text None = if byte == mark then Some (record { front = []; back = text }) else None

-- a text around the last such byte: None where it has none
abbrev pub cut_last : ℕ → List ℕ → Option Cut
cut_last mark [] = None
cut_last mark (byte ∷ text) = cut_after mark byte text (cut_last mark text)

-- the parts before two bytes of a kind, between them, and after them
pub record Between : Type 0 where
  pub front : List ℕ
  pub inside : List ℕ
  pub back : List ℕ

-- three pieces
abbrev pub three : List (List ℕ) → Option Between
three (front ∷ inside ∷ back ∷ []) = Some (record { front = front; inside = inside; back = back })
three pieces = None

-- a text around its two such bytes: None where it has fewer or more
unfoldable pub between : ℕ → List ℕ → Option Between
between mark text = three (pieces_of mark text)

-- ---- names

abbrev pub all_signals : List Signal
all_signals = signals.Valid ∷ signals.Ready ∷ signals.Content ∷ signals.Last ∷ signals.Stai ∷ signals.Endi ∷ signals.Strb ∷ signals.User ∷ []

-- the signal that a word is for
unfoldable pub signal_of_word : List ℕ → Option Signal
signal_of_word word = entry_of signal_word all_signals word

-- the paths of streams, as texts
abbrev pub paths_of : List Head → List (List ℕ)
paths_of heads = map (λ head. path_text head.path) heads

-- the place of the first text that is this one, counted from 0
abbrev pub number_of : List (List ℕ) → List ℕ → Option ℕ
number_of [] text = None
number_of (first ∷ texts) text = if bytes_eq text first then Some 0 else option_map suc (number_of texts text)

-- the place of this stream and this signal, where both are there
abbrev pub place_at : Option ℕ → Option Signal → Option Place
place_at (Some stream) (Some signal) = Some (record { stream = stream; signal = signal })
place_at stream signal = None

-- the signal that a cut name is the name of: a path of a stream stands before its last point, and the word for a signal after it
abbrev pub place_in : List (List ℕ) → Option Cut → Option Place
place_in paths None = None
place_in paths (Some cut) = place_at (number_of paths cut.front) (signal_of_word cut.back)

-- the signal of a stream that a name is the name of, whether the stream has it or not
unfoldable pub place_of : List (List ℕ) → List ℕ → Option Place
place_of paths name = place_in paths (cut_last 46 name)

-- the width of a signal that a bench assigns to: valid, or a payload signal that the stream has
unfoldable pub put_width : List Head → Place → Option ℕ
put_width heads place = if is_signal place.signal signals.Ready then None else option_and_then (λ head. width_of head.params place.signal) (slice_get heads place.stream)

-- ---- constants

-- the digits of a constant between two such marks, with the assignment before it and the end of the statement after it
abbrev pub digits_in : Option Between → Option (List ℕ)
digits_in None = None
digits_in (Some parts) = if bytes_eq parts.front (codes " <= ") && bytes_eq parts.back (codes ";") then Some parts.inside else None

unfoldable pub digits_of : ℕ → List ℕ → Option (List ℕ)
digits_of mark text = digits_in (between mark text)

-- the word of this width that a constant between such marks spells
unfoldable pub constant_at : ℕ → ℕ → List ℕ → Option (List Bool)
constant_at mark width text = option_and_then (binary_word_at width) (digits_of mark text)

-- one binary digit
abbrev pub is_bit : List ℕ → Bool
is_bit digits = list_all is_binary_digit digits && length digits == 1

-- binary digits, one at least
abbrev pub is_vector : List ℕ → Bool
is_vector digits = list_all is_binary_digit digits && nat_lt 0 (length digits)

-- an assignment of some constant: a bit in apostrophes, or a vector of at least one bit
unfoldable pub is_constant : List ℕ → Bool
is_constant text = option_map_or is_bit (digits_of 39 text) false || option_map_or is_vector (digits_of 34 text) false

-- ---- statements of one line with a name

-- a refusal; want of memory is none
abbrev pub refusal_in : Fault Refusal → Option (Fault Refusal)
refusal_in faults.Refused = Some faults.Refused
refusal_in (faults.Unfit why) = Some (faults.Unfit why)
refusal_in faults.Memory = None

-- an assignment to a name that is no port to assign to: it is refused for its name where its constant is one
abbrev pub no_port : List ℕ → Result Stmt (Fault Refusal)
no_port back = if is_constant back then Err (faults.Unfit UnknownSignal) else Err faults.Refused

-- an assignment of this word, after the processes before: none of these may assign to the signal
abbrev pub put_word : List (List Stmt) → Place → Option (List Bool) → Result Stmt (Fault Refusal)
put_word earlier place None = Err faults.Refused
put_word earlier place (Some bits) = if list_any (drives place.stream place.signal) earlier then Err (faults.Unfit SecondDriver) else Ok (stmts.Put place.stream place.signal bits)

-- an assignment to a signal of this width
abbrev pub put_at : List (List Stmt) → List ℕ → Place → Option ℕ → Result Stmt (Fault Refusal)
put_at earlier back place None = no_port back
put_at earlier back place (Some width) = put_word earlier place (constant_at (quote_of place.signal) width back)

-- an assignment to the signal of this place
abbrev pub put_in : List Head → List (List Stmt) → List ℕ → Option Place → Result Stmt (Fault Refusal)
put_in heads earlier back None = no_port back
put_in heads earlier back (Some place) = put_at earlier back place (put_width heads place)

-- an assignment to a name
unfoldable pub put_of : List Head → List (List Stmt) → List ℕ → List ℕ → Result Stmt (Fault Refusal)
put_of heads earlier name back = put_in heads earlier back (place_of (paths_of heads) name)

-- a wait for the signal of this place, which is to be ready
abbrev pub await_in : Option Place → Result Stmt (Fault Refusal)
await_in None = Err (faults.Unfit UnknownSignal)
await_in (Some place) = if is_signal place.signal signals.Ready then Ok (stmts.Await place.stream) else Err (faults.Unfit UnknownSignal)

-- a wait for a name
unfoldable pub await_of : List (List ℕ) → List ℕ → List ℕ → Result Stmt (Fault Refusal)
await_of paths name back = if bytes_eq back (codes " = '1';") then await_in (place_of paths name) else Err faults.Refused

-- a statement with a name: an assignment or a wait, by what stands before the name
abbrev pub stmt_in : List Head → List (List Stmt) → Option Between → Result Stmt (Fault Refusal)
stmt_in heads earlier None = Err faults.Refused
stmt_in heads earlier (Some parts) =
    if bytes_eq parts.front (codes "    ") then put_of heads earlier parts.inside parts.back
    else (if bytes_eq parts.front (codes "    wait until rising_edge(clk) and ") then await_of (paths_of heads) parts.inside parts.back else Err faults.Refused)

-- the statement that a line with a name spells, beside these streams and after these processes. A name stands between backslashes.
unfoldable pub stmt_of : List Head → List (List Stmt) → List ℕ → Result Stmt (Fault Refusal)
stmt_of heads earlier line = stmt_in heads earlier (between 92 line)

-- ---- pauses

-- a number of edges that a pause may have
abbrev pub edges_in : Result ℕ (Unit {0}) → Option ℕ
edges_in (Err e) = None
edges_in (Ok edges) = if nat_le 1 edges && nat_le edges 1000000 then Some edges else None

-- a number of edges, and the word after it
abbrev pub edges_before : List (List ℕ) → Option ℕ
edges_before (digits ∷ word ∷ []) = if bytes_eq word (codes "loop") then edges_in (header_number digits) else None
edges_before words = None

-- the number of edges of the pause of which this line is the first
unfoldable pub edges_of : List ℕ → Option ℕ
edges_of line = if starts_with nat_eq line (codes "    for i in 1 to ") then edges_before (pieces_of 32 (drop 18 line)) else None
