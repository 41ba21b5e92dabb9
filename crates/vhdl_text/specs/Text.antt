-- The text of a bench, in VHDL (the statements are those of IEEE 1076; the few forms of them are this project's own). A signal has an extended
-- identifier as its name: the path of its stream, a point and the signal, between backslashes.
use Rattle.std.specs.Prelude.{ℕ, ◌-◌, Bool, List, [], ◌∷◌, ◌++◌, slice_get, Option, Some, None, codes, decimal}
use Rattle.std.specs.List.{flat_map}
use Rattle.tydi_base.specs.Binary.{binary_of}
use Rattle.tydi_base.specs.Path.{path_text}
use Rattle.physical_stream.specs.StreamLine.{head_text}
use Rattle.physical_stream.specs.declared.head.Head.{Head}
use Rattle.signal_layout.specs.Layout.{width_of}
use Rattle.signal_layout.specs.declared.signal.Signal.{Signal}
use Rattle.signal_layout.specs.declared.signal.Signal.TheVariants as signals
use Rattle.vhdl_text.specs.declared.bench.Stmt.{Stmt}
use Rattle.vhdl_text.specs.declared.bench.Stmt.TheVariants as stmts
use Rattle.vhdl_text.specs.declared.bench.Bench.{Bench}

-- one text after another, from the right: so it is written
infixr 6 ◌⁀◌
abbrev pub ◌⁀◌ : List ℕ → List ℕ → List ℕ
one ⁀ other = one ++ other

-- ---- names

-- the word for a signal
abbrev pub signal_word : Signal → List ℕ
signal_word signals.Valid = codes "valid"
signal_word signals.Ready = codes "ready"
signal_word signals.Content = codes "data"
signal_word signals.Last = codes "last"
signal_word signals.Stai = codes "stai"
signal_word signals.Endi = codes "endi"
signal_word signals.Strb = codes "strb"
signal_word signals.User = codes "user"

-- the name of a signal of a stream, without its backslashes
abbrev pub plain_name : Head → Signal → List ℕ
plain_name head signal = path_text head.path ⁀ codes "." ⁀ signal_word signal

-- the extended identifier of a signal of a stream
abbrev pub name_text : Head → Signal → List ℕ
name_text head signal = codes "\\" ⁀ plain_name head signal ⁀ codes "\\"

-- ---- ports

-- a payload signal of this width is an output, a vector that begins as zeros; nothing where the stream lacks it
abbrev pub vector_port : Head → Signal → Option ℕ → List ℕ
vector_port head signal None = []
vector_port head signal (Some width) = codes ";\n    " ⁀ name_text head signal ⁀ codes " : out std_logic_vector(" ⁀ decimal (width - 1) ⁀ codes " downto 0) := (others => '0')"

-- the ports of a stream that has such widths, each after the end of the port before it: ready, valid and then the payload signals
abbrev pub ports_of : Head → (Signal → Option ℕ) → List ℕ
ports_of head width =
    codes ";\n    " ⁀ name_text head signals.Ready ⁀ codes " : in std_logic;\n    " ⁀ name_text head signals.Valid ⁀ codes " : out std_logic := '0'"
    ⁀ vector_port head signals.Content (width signals.Content) ⁀ vector_port head signals.Last (width signals.Last) ⁀ vector_port head signals.Stai (width signals.Stai)
    ⁀ vector_port head signals.Endi (width signals.Endi) ⁀ vector_port head signals.Strb (width signals.Strb) ⁀ vector_port head signals.User (width signals.User)

-- the ports of a stream
unfoldable pub stream_ports : Head → List ℕ
stream_ports head = ports_of head (width_of head.params)

-- the lines between those of the streams and those of the processes: the entity, and the begin of its architecture. The last of them has no LF
abbrev pub frame_text : List Head → List ℕ
frame_text heads =
    codes "library ieee;\nuse ieee.std_logic_1164.all;\nentity bench is\n  port (\n    clk : in std_logic" ⁀ flat_map stream_ports heads
    ⁀ codes "\n  );\nend entity;\narchitecture drive of bench is\nbegin"

-- ---- statements

-- the mark around a constant: one bit stands in apostrophes, a vector in quotation marks
abbrev pub quote_of : Signal → ℕ
quote_of signals.Valid = 39
quote_of signals.Ready = 39
quote_of signals.Content = 34
quote_of signals.Last = 34
quote_of signals.Stai = 34
quote_of signals.Endi = 34
quote_of signals.Strb = 34
quote_of signals.User = 34

-- a constant for a signal, the highest bit first
abbrev pub constant_text : Signal → List Bool → List ℕ
constant_text signal bits = (quote_of signal ∷ []) ⁀ binary_of bits ⁀ quote_of signal ∷ []

-- the line that assigns a word to a signal
abbrev pub put_line : Head → Signal → List Bool → List ℕ
put_line head signal bits = codes "    " ⁀ name_text head signal ⁀ codes " <= " ⁀ constant_text signal bits ⁀ codes ";"

-- the line that waits for the ready bit of a stream
abbrev pub await_line : Head → List ℕ
await_line head = codes "    wait until rising_edge(clk) and " ⁀ name_text head signals.Ready ⁀ codes " = '1';"

-- the first line of a pause of so many edges
abbrev pub pause_line : ℕ → List ℕ
pause_line edges = codes "    for i in 1 to " ⁀ decimal edges ⁀ codes " loop"

-- an assignment to a signal of the stream of this head; nothing where there is none
abbrev pub put_text : Option Head → Signal → List Bool → List ℕ
put_text None signal bits = []
put_text (Some head) signal bits = put_line head signal bits ⁀ codes "\n"

-- a wait for the stream of this head; nothing where there is none
abbrev pub await_text : Option Head → List ℕ
await_text None = []
await_text (Some head) = await_line head ⁀ codes "\n"

-- the lines of a statement
abbrev pub stmt_text : List Head → Stmt → List ℕ
stmt_text heads (stmts.Put stream signal bits) = put_text (slice_get heads stream) signal bits
stmt_text heads (stmts.Pause edges) = pause_line edges ⁀ codes "\n      wait until rising_edge(clk);\n    end loop;\n"
stmt_text heads (stmts.Await stream) = await_text (slice_get heads stream)
stmt_text heads stmts.Stop = codes "    wait;\n"

-- the lines of a process
unfoldable pub process_text : List Head → List Stmt → List ℕ
process_text heads process = codes "  process\n  begin\n" ⁀ flat_map (stmt_text heads) process ⁀ codes "  end process;\n"

-- ---- benches

-- a stream, as a comment: two hyphens and its line
abbrev pub stream_comment : Head → List ℕ
stream_comment head = codes "-- " ⁀ head_text head

-- the text of a bench
abbrev pub bench_text : Bench → List ℕ
bench_text bench =
    codes "-- tydi-bench 1\n" ⁀ flat_map stream_comment bench.heads ⁀ frame_text bench.heads ⁀ codes "\n" ⁀ flat_map (process_text bench.heads) bench.procs ⁀ codes "end architecture;\n"
