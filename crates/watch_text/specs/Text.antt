-- The text of a monitor, in VHDL (the statements are those of IEEE 1076; the few forms of them are this project's own). Names of signals are those
-- of benches: extended identifiers of the path of the stream, a point and a word.
use Rattle.std.specs.Prelude.{ℕ, zero, suc, ◌+◌, ◌-◌, max, Bool, nat_le, if◌then◌else◌, List, [], ◌∷◌, ◌++◌, length, replicate, Option, Some, None, codes, decimal}
use Rattle.std.specs.List.{flat_map}
use Rattle.tydi_base.specs.Binary.{binary_of}
use Rattle.tydi_base.specs.Bits.{bits_of}
use Rattle.tydi_base.specs.Path.{path_text}
use Rattle.physical_stream.specs.Params.{Parameters}
use Rattle.physical_stream.specs.Signals.{has_endi, has_stai, has_strb}
use Rattle.physical_stream.specs.declared.head.Head.{Head}
use Rattle.physical_stream.specs.declared.item.Item.{Item}
use Rattle.physical_stream.specs.declared.item.Item.TheVariants as items
use Rattle.signal_layout.specs.Layout.{width_of}
use Rattle.signal_layout.specs.declared.signal.Signal.{Signal}
use Rattle.signal_layout.specs.declared.signal.Signal.TheVariants as signals
use Rattle.vhdl_text.specs.Text.{◌⁀◌, name_text, stream_comment}
use Rattle.watch_text.specs.Statements.{PlainWatch, Statement, Statements, dims, if_active, if_last, lanes, need_close, need_elem, no_statements, statement}

-- ---- names

-- an extended identifier of this word beside a stream, which is the name of no signal of its
abbrev pub own_name : Head → List ℕ → List ℕ
own_name head word = codes "\\" ⁀ path_text head.path ⁀ codes "." ⁀ word ⁀ codes "\\"

-- the type of the table of expected items, the table, and the output that is raised
abbrev pub items_name : Head → List ℕ
items_name head = own_name head (codes "items")

abbrev pub want_name : Head → List ℕ
want_name head = own_name head (codes "want")

abbrev pub fault_name : Head → List ℕ
fault_name head = own_name head (codes "fault")

-- ---- ports

-- a signal of this width is an input, a vector; nothing where the stream lacks it
abbrev pub vector_input : Head → Signal → Option ℕ → List ℕ
vector_input head signal None = []
vector_input head signal (Some width) = codes ";\n    " ⁀ name_text head signal ⁀ codes " : in std_logic_vector(" ⁀ decimal (width - 1) ⁀ codes " downto 0)"

-- the ports of a stream that has such widths, each after the end of the port before it: the inputs, among which is no user signal, and the fault
abbrev pub inputs_of : Head → (Signal → Option ℕ) → List ℕ
inputs_of head width =
    codes ";\n    " ⁀ name_text head signals.Ready ⁀ codes " : in std_logic;\n    " ⁀ name_text head signals.Valid ⁀ codes " : in std_logic"
    ⁀ vector_input head signals.Content (width signals.Content) ⁀ vector_input head signals.Last (width signals.Last) ⁀ vector_input head signals.Stai (width signals.Stai)
    ⁀ vector_input head signals.Endi (width signals.Endi) ⁀ vector_input head signals.Strb (width signals.Strb)
    ⁀ codes ";\n    " ⁀ fault_name head ⁀ codes " : out std_logic := '0'"

-- the ports of a stream
unfoldable pub stream_inputs : Head → List ℕ
stream_inputs head = inputs_of head (width_of head.params)

-- the lines after those of the streams, up to the begin of the architecture. The last of them has no LF
abbrev pub entity_text : List Head → List ℕ
entity_text heads =
    codes "library ieee;\nuse ieee.std_logic_1164.all;\nuse ieee.numeric_std.all;\nentity watch is\n  port (\n    clk : in std_logic" ⁀ flat_map stream_inputs heads
    ⁀ codes "\n  );\nend entity;\narchitecture check of watch is"

-- ---- tables

-- the bits of a table's words behind their first two: as wide as an element, and six at least
abbrev pub item_width : Parameters → ℕ
item_width p = max p.element 6

-- so many zeros
abbrev pub zeros : ℕ → List ℕ
zeros count = replicate count 48

-- the digits of an item, the highest first: a one and a zero before an element, a zero and a one before the dimension of a Close
abbrev pub item_digits : Parameters → Item → List ℕ
item_digits p (items.Elem word) = codes "10" ⁀ zeros (item_width p - p.element) ⁀ binary_of word
item_digits p (items.Close dim) = codes "01" ⁀ zeros (item_width p - 6) ⁀ binary_of (bits_of 6 dim)

-- the digits of the end of a table
abbrev pub end_digits : Parameters → List ℕ
end_digits p = zeros (item_width p + 2)

-- the front of the line of the entry of this number
abbrev pub entry_front : ℕ → List ℕ
entry_front number = codes "    " ⁀ decimal number ⁀ codes " => \""

-- the line of the item of this number
abbrev pub item_line : Parameters → ℕ → Item → List ℕ
item_line p number item = entry_front number ⁀ item_digits p item ⁀ codes "\","

-- the lines of these items, the first of which has this number
abbrev pub item_lines : Parameters → ℕ → List Item → List ℕ
item_lines p number [] = []
item_lines p number (item ∷ more) = item_line p number item ⁀ codes "\n" ⁀ item_lines p (suc number) more

-- the line of the end of a table, which has this number
abbrev pub end_line : Parameters → ℕ → List ℕ
end_line p number = entry_front number ⁀ end_digits p ⁀ codes "\""

-- the line of the type of a table whose end has this number
abbrev pub type_line : Head → ℕ → List ℕ
type_line head last =
    codes "  type " ⁀ items_name head ⁀ codes " is array (0 to " ⁀ decimal last ⁀ codes ") of std_logic_vector(" ⁀ decimal (item_width head.params + 1) ⁀ codes " downto 0);"

-- the line before the entries of a table
abbrev pub table_line : Head → List ℕ
table_line head = codes "  constant " ⁀ want_name head ⁀ codes " : " ⁀ items_name head ⁀ codes " := ("

-- the lines before the entries of a table whose end has this number
abbrev pub table_front : Head → ℕ → List ℕ
table_front head last = type_line head last ⁀ codes "\n" ⁀ table_line head ⁀ codes "\n"

-- the lines after the items of a table, whose end has this number
abbrev pub table_back : Head → ℕ → List ℕ
table_back head last = end_line head.params last ⁀ codes "\n  );\n"

-- the lines of the table of a stream
abbrev pub table_text : Head → List Item → List ℕ
table_text head want = table_front head (length want) ⁀ item_lines head.params 0 want ⁀ table_back head (length want)

-- the lines of the tables of these streams
abbrev pub tables_text : List Head → List (List Item) → List ℕ
tables_text [] want = []
tables_text (head ∷ heads) [] = []
tables_text (head ∷ heads) (first ∷ want) = table_text head first ⁀ tables_text heads want

-- ---- statements

-- a line that is so far to the right
abbrev pub line : ℕ → List ℕ → List ℕ
line indent text = replicate indent 32 ⁀ text ⁀ codes "\n"

-- tests, with ` and ` between each two: there is one at least
abbrev pub joined : List (List ℕ) → List ℕ
joined [] = codes "true"
joined (first ∷ more) = first ⁀ flat_map (λ test. codes " and " ⁀ test) more

-- a test where the stream has the signal
abbrev pub where_has : Bool → List ℕ → List (List ℕ)
where_has has test = if has then test ∷ [] else []

-- the lane is not below the first one that may be active
abbrev pub stai_test : Head → List ℕ
stai_test head = codes "to_integer(unsigned(" ⁀ name_text head signals.Stai ⁀ codes ")) <= lane"

-- the lane is not above the last one that may be active
abbrev pub endi_test : Head → List ℕ
endi_test head = codes "lane <= to_integer(unsigned(" ⁀ name_text head signals.Endi ⁀ codes "))"

-- the strobe bit of the lane is 1
abbrev pub strb_test : Head → List ℕ
strb_test head = name_text head signals.Strb ⁀ codes "(lane) = '1'"

-- a lane is active, as far as the stream has these signals
abbrev pub active_test : Head → List ℕ
active_test head = joined
    (where_has (has_stai head.params) (stai_test head) ++ (where_has (has_endi head.params) (endi_test head) ++ where_has (has_strb head.params) (strb_test head)))

-- the last bit of the lane and the dimension is 1
abbrev pub last_test : Head → List ℕ
last_test head = name_text head signals.Last ⁀ codes "(lane * " ⁀ decimal head.params.dims ⁀ codes " + dim) = '1'"

-- the bits of the lane in the data signal of a stream with elements
abbrev pub lane_slice : Head → List ℕ
lane_slice head =
    let width = head.params.element in
    name_text head signals.Content ⁀ codes "(lane * " ⁀ decimal width ⁀ codes " + " ⁀ decimal (width - 1) ⁀ codes " downto lane * " ⁀ decimal width ⁀ codes ")"

-- the word of the element of the lane, as an expression: by the width of an element
abbrev pub elem_word : Head → ℕ → List ℕ
elem_word head zero = codes "\"10000000\""
elem_word head (suc less) = if nat_le 6 (suc less) then codes "\"10\" & " ⁀ lane_slice head else codes "\"10\" & \"" ⁀ zeros (6 - suc less) ⁀ codes "\" & " ⁀ lane_slice head

-- the entry of the table at the place is this word
abbrev pub want_test : Head → List ℕ → List ℕ
want_test head word = want_name head ⁀ codes "(place) = " ⁀ word

-- the next expected item is the element of the lane
abbrev pub elem_test : Head → List ℕ
elem_test head = want_test head (elem_word head head.params.element)

-- the next expected item is the Close of the dimension
abbrev pub close_test : Head → List ℕ
close_test head = want_test head (codes "\"01\" & std_logic_vector(to_unsigned(dim, " ⁀ decimal (item_width head.params) ⁀ codes "))")

-- the line that begins a loop of this variable through so many values
abbrev pub loop_line : List ℕ → ℕ → List ℕ
loop_line variable count = codes "for " ⁀ variable ⁀ codes " in 0 to " ⁀ decimal (count - 1) ⁀ codes " loop"

-- the line that begins a test
abbrev pub if_line : List ℕ → List ℕ
if_line test = codes "if " ⁀ test ⁀ codes " then"

-- the line that raises the fault
abbrev pub fault_line : Head → List ℕ
fault_line head = fault_name head ⁀ codes " <= '1';"

-- the lines of a need: the place goes on where its test holds, else the fault is raised, for good
abbrev pub need_text : Head → ℕ → List ℕ → List ℕ
need_text head indent test =
    line indent (if_line test) ⁀ line (indent + 2) (codes "place := place + 1;") ⁀ line indent (codes "else")
    ⁀ line (indent + 2) (fault_line head) ⁀ line (indent + 2) (codes "wait;") ⁀ line indent (codes "end if;")

-- the lines of statements that are so far to the right
abbrev mutual
  pub statement_text : Head → ℕ → Statement → List ℕ
  statement_text head indent (lanes body) = line indent (loop_line (codes "lane") head.params.lanes) ⁀ statements_text head (indent + 2) body ⁀ line indent (codes "end loop;")
  statement_text head indent (dims body) = line indent (loop_line (codes "dim") head.params.dims) ⁀ statements_text head (indent + 2) body ⁀ line indent (codes "end loop;")
  statement_text head indent (if_active body) = line indent (if_line (active_test head)) ⁀ statements_text head (indent + 2) body ⁀ line indent (codes "end if;")
  statement_text head indent (if_last body) = line indent (if_line (last_test head)) ⁀ statements_text head (indent + 2) body ⁀ line indent (codes "end if;")
  statement_text head indent need_elem = need_text head indent (elem_test head)
  statement_text head indent need_close = need_text head indent (close_test head)

  pub statements_text : Head → ℕ → Statements → List ℕ
  statements_text head indent no_statements = []
  statements_text head indent (statement first more) = statement_text head indent first ⁀ statements_text head indent more

-- ---- processes

-- the line that waits for a transfer
abbrev pub wait_line : Head → List ℕ
wait_line head = codes "      wait until rising_edge(clk) and " ⁀ name_text head signals.Valid ⁀ codes " = '1' and " ⁀ name_text head signals.Ready ⁀ codes " = '1';"

-- the lines before the statements of a process
abbrev pub process_front : Head → List ℕ
process_front head = codes "  process\n    variable place : natural := 0;\n  begin\n    loop\n" ⁀ wait_line head ⁀ codes "\n"

-- the lines after the statements of a process
abbrev pub process_back : List ℕ
process_back = codes "    end loop;\n  end process;\n"

-- the lines of the process of a stream
abbrev pub process_text : Head → Statements → List ℕ
process_text head process = process_front head ⁀ statements_text head 6 process ⁀ process_back

-- the lines of the processes of these streams
abbrev pub processes_text : List Head → List Statements → List ℕ
processes_text [] procs = []
processes_text (head ∷ heads) [] = []
processes_text (head ∷ heads) (first ∷ procs) = process_text head first ⁀ processes_text heads procs

-- ---- monitors

-- the lines before the tables
abbrev pub front_text : List Head → List ℕ
front_text heads = codes "-- tydi-watch 1\n" ⁀ flat_map stream_comment heads ⁀ entity_text heads ⁀ codes "\n"

-- the lines after the tables
abbrev pub back_text : PlainWatch → List ℕ
back_text watch = codes "begin\n" ⁀ processes_text watch.heads watch.procs ⁀ codes "end architecture;\n"

-- the text of a monitor
abbrev pub watch_text : PlainWatch → List ℕ
watch_text watch = front_text watch.heads ⁀ tables_text watch.heads watch.want ⁀ back_text watch
