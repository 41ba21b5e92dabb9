-- The text of a monitor, by evaluation.
use Rattle.std.proofs.Common.{◌≡◌, refl, false, List, [], ◌∷◌, ◌++◌}
use Rattle.std.specs.Prelude.{ℕ, codes}
use Rattle.std.specs.Fmt.{digits}
use Rattle.tydi_base.specs.Binary.{binary_of}
use Rattle.tydi_base.specs.Bits.{bits_of}
use Rattle.tydi_base.specs.Level.{later_text, level_text, whole_level}
use Rattle.physical_stream.specs.declared.head.Head.{Head}
use Rattle.physical_stream.specs.declared.item.Item.{Item}
use Rattle.physical_stream.specs.declared.item.Item.TheVariants as items
use Rattle.watch_text.specs.Statements.{PlainWatch, Statements, dims, if_active, if_last, lanes, need_close, need_elem, no_statements, statement}
use Rattle.watch_text.specs.Text.{active_test, elem_test, item_digits, stream_inputs, watch_text}

-- bytes of a list of one dimension, at level 1, by one lane
abbrev head : Head
head = record { path = []; params = record { lanes = 1; dims = 1; level = whole_level 1; element = 8; user = 0 }; reversed = false }

-- for each lane the element where it is active, and then the end of each sequence that ends
abbrev process : Statements
process =
    statement (lanes (statement (if_active (statement need_elem no_statements)) (statement (dims (statement (if_last (statement need_close no_statements)) no_statements)) no_statements))) no_statements

-- the bytes 72 and 105, and the end of the list
abbrev two_bytes : List Item
two_bytes = items.Elem (bits_of 8 72) ∷ items.Elem (bits_of 8 105) ∷ items.Close 0 ∷ []

abbrev watch : PlainWatch
watch = record { heads = head ∷ []; want = two_bytes ∷ []; procs = process ∷ [] }

abbrev lines : List ℕ
lines =
    codes "-- tydi-watch 1\n" ++ codes "-- stream - lanes 1 dims 1 level 1 element 8 user 0 forward\n" ++ codes "library ieee;\n" ++ codes "use ieee.std_logic_1164.all;\n"
    ++ codes "use ieee.numeric_std.all;\n" ++ codes "entity watch is\n" ++ codes "  port (\n" ++ codes "    clk : in std_logic;\n" ++ codes "    \\-.ready\\ : in std_logic;\n"
    ++ codes "    \\-.valid\\ : in std_logic;\n" ++ codes "    \\-.data\\ : in std_logic_vector(7 downto 0);\n" ++ codes "    \\-.last\\ : in std_logic_vector(0 downto 0);\n"
    ++ codes "    \\-.strb\\ : in std_logic_vector(0 downto 0);\n" ++ codes "    \\-.fault\\ : out std_logic := '0'\n" ++ codes "  );\n" ++ codes "end entity;\n"
    ++ codes "architecture check of watch is\n" ++ codes "  type \\-.items\\ is array (0 to 3) of std_logic_vector(9 downto 0);\n"
    ++ codes "  constant \\-.want\\ : \\-.items\\ := (\n" ++ codes "    0 => \"1001001000\",\n" ++ codes "    1 => \"1001101001\",\n" ++ codes "    2 => \"0100000000\",\n"
    ++ codes "    3 => \"0000000000\"\n" ++ codes "  );\n" ++ codes "begin\n" ++ codes "  process\n" ++ codes "    variable place : natural := 0;\n" ++ codes "  begin\n"
    ++ codes "    loop\n" ++ codes "      wait until rising_edge(clk) and \\-.valid\\ = '1' and \\-.ready\\ = '1';\n" ++ codes "      for lane in 0 to 0 loop\n"
    ++ codes "        if \\-.strb\\(lane) = '1' then\n" ++ codes "          if \\-.want\\(place) = \"10\" & \\-.data\\(lane * 8 + 7 downto lane * 8) then\n"
    ++ codes "            place := place + 1;\n" ++ codes "          else\n" ++ codes "            \\-.fault\\ <= '1';\n" ++ codes "            wait;\n"
    ++ codes "          end if;\n" ++ codes "        end if;\n" ++ codes "        for dim in 0 to 0 loop\n" ++ codes "          if \\-.last\\(lane * 1 + dim) = '1' then\n"
    ++ codes "            if \\-.want\\(place) = \"01\" & std_logic_vector(to_unsigned(dim, 8)) then\n" ++ codes "              place := place + 1;\n"
    ++ codes "            else\n" ++ codes "              \\-.fault\\ <= '1';\n" ++ codes "              wait;\n" ++ codes "            end if;\n"
    ++ codes "          end if;\n" ++ codes "        end loop;\n" ++ codes "      end loop;\n" ++ codes "    end loop;\n" ++ codes "  end process;\n"
    ++ codes "end architecture;\n"

two_bytes_have_these_lines : watch_text watch ≡ lines
unfolding binary_of bits_of digits level_text later_text stream_inputs
two_bytes_have_these_lines = refl

-- without streams the clock is the last port
no_stream_has_these_lines : watch_text (record { heads = []; want = []; procs = [] })
    ≡ codes "-- tydi-watch 1\nlibrary ieee;\nuse ieee.std_logic_1164.all;\nuse ieee.numeric_std.all;\nentity watch is\n  port (\n    clk : in std_logic\n  );\nend entity;\narchitecture check of watch is\nbegin\nend architecture;\n"
no_stream_has_these_lines = refl

-- elements of three bits, at level 8, by four lanes
abbrev narrow : Head
narrow = record { path = codes "b" ∷ []; params = record { lanes = 4; dims = 2; level = whole_level 8; element = 3; user = 0 }; reversed = false }

-- an element has the bits of a table's word that it lacks as zeros in front
narrow_elements_are_filled : elem_test narrow ≡ codes "\\b.want\\(place) = \"10\" & \"000\" & \\b.data\\(lane * 3 + 2 downto lane * 3)"
unfolding digits
narrow_elements_are_filled = refl

-- all tests of an active lane
all_tests_are_joined : active_test narrow
    ≡ codes "to_integer(unsigned(\\b.stai\\)) <= lane and lane <= to_integer(unsigned(\\b.endi\\)) and \\b.strb\\(lane) = '1'"
all_tests_are_joined = refl

-- the word of an element of three bits, and that of an end
narrow_words_are_filled : item_digits narrow.params (items.Elem (bits_of 3 5)) ≡ codes "10000101"
unfolding bits_of binary_of
narrow_words_are_filled = refl

ends_are_numbered : item_digits head.params (items.Close 5) ≡ codes "0100000101"
unfolding bits_of binary_of
ends_are_numbered = refl

-- without elements of bits, at level 1, by one lane and without dimensions
abbrev bare : Head
bare = record { path = codes "b" ∷ codes "c" ∷ []; params = record { lanes = 1; dims = 0; level = whole_level 1; element = 0; user = 0 }; reversed = false }

no_test_is_true : active_test bare ≡ codes "true"
no_test_is_true = refl

elements_without_bits_have_no_slice : elem_test bare ≡ codes "\\b.c.want\\(place) = \"10000000\""
elements_without_bits_have_no_slice = refl
