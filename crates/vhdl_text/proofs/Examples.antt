-- The text of a bench, by evaluation.
use Rattle.std.proofs.Common.{◌≡◌, refl, true, false, List, [], ◌∷◌, ◌++◌}
use Rattle.std.specs.Prelude.{ℕ, codes}
use Rattle.tydi_base.specs.Binary.{binary_of}
use Rattle.tydi_base.specs.Bits.{bits_of}
use Rattle.std.specs.Fmt.{digits}
use Rattle.tydi_base.specs.Level.{later_text, level_text, whole_level}
use Rattle.physical_stream.specs.declared.head.Head.{Head}
use Rattle.signal_layout.specs.declared.signal.Signal.TheVariants as signals
use Rattle.vhdl_text.specs.declared.bench.Bench.{Bench}
use Rattle.vhdl_text.specs.declared.bench.Stmt.{Stmt}
use Rattle.vhdl_text.specs.declared.bench.Stmt.TheVariants as stmts
use Rattle.vhdl_text.specs.Text.{bench_text, process_text, stmt_text, stream_ports}

-- a byte of a list of one dimension, at level 1, by one lane
abbrev head : Head
head = record { path = []; params = record { lanes = 1; dims = 1; level = whole_level 1; element = 8; user = 0 }; reversed = false }

-- the bytes 72 and 105, the second of which ends the list
abbrev two_bytes : List Stmt
two_bytes =
    stmts.Put 0 signals.Content (bits_of 8 72) ∷ stmts.Put 0 signals.Last (false ∷ []) ∷ stmts.Put 0 signals.Strb (true ∷ []) ∷ stmts.Put 0 signals.Valid (true ∷ []) ∷ stmts.Await 0
    ∷ stmts.Put 0 signals.Content (bits_of 8 105) ∷ stmts.Put 0 signals.Last (true ∷ []) ∷ stmts.Put 0 signals.Strb (true ∷ []) ∷ stmts.Put 0 signals.Valid (true ∷ []) ∷ stmts.Await 0
    ∷ stmts.Put 0 signals.Valid (false ∷ []) ∷ stmts.Stop ∷ []

abbrev bench : Bench
bench = record { heads = head ∷ []; procs = two_bytes ∷ [] }

abbrev lines : List ℕ
lines =
    codes "-- tydi-bench 1\n" ++ codes "-- stream - lanes 1 dims 1 level 1 element 8 user 0 forward\n" ++ codes "library ieee;\n" ++ codes "use ieee.std_logic_1164.all;\n"
    ++ codes "entity bench is\n" ++ codes "  port (\n" ++ codes "    clk : in std_logic;\n" ++ codes "    \\-.ready\\ : in std_logic;\n" ++ codes "    \\-.valid\\ : out std_logic := '0';\n"
    ++ codes "    \\-.data\\ : out std_logic_vector(7 downto 0) := (others => '0');\n" ++ codes "    \\-.last\\ : out std_logic_vector(0 downto 0) := (others => '0');\n"
    ++ codes "    \\-.strb\\ : out std_logic_vector(0 downto 0) := (others => '0')\n" ++ codes "  );\n" ++ codes "end entity;\n" ++ codes "architecture drive of bench is\n" ++ codes "begin\n"
    ++ codes "  process\n" ++ codes "  begin\n" ++ codes "    \\-.data\\ <= \"01001000\";\n" ++ codes "    \\-.last\\ <= \"0\";\n" ++ codes "    \\-.strb\\ <= \"1\";\n" ++ codes "    \\-.valid\\ <= '1';\n"
    ++ codes "    wait until rising_edge(clk) and \\-.ready\\ = '1';\n" ++ codes "    \\-.data\\ <= \"01101001\";\n" ++ codes "    \\-.last\\ <= \"1\";\n" ++ codes "    \\-.strb\\ <= \"1\";\n"
    ++ codes "    \\-.valid\\ <= '1';\n" ++ codes "    wait until rising_edge(clk) and \\-.ready\\ = '1';\n" ++ codes "    \\-.valid\\ <= '0';\n" ++ codes "    wait;\n" ++ codes "  end process;\n"
    ++ codes "end architecture;\n"

two_bytes_have_these_lines : bench_text bench ≡ lines
unfolding binary_of bits_of digits level_text later_text process_text stream_ports
two_bytes_have_these_lines = refl

-- without streams the clock is the last port
no_stream_has_these_lines : bench_text (record { heads = []; procs = [] })
    ≡ codes "-- tydi-bench 1\nlibrary ieee;\nuse ieee.std_logic_1164.all;\nentity bench is\n  port (\n    clk : in std_logic\n  );\nend entity;\narchitecture drive of bench is\nbegin\nend architecture;\n"
no_stream_has_these_lines = refl

-- a pause has three lines
a_pause_has_these_lines : stmt_text (head ∷ []) (stmts.Pause 3) ≡ codes "    for i in 1 to 3 loop\n      wait until rising_edge(clk);\n    end loop;\n"
unfolding digits
a_pause_has_these_lines = refl
