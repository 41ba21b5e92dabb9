-- The text of a bench in its parts: as it is made, process after process and statement after statement (this project's own).
use Rattle.std.specs.Prelude.{◌≡◌, ℕ, List, ◌++◌, codes}
use Rattle.std.specs.List.{flat_map}
use Rattle.physical_stream.specs.declared.head.Head.{Head}
use Rattle.vhdl_text.specs.Text.{◌⁀◌, bench_text, frame_text, process_text, stmt_text, stream_comment}
use Rattle.vhdl_text.specs.declared.bench.Bench.{Bench}
use Rattle.vhdl_text.specs.declared.bench.Stmt.{Stmt}

-- the lines before the first process: the streams, the entity, and the begin of its architecture
abbrev pub front_text : List Head → List ℕ
front_text heads = codes "-- tydi-bench 1\n" ⁀ flat_map stream_comment heads ⁀ frame_text heads ⁀ codes "\n"

-- the lines before the first statement of a process
abbrev pub process_front : List ℕ
process_front = codes "  process\n  begin\n"

-- the line after the last statement of a process
abbrev pub process_back : List ℕ
process_back = codes "  end process;\n"

-- the line after the last process
abbrev pub back_text : List ℕ
back_text = codes "end architecture;\n"

-- the parts of a process are its text
abbrev pub ProcessesHaveParts : Type 0
ProcessesHaveParts = (heads : List Head) (process : List Stmt) → process_text heads process ≡ process_front ++ (flat_map (stmt_text heads) process ++ process_back)

-- and the parts of a bench are its text
abbrev pub BenchesHaveParts : Type 0
BenchesHaveParts = (bench : Bench) → bench_text bench ≡ front_text bench.heads ++ (flat_map (process_text bench.heads) bench.procs ++ back_text)
