-- Driving benches, by evaluation.
use Rattle.std.proofs.Common.{◌≡◌, refl, Bool, true, false, ℕ, codes, List, [], ◌∷◌, map, Option, Some, None}
use Rattle.tydi_base.specs.Bits.{bits_of, number_of_bits}
use Rattle.tydi_base.specs.Level.{whole_level}
use Rattle.physical_stream.specs.Params.{Parameters}
use Rattle.physical_stream.specs.Cycles.{Cycle}
use Rattle.physical_stream.specs.declared.head.Head.{Head}
use Rattle.physical_stream.specs.declared.transfer.Transfer.{Transfer}
use Rattle.signal_layout.specs.declared.signal.Signal.TheVariants as signals
use Rattle.vhdl_text.specs.declared.bench.Stmt.TheVariants as stmts
use Rattle.vhdl_meaning.specs.Meaning.{Edge, meaning, cycle_at}
use Rattle.type_split.specs.declared.split.Phys.{Phys}
use Rattle.plan_text.specs.declared.plan.StreamPlan.{StreamPlan}
use Rattle.testbench.specs.Driving.{driving, process_of}
use Rattle.testbench.specs.Given.{driven_by}

-- one lane of one dimension at level 1, with elements of 8 bits
abbrev bytes : Parameters
bytes = record { lanes = 1; dims = 1; level = whole_level 1; element = 8; user = 0 }

abbrev head : Head
head = record { path = []; params = bytes; reversed = false }

-- the element 0x48, and 0x69 with the end of the sequence
abbrev first : Transfer
first = record { content = bits_of 8 72; last = false ∷ []; stai = 0; endi = 0; strb = 1; user = [] }

abbrev second : Transfer
second = record { content = bits_of 8 105; last = true ∷ []; stai = 0; endi = 0; strb = 1; user = [] }

-- the process of two transfers without gaps
the_statements_of_two_transfers : process_of 0 (record { head = head; transfers = first ∷ second ∷ []; gaps = [] })
    ≡ stmts.Put 0 signals.Content (bits_of 8 72) ∷ stmts.Put 0 signals.Last (false ∷ []) ∷ stmts.Put 0 signals.Strb (true ∷ []) ∷ stmts.Put 0 signals.Valid (true ∷ []) ∷ stmts.Await 0
    ∷ stmts.Put 0 signals.Content (bits_of 8 105) ∷ stmts.Put 0 signals.Last (true ∷ []) ∷ stmts.Put 0 signals.Strb (true ∷ []) ∷ stmts.Put 0 signals.Valid (true ∷ []) ∷ stmts.Await 0
    ∷ stmts.Put 0 signals.Valid (false ∷ []) ∷ stmts.Stop ∷ []
unfolding bits_of number_of_bits
the_statements_of_two_transfers = refl

-- a gap before each: the second is inside the sequence, where valid may not be low at level 1
a_gap_inside_a_sequence : process_of 0 (record { head = head; transfers = first ∷ second ∷ []; gaps = 0 ∷ 2 ∷ [] }) ≡ process_of 0 (record { head = head; transfers = first ∷ second ∷ []; gaps = [] })
unfolding bits_of number_of_bits
a_gap_inside_a_sequence = refl

-- the bench of two streams: the second pauses before its transfer
abbrev stream_at : ℕ → List (List ℕ) → Phys
stream_at node path = record { path = path; params = bytes; reversed = false; root = node; node = node }

abbrev plan_with : List ℕ → StreamPlan
plan_with gaps = record { gaps = gaps; ready = []; wishes = []; users = [] }

a_process_for_each_stream : driving (driven_by (stream_at 0 [] ∷ stream_at 1 (codes "b" ∷ []) ∷ []) ((second ∷ []) ∷ (first ∷ []) ∷ []) (plan_with [] ∷ plan_with (2 ∷ []) ∷ []))
    ≡ record {
      heads = head ∷ record { path = codes "b" ∷ []; params = bytes; reversed = false } ∷ [];
      procs = (stmts.Put 0 signals.Content (bits_of 8 105) ∷ stmts.Put 0 signals.Last (true ∷ []) ∷ stmts.Put 0 signals.Strb (true ∷ []) ∷ stmts.Put 0 signals.Valid (true ∷ []) ∷ stmts.Await 0
          ∷ stmts.Put 0 signals.Valid (false ∷ []) ∷ stmts.Stop ∷ [])
          ∷ (stmts.Put 1 signals.Valid (false ∷ []) ∷ stmts.Pause 2
          ∷ stmts.Put 1 signals.Content (bits_of 8 72) ∷ stmts.Put 1 signals.Last (false ∷ []) ∷ stmts.Put 1 signals.Strb (true ∷ []) ∷ stmts.Put 1 signals.Valid (true ∷ []) ∷ stmts.Await 1
          ∷ stmts.Put 1 signals.Valid (false ∷ []) ∷ stmts.Stop ∷ []) ∷ [];
    }
unfolding bits_of number_of_bits
a_process_for_each_stream = refl

abbrev edge : Bool → Edge
edge bit = record { ready = bit ∷ []; order = 0 ∷ [] }

abbrev row : Bool → Option Transfer → Cycle
row bit shown = record { ready = bit; shown = shown }

-- a gap of two cycles and a stall
a_gap_and_a_stall : map (cycle_at bytes 0) (meaning (driving (record { head = head; transfers = second ∷ []; gaps = 2 ∷ [] } ∷ [])) (edge true ∷ edge true ∷ edge false ∷ edge true ∷ edge true ∷ []))
    ≡ row true None ∷ row true None ∷ row false (Some second) ∷ row true (Some second) ∷ row true None ∷ []
unfolding bits_of number_of_bits
a_gap_and_a_stall = refl
