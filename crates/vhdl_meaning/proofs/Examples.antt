-- Benches and their rows, by evaluation.
use Rattle.std.proofs.Common.{◌≡◌, refl, ℕ, Bool, true, false, List, [], ◌∷◌, map, Option, Some, None}
use Rattle.tydi_base.specs.Bits.{bits_of, number_of_bits}
use Rattle.tydi_base.specs.Level.{whole_level}
use Rattle.physical_stream.specs.Params.{Parameters}
use Rattle.physical_stream.specs.Cycles.{Cycle}
use Rattle.physical_stream.specs.declared.head.Head.{Head}
use Rattle.physical_stream.specs.declared.transfer.Transfer.{Transfer}
use Rattle.signal_layout.specs.declared.signal.Signal.TheVariants as signals
use Rattle.vhdl_text.specs.declared.bench.Stmt.{Stmt}
use Rattle.vhdl_text.specs.declared.bench.Stmt.TheVariants as stmts
use Rattle.vhdl_text.specs.declared.bench.Bench.{Bench}
use Rattle.vhdl_meaning.specs.Meaning.{Edge, meaning, cycle_at}

-- one lane of one dimension at level 1, with elements of 8 bits: it has data, last and strb, and lacks stai, endi and user
abbrev bytes : Parameters
bytes = record { lanes = 1; dims = 1; level = whole_level 1; element = 8; user = 0 }

abbrev head : Head
head = record { path = []; params = bytes; reversed = false }

-- the element 0x48, and 0x69 with the end of the sequence
abbrev first : Transfer
first = record { content = bits_of 8 72; last = false ∷ []; stai = 0; endi = 0; strb = 1; user = [] }

abbrev second : Transfer
second = record { content = bits_of 8 105; last = true ∷ []; stai = 0; endi = 0; strb = 1; user = [] }

abbrev both : List Stmt
both =
    stmts.Put 0 signals.Content (bits_of 8 72) ∷ stmts.Put 0 signals.Last (false ∷ []) ∷ stmts.Put 0 signals.Strb (true ∷ []) ∷ stmts.Put 0 signals.Valid (true ∷ []) ∷ stmts.Await 0
    ∷ stmts.Put 0 signals.Content (bits_of 8 105) ∷ stmts.Put 0 signals.Last (true ∷ []) ∷ stmts.Put 0 signals.Strb (true ∷ []) ∷ stmts.Put 0 signals.Valid (true ∷ []) ∷ stmts.Await 0
    ∷ stmts.Put 0 signals.Valid (false ∷ []) ∷ stmts.Stop ∷ []

abbrev edge : Bool → Edge
edge bit = record { ready = bit ∷ []; order = 0 ∷ [] }

abbrev row : Bool → Option Transfer → Cycle
row bit shown = record { ready = bit; shown = shown }

-- the rows of the stream of a bench of one process
abbrev rows : List Stmt → List Edge → List Cycle
rows process edges = map (cycle_at bytes 0) (meaning (record { heads = head ∷ []; procs = process ∷ [] }) edges)

-- a transfer stays until ready is 1, and the next one is shown in the next cycle
two_transfers_with_a_stall : rows both (edge false ∷ edge true ∷ edge true ∷ edge true ∷ []) ≡ row false (Some first) ∷ row true (Some first) ∷ row true (Some second) ∷ row true None ∷ []
unfolding bits_of number_of_bits
two_transfers_with_a_stall = refl

-- a pause of two edges is two rows, whatever the ready bits are
a_pause_of_two : rows (stmts.Pause 2 ∷ both) (edge true ∷ edge false ∷ edge false ∷ edge true ∷ []) ≡ row true None ∷ row false None ∷ row false (Some first) ∷ row true (Some first) ∷ []
unfolding bits_of number_of_bits
a_pause_of_two = refl

-- the last of two assignments to one signal counts, and endi, which the stream lacks, stands at the last lane
the_last_assignment_counts : rows (stmts.Put 0 signals.Valid (true ∷ []) ∷ stmts.Put 0 signals.Content (bits_of 8 1) ∷ stmts.Put 0 signals.Content (bits_of 8 2) ∷ stmts.Stop ∷ []) (edge true ∷ edge true ∷ [])
    ≡ row true (Some (record { content = bits_of 8 2; last = false ∷ []; stai = 0; endi = 0; strb = 0; user = [] })) ∷ row true (Some (record { content = bits_of 8 2; last = false ∷ []; stai = 0; endi = 0; strb = 0; user = [] })) ∷ []
unfolding bits_of number_of_bits
the_last_assignment_counts = refl

-- two processes that drive one signal: there the order counts, so the law of confluence needs its premise
abbrev two_drivers : Bench
two_drivers = record { heads = head ∷ []; procs = (stmts.Pause 1 ∷ stmts.Put 0 signals.Valid (true ∷ []) ∷ stmts.Stop ∷ []) ∷ (stmts.Pause 1 ∷ stmts.Put 0 signals.Valid (false ∷ []) ∷ stmts.Stop ∷ []) ∷ [] }

abbrev valid_in_order : List ℕ → List (List Bool)
valid_in_order order = map (λ row. row.values 0 signals.Valid) (meaning two_drivers (record { ready = true ∷ []; order = order } ∷ record { ready = true ∷ []; order = order } ∷ []))

the_second_process_last : valid_in_order (0 ∷ 1 ∷ []) ≡ (false ∷ []) ∷ (false ∷ []) ∷ []
the_second_process_last = refl

the_first_process_last : valid_in_order (1 ∷ 0 ∷ []) ≡ (false ∷ []) ∷ (true ∷ []) ∷ []
the_first_process_last = refl
