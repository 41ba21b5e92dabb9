-- The runs of texts, and their errors with their places, by evaluation.
use Rattle.std.proofs.Common.{◌≡◌, refl, ℕ, true, false, List, [], ◌∷◌, Ok, Err, codes}
use Rattle.std.specs.List.{join_with_byte}
use Rattle.tydi_base.specs.Level.{whole_level}
use Rattle.tydi_base.specs.declared.place.Place.{Place}
use Rattle.vhdl_text.specs.declared.bench.Stmt.TheVariants as stmts
use Rattle.vhdl_text.specs.declared.bench.Bench.{Bench}
use Rattle.vhdl_meaning.specs.declared.run.RunFault.TheVariants as faults
use Rattle.vhdl_meaning.specs.RunText.{run_of, title_of, cycles_of, header_of, ready_line, bits_for, with_bits, with_ready, order_in, order_of, with_order, with_more, run_in_lines}

-- a stream of the empty path, and as many processes as there are lists
abbrev bench : List (List stmts.the_data) → Bench
bench procs = record { heads = record { path = []; params = record { lanes = 1; dims = 1; level = whole_level 1; element = 8; user = 0 }; reversed = false } ∷ []; procs = procs }

abbrev one : Bench
one = bench ((stmts.Stop ∷ []) ∷ [])

-- the text of lines, each with its LF
abbrev text : List (List ℕ) → List ℕ
text [] = []
text (line ∷ lines) = join_with_byte 10 (line ∷ text lines ∷ [])

abbrev at : ℕ → ℕ → Place
at offset line = record { offset = offset; line = line; column = 1 }

ready_bits_and_default_orders : run_of one (text (codes "tydi-run 1" ∷ codes "cycles 3" ∷ codes "ready - 011" ∷ []))
    ≡ Ok (record { cycles = 3; ready = (false ∷ true ∷ true ∷ []) ∷ []; orders = (0 ∷ []) ∷ (0 ∷ []) ∷ (0 ∷ []) ∷ [] })
unfolding title_of cycles_of header_of ready_line bits_for with_bits with_ready order_in order_of with_order with_more run_in_lines
ready_bits_and_default_orders = refl

no_such_process : run_of one (text (codes "tydi-run 1" ∷ codes "cycles 3" ∷ codes "ready - 011" ∷ codes "order 1" ∷ [])) ≡ Err (faults.NotOrder (at 32 4))
unfolding title_of cycles_of header_of ready_line bits_for with_bits with_ready order_in order_of with_order with_more run_in_lines
no_such_process = refl

a_process_twice : run_of (bench ((stmts.Stop ∷ []) ∷ (stmts.Stop ∷ []) ∷ [])) (text (codes "tydi-run 1" ∷ codes "cycles 3" ∷ codes "order 1 1" ∷ [])) ≡ Err (faults.NotOrder (at 20 3))
unfolding title_of cycles_of header_of ready_line bits_for with_bits with_ready order_in order_of with_order with_more run_in_lines
a_process_twice = refl

an_order_and_the_text_order : run_of (bench ((stmts.Stop ∷ []) ∷ (stmts.Stop ∷ []) ∷ [])) (text (codes "tydi-run 1" ∷ codes "cycles 2" ∷ codes "order 1 0" ∷ []))
    ≡ Ok (record { cycles = 2; ready = (true ∷ true ∷ []) ∷ []; orders = (1 ∷ 0 ∷ []) ∷ (0 ∷ 1 ∷ []) ∷ [] })
unfolding title_of cycles_of header_of ready_line bits_for with_bits with_ready order_in order_of with_order with_more run_in_lines
an_order_and_the_text_order = refl

one_order_too_many : run_of one (text (codes "tydi-run 1" ∷ codes "cycles 1" ∷ codes "order 0" ∷ codes "order 0" ∷ [])) ≡ Err (faults.TooManyOrders (at 28 4))
unfolding title_of cycles_of header_of ready_line bits_for with_bits with_ready order_in order_of with_order with_more run_in_lines
one_order_too_many = refl

a_surplus_line_that_is_no_order : run_of one (text (codes "tydi-run 1" ∷ codes "cycles 0" ∷ codes "order" ∷ [])) ≡ Err (faults.NotOrder (at 20 3))
unfolding title_of cycles_of header_of ready_line bits_for with_bits with_ready order_in order_of with_order with_more run_in_lines
a_surplus_line_that_is_no_order = refl

an_order_with_a_space_at_its_end : run_of (bench []) (text (codes "tydi-run 1" ∷ codes "cycles 1" ∷ codes "order " ∷ [])) ≡ Err (faults.Syntax (at 20 3))
unfolding title_of cycles_of header_of ready_line bits_for with_bits with_ready order_in order_of with_order with_more run_in_lines
an_order_with_a_space_at_its_end = refl

an_unknown_stream : run_of one (text (codes "tydi-run 1" ∷ codes "cycles 1" ∷ codes "ready a 1" ∷ [])) ≡ Err (faults.UnknownStream (at 20 3))
unfolding title_of cycles_of header_of ready_line bits_for with_bits with_ready order_in order_of with_order with_more run_in_lines
an_unknown_stream = refl

a_stream_twice : run_of one (text (codes "tydi-run 1" ∷ codes "cycles 1" ∷ codes "ready - 1" ∷ codes "ready - 11" ∷ [])) ≡ Err (faults.StreamTwice (at 30 4))
unfolding title_of cycles_of header_of ready_line bits_for with_bits with_ready order_in order_of with_order with_more run_in_lines
a_stream_twice = refl

a_bit_too_many : run_of one (text (codes "tydi-run 1" ∷ codes "cycles 1" ∷ codes "ready - 11" ∷ [])) ≡ Err (faults.ReadyLength (at 20 3))
unfolding title_of cycles_of header_of ready_line bits_for with_bits with_ready order_in order_of with_order with_more run_in_lines
a_bit_too_many = refl

ready_after_an_order : run_of one (text (codes "tydi-run 1" ∷ codes "cycles 1" ∷ codes "order 0" ∷ codes "ready - 1" ∷ [])) ≡ Err (faults.Syntax (at 28 4))
unfolding title_of cycles_of header_of ready_line bits_for with_bits with_ready order_in order_of with_order with_more run_in_lines
ready_after_an_order = refl

-- a text that ends early, with and without its last LF
the_first_line_alone : run_of one (text (codes "tydi-run 1" ∷ [])) ≡ Err (faults.Syntax (at 11 2))
unfolding title_of cycles_of header_of ready_line bits_for with_bits with_ready order_in order_of with_order with_more run_in_lines
the_first_line_alone = refl

a_cut_line : run_of one (codes "tydi-run 1") ≡ Err (faults.Syntax (record { offset = 10; line = 1; column = 11 }))
unfolding title_of cycles_of header_of ready_line bits_for with_bits with_ready order_in order_of with_order with_more run_in_lines
a_cut_line = refl
