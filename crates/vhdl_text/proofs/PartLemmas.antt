-- The parts of the text of a bench.
use Rattle.std.proofs.Common.{◌≡◌, ◌∙◌, ℕ, List, ◌++◌, append_assoc, refl, sym, ap}
use Rattle.std.specs.Prelude.{codes}
use Rattle.std.specs.List.{flat_map}
use Rattle.vhdl_text.specs.Parts.{BenchesHaveParts, ProcessesHaveParts, back_text, front_text}
use Rattle.vhdl_text.specs.Text.{bench_text, frame_text, process_text, stmt_text, stream_comment}

-- five texts, one after another
five : (a b c d e : List ℕ) → a ++ (b ++ (c ++ (d ++ e))) ≡ (a ++ (b ++ (c ++ d))) ++ e
five a b c d e =
    sym (append_assoc a (b ++ (c ++ d)) e ∙ ap (λ (l : List ℕ). a ++ l) (append_assoc b (c ++ d) e ∙ ap (λ (l : List ℕ). b ++ l) (append_assoc c d e)))

pub processes-parts : ProcessesHaveParts
unfolding process_text
processes-parts heads process = refl

pub benches-parts : BenchesHaveParts
benches-parts bench =
    five (codes "-- tydi-bench 1\n") (flat_map stream_comment bench.heads) (frame_text bench.heads) (codes "\n") (flat_map (process_text bench.heads) bench.procs ++ back_text)
