-- A statement that runs as its form says.
use Rattle.std.proofs.Common.{◌≡◌, ◌∙◌, ℕ, Bool, true, false, List, sym, ap, subst}
use Rattle.std.specs.Prelude.{if◌then◌else◌}
use Rattle.physical_stream.specs.Items.{is_active, last_bit}
use Rattle.watch_text.specs.declared.watch.WStmt.{WStmt}
use Rattle.watch_text.specs.Statements.{Statement, Statements, if_active, if_last, plain_statements}
use Rattle.monitor_bench.specs.Meaning.{State, run, run_all}
use Rattle.monitor_bench.specs.Running.{Steps}
use Rattle.monitor_bench.specs.declared.running.Edge.{Edge}
use Rattle.monitor_bench.specs.declared.running.Running.{Running}

-- what a statement does at an edge
abbrev pub runs : Edge → ℕ → ℕ → Statement → State → State
runs edge lane dim one = run edge.params.now edge.want.now edge.transfer.now lane dim one

-- a statement of this form, with this list inside
pub steps-form : (edge : Edge) (lane dim : ℕ) (form : Statements → Statement) (one : Statement) (body slice : List WStmt) (old new : Running) → one ≡ form (plain_statements body) → slice ≡ body
    → Steps (runs edge lane dim (form (plain_statements slice))) old new → Steps (runs edge lane dim one) old new
steps-form edge lane dim form one body slice old new is same steps =
    subst (λ (s : Statement). Steps (runs edge lane dim s) old new) (sym (is ∙ ap (λ (l : List WStmt). form (plain_statements l)) (sym same))) steps

-- a step behind a test that holds
steps_taken : (test : Bool) (step : State → State) (old new : Running) → test ≡ true → Steps step old new → Steps (λ state. if test then step state else state) old new
steps_taken true step old new so steps = steps
steps_taken false step old new so steps = absurd cc

pub steps-active : (edge : Edge) (lane dim : ℕ) (told : Bool) (slice : List WStmt) (old new : Running) → told ≡ is_active edge.transfer.now lane → told ≡ true
    → Steps (run_all edge.params.now edge.want.now edge.transfer.now lane dim (plain_statements slice)) old new → Steps (runs edge lane dim (if_active (plain_statements slice))) old new
steps-active edge lane dim told slice old new is so steps =
    steps_taken (is_active edge.transfer.now lane) (run_all edge.params.now edge.want.now edge.transfer.now lane dim (plain_statements slice)) old new (sym is ∙ so) steps

pub steps-last : (edge : Edge) (lane dim : ℕ) (told : Bool) (slice : List WStmt) (old new : Running) → told ≡ last_bit edge.params.now edge.transfer.now lane dim → told ≡ true
    → Steps (run_all edge.params.now edge.want.now edge.transfer.now lane dim (plain_statements slice)) old new → Steps (runs edge lane dim (if_last (plain_statements slice))) old new
steps-last edge lane dim told slice old new is so steps =
    steps_taken (last_bit edge.params.now edge.transfer.now lane dim) (run_all edge.params.now edge.want.now edge.transfer.now lane dim (plain_statements slice)) old new (sym is ∙ so) steps
