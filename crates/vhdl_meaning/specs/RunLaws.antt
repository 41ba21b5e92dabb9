-- The limits that the run of a text keeps (this project's own).
use Rattle.std.specs.Prelude.{◌≡◌, ℕ, ◌≤◌, Bool, List, length, All, Ok}
use Rattle.vhdl_text.specs.declared.bench.Bench.{Bench}
use Rattle.vhdl_meaning.specs.declared.run.SimRun.{SimRun}
use Rattle.vhdl_meaning.specs.Meaning.{IsOrder}
use Rattle.vhdl_meaning.specs.RunText.{most_cycles, run_of}

-- the run has a ready bit for each stream of a bench and each cycle, and an order of the processes for each cycle
pub record FitsBench (bench : Bench) (run : SimRun) : Type 0 where
  pub cycles : run.cycles ≤ most_cycles
  pub streams : length run.ready ≡ length bench.heads
  pub ready : All (λ (bits : List Bool). length bits ≡ run.cycles) run.ready
  pub edges : length run.orders ≡ run.cycles
  pub orders : All (IsOrder (length bench.procs)) run.orders

-- the run that a text spells for a bench fits it
abbrev pub RunsFit : Type 0
RunsFit = (bench : Bench) (text : List ℕ) (run : SimRun) → run_of bench text ≡ Ok run → FitsBench bench run
