-- The processes of a bench while they are read (this project's own).
use Rattle.std.specs.Prelude.{◌≡◌, ◌*◌, ◌≤◌, ◌<◌, false, List, length}
use Rattle.physical_stream.specs.declared.head.Head.{Head}
use Rattle.vhdl_text.specs.declared.processes.Processes.{Processes}
use Rattle.vhdl_text.specs.Drivers.{AreDrivers}
use Rattle.vhdl_text.specs.Reading.{Progress, is_between}

-- how far they are read
abbrev pub progress_of : Processes → Progress
progress_of processes = record { stage = processes.stage; procs = processes.procs; stmts = processes.stmts }

-- the table says who drives which signal, and the processes are at most twice the streams, the one that is begun with them
pub record AreRead (heads : List Head) (processes : Processes) : Type 0 where
  pub drivers : AreDrivers heads processes.drivers.items processes.procs processes.stmts
  pub few : length processes.procs ≤ 2 * length heads
  pub room : is_between processes.stage ≡ false → length processes.procs < 2 * length heads
