-- Which run a cursor stands for (this project's own).
use Rattle.std.specs.Prelude.{Bool, List}
use Rattle.physical_stream.specs.Cycles.{Cycle}
use Rattle.physical_stream.specs.declared.transfer.Transfer.{Transfer}
use Rattle.handshake.specs.Kept.{Keeps}
use Rattle.handshake.specs.Run.{run_of}
use Rattle.handshake.specs.declared.cursor.Cursor.{Cursor}
use Rattle.handshake.specs.declared.feed.TransferFeed.{Ghosts}

module _ {F : Type 0} {T : Ghosts F} (rest : F → List Transfer) where
  -- a cursor keeps what it must of these cycles
  abbrev pub Follows : Cursor F T → List Transfer → List Cycle → Type 0
  Follows c ts cycles = Keeps c.params ts c.gaps cycles (rest c.feed) c.holds c.held c.pause c.place c.tail

  -- a cursor stands for the run of these transfers, with its gaps, under these ready bits
  abbrev pub StandsFor : Cursor F T → List Transfer → List Bool → Type 0
  StandsFor c ts ready = Follows c ts (run_of c.params ts c.gaps ready)
