use Rattle.port_drive.proofs.DrivenLemmas.{can-be-measured}
use Rattle.port_drive.proofs.FinishLemmas.{ready-drive, runs-finish}
use Rattle.port_drive.proofs.laws.finished_runs_drive.Goals as goal

pub returns : goal.returns
returns c = record { drive = runs-finish; ready = ready-drive; measured = can-be-measured }
