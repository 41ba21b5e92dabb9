-- How the program ends (this project's own).
use Rattle.std.specs.Prelude.{◌≡◌, ◌⊎◌, ℕ, Option, None}
use Rattle.tydi_tool.specs.Outcome.{exit_code}
use Rattle.tydi_tool.specs.Words.{Request}
use Rattle.tydi_tool.specs.declared.status.Status.{Status}
use Rattle.tydi_tool.specs.declared.status.Status.TheVariants as statuses

-- the words could not be had: for want of memory, or since one is no text
abbrev pub IsWithoutWords : Status → Type 0
IsWithoutWords status = (status ≡ statuses.Memory) ⊎ (status ≡ statuses.Usage)

-- an exit status is that of a run: of the status with which the run is as this says
pub record EndsAsRun (Runs : Status → Type 0) (code : ℕ) : Type 0 where
  pub status : Status
  pub runs : Runs status
  pub is : code ≡ exit_code status

-- 2 comes only where the words spell no command; there it comes, or 4, where the line could not be written
abbrev pub EndsByWords : Option Request → ℕ → Type 0
EndsByWords request code = (code ≡ 2 → request ≡ None) × (request ≡ None → (code ≡ 2) ⊎ (code ≡ 4))
