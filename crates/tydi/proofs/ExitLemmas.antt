-- The exit status of a run.
use Rattle.std.proofs.Common.{◌≡◌, ℕ, ◌⊎◌, inl, inr, ⊎_elim, true, List, [], ◌∷◌, Option, Some, None, IsTrue, refl, sym, ap, ◌∙◌, arith}
use Rattle.std.specs.List.{AllByRecursion}
use Rattle.tydi_tool.specs.Outcome.{exit_code}
use Rattle.tydi_tool.specs.Run.{UsageExactly}
use Rattle.tydi_tool.specs.Words.{Allows, FileWord, Request, file_words}
use Rattle.tydi_tool.specs.declared.status.Status.{Status}
use Rattle.tydi_tool.specs.declared.status.Status.TheVariants as statuses
use Rattle.tydi.specs.Exit.{EndsByWords}

usage_of : (status : Status) → exit_code status ≡ 2 → status ≡ statuses.Usage
usage_of statuses.Done is = absurd (omega (arith, is))
usage_of statuses.Refused is = absurd (omega (arith, is))
usage_of statuses.Usage is = refl
usage_of statuses.ReadFault is = absurd (omega (arith, is))
usage_of statuses.WriteFault is = absurd (omega (arith, is))
usage_of statuses.Memory is = absurd (omega (arith, is))
usage_of statuses.Verdict is = absurd (omega (arith, is))

pub EndsByWords-run : (request : Option Request) (rose : Type 0) (status : Status) (code : ℕ) → UsageExactly request rose status → code ≡ exit_code status → EndsByWords request code
EndsByWords-run request rose status code usage is = (
  λ two. usage.0 (usage_of status (sym is ∙ two)),
  λ none. ⊎_elim (λ (u : status ≡ statuses.Usage). inl (is ∙ ap exit_code u)) (λ (w : (status ≡ statuses.WriteFault) × rose). inr (is ∙ ap exit_code w.0)) (usage.1 none),
)

-- a store that may start every file may start those of a command
each_allowed : (files : List FileWord) → AllByRecursion (λ file. IsTrue true) files
each_allowed [] = tt
each_allowed (file ∷ more) = (refl, each_allowed more)

pub all_allowed : (request : Option Request) → Allows (λ word. true) request
all_allowed None = tt
all_allowed (Some request) = each_allowed (file_words request)
