-- The nets of a project, or the refusal of its first link error (this project's own).
use Rattle.std.specs.Prelude.{◌≡◌, ℕ, List, [], ◌∷◌, Option, Some, None, Result, Ok, Err, codes}
use Rattle.til_resolve.specs.PlainProject.{PlainProject}
use Rattle.link_check.specs.Checked.{linked}
use Rattle.link_check.specs.Text.{nets_text}
use Rattle.link_check.specs.declared.difference.Why.{Why}
use Rattle.link_check.specs.declared.difference.Why.TheVariants as whys
use Rattle.link_check.specs.declared.fault.LinkFault.{LinkFault}
use Rattle.link_check.specs.declared.fault.LinkFault.TheVariants as linking
use Rattle.link_check.specs.declared.nets.Nets.{Nets}
use Rattle.tydi_tool.specs.declared.answer.Answer.{Answer}
use Rattle.tydi_tool.specs.declared.answer.Answer.TheVariants as answers
use Rattle.tydi_tool.specs.Outcome.{output_answer}
use Rattle.tydi_tool.specs.Refusals.{Refusal, At, Name, Stream, Word, of_file, of_file_with, refusal_line}

-- the name of a difference of two types
abbrev pub why_name : Why → List ℕ
why_name whys.Shape = codes "Shape"
why_name whys.Throughput = codes "Throughput"
why_name whys.Dims = codes "Dims"
why_name whys.Sync = codes "Sync"
why_name whys.Level = codes "Level"
why_name whys.Direction = codes "Direction"
why_name whys.User = codes "User"
why_name whys.Keep = codes "Keep"

-- the refusal of a project of this word with this error of its links; want of memory is none
abbrev pub refusal_of_linking : List ℕ → LinkFault → Option Refusal
refusal_of_linking word (linking.UnknownEnd place) = Some (of_file_with (codes "UnknownEnd") word (At place))
refusal_of_linking word (linking.SameSide place) = Some (of_file_with (codes "SameSide") word (At place))
refusal_of_linking word (linking.NotCompatible place difference) =
    Some (record { name = codes "NotCompatible"; details = Word word ∷ At place ∷ Stream difference.path ∷ Name (why_name difference.why) ∷ [] })
refusal_of_linking word (linking.LinkedTwice place) = Some (of_file_with (codes "LinkedTwice") word (At place))
refusal_of_linking word (linking.Unlinked place) = Some (of_file_with (codes "Unlinked") word (At place))
refusal_of_linking word linking.DesignTooLarge = Some (of_file (codes "DesignTooLarge") word)
refusal_of_linking word linking.Memory = None

-- an answer refuses by this refusal; where there is none, there is no such answer
abbrev pub TellsRefusal : Option Refusal → Answer → Type 0
TellsRefusal (Some refusal) a = a ≡ answers.Refused (refusal_line refusal)
TellsRefusal None a = ⊥

-- a text of the nets, or the refusal of the error in their place
abbrev pub TellsChecked : List ℕ → (Nets → List ℕ) → Result Nets LinkFault → Answer → Type 0
TellsChecked word write (Ok nets) a = a ≡ output_answer (write nets)
TellsChecked word write (Err fault) a = TellsRefusal (refusal_of_linking word fault) a

-- the answer to the links of a project: its nets, or its first error
abbrev pub TellsLinked : List ℕ → PlainProject → Answer → Type 0
TellsLinked word project a = TellsChecked word (nets_text project.streamlets) (linked project.streamlets) a
