-- The entities and architectures of a project, or the refusal of its first port whose type is not split, or else of its first link error
-- (this project's own).
use Rattle.std.specs.Prelude.{◌≡◌, ℕ, List, [], ◌∷◌, Option, Some, None, codes}
use Rattle.til_resolve.specs.PlainProject.{PlainProject, PlainStreamlet}
use Rattle.link_check.specs.Checked.{linked}
use Rattle.link_check.specs.declared.nets.Nets.{Nets}
use Rattle.vhdl_text.specs.declared.language.Language.{Language}
use Rattle.vhdl_writer.specs.Architecture.{architectures}
use Rattle.vhdl_writer.specs.Designs.{design_text}
use Rattle.vhdl_writer.specs.PortClashes.{first_clash}
use Rattle.vhdl_writer.specs.declared.clash.Clash.{Clash}
use Rattle.tydi_tool.specs.declared.answer.Answer.{Answer}
use Rattle.tydi_tool.specs.declared.answer.Answer.TheVariants as answers
use Rattle.tydi_tool.specs.Links.{TellsChecked}
use Rattle.tydi_tool.specs.Refusals.{Refusal, Port, Stream, refusal_line}

-- the text of the entities and architectures of a project with these nets, in this language
abbrev pub text_of_nets : Language → List PlainStreamlet → Nets → List ℕ
text_of_nets language streamlets nets = design_text language (architectures streamlets nets.impls)

-- the refusal of a project for a port of which two physical streams have one path
abbrev pub refusal_of_clash : Clash → Refusal
refusal_of_clash clash = record { name = codes "NameClash"; details = Port clash.streamlet clash.port ∷ Stream clash.path ∷ [] }

-- the answer to a project whose types have this first clash: the refusal of it; or else its text, or its first link error
abbrev pub TellsApart : Language → List ℕ → List PlainStreamlet → Option Clash → Answer → Type 0
TellsApart language word streamlets (Some clash) a = a ≡ answers.Refused (refusal_line (refusal_of_clash clash))
TellsApart language word streamlets None a = TellsChecked word (text_of_nets language streamlets) (linked streamlets) a

-- the answer to a project
abbrev pub TellsDesign : Language → List ℕ → PlainProject → Answer → Type 0
TellsDesign language word project a = TellsApart language word project.streamlets (first_clash project.streamlets) a
