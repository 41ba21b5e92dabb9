-- The law of `vhdl` and of `verilog` (this project's own): which project is written, and what the assignments of its architectures keep.
use Rattle.std.specs.Prelude.{◌≡◌, ◌≢◌, ℕ, ◌≤◌, ◌↔◌, List, length, Some}
use Rattle.tydi_io.specs.Store.{Files}
use Rattle.til_resolve.specs.PlainProject.{PlainProject}
use Rattle.link_check.specs.declared.nets.Nets.{Nets}
use Rattle.vhdl_text.specs.declared.arch.Arch.{Arch}
use Rattle.vhdl_text.specs.declared.language.Language.{Language}
use Rattle.vhdl_text.specs.declared.language.Language.TheVariants as languages
use Rattle.vhdl_writer.specs.Designs.{design_text}
use Rattle.vhdl_writer.specs.WiringLaws.{AreAssignedOnce, AreNetsDriven, DoNetsCarry, IsDesigned}
use Rattle.tydi_tool.specs.declared.answer.Answer.TheVariants as answers
use Rattle.tydi_tool.specs.Causes.{HasRead}
use Rattle.tydi_tool.specs.Commands.{Says}
use Rattle.tydi_tool.specs.Entities.{text_of_nets}
use Rattle.tydi_tool.specs.Outcome.{output_too_long_line}
use Rattle.tydi_tool.specs.Words.{Design}

-- A text is written for a project that stands. Its names are names, no port of it has two physical streams of one path, and its links give
-- these nets. The text is that of its entities and architectures, in VHDL or in Verilog. In each architecture each signal that the receiving end of a stream of a net
-- has is assigned exactly once, and nothing else is assigned. Each stream at either end of a net has its channel, and the sending end of each
-- may drive the receiving end. Where the words of all signals keep the assignments, the trace at the receiving ends of a net is the one that
-- arrives where that at the sending ends is carried there.
pub record WritesDesign (known : Files) (language : Language) (project text : List ℕ) : Type 0 where
  pub read : PlainProject
  pub has : HasRead known project read
  pub nets : Nets
  pub designed : IsDesigned read nets
  pub is : text ≡ text_of_nets language read.streamlets nets
  pub once : AreAssignedOnce read.streamlets nets
  pub driven : AreNetsDriven read.streamlets nets
  pub carry : DoNetsCarry read.streamlets nets

-- each text that is written is that of such a project
abbrev pub WrittenDesignsAreWired : Type 0
WrittenDesignsAreWired = (known : Files) (language : Language) (project text : List ℕ) → Says (Some known) (Some (Design language project)) (answers.Done text)
    → (length text ≤ 67108864) × WritesDesign known language project text

-- the two texts are those of the same entities and architectures, in the same order
abbrev pub AreAlike : (vhdl verilog : List ℕ) → Type 0
AreAlike vhdl verilog = (archs : List Arch) × ((vhdl ≡ design_text languages.Vhdl archs) × (verilog ≡ design_text languages.Verilog archs))

-- the texts that are written of one project in the two languages are such
abbrev pub LanguagesAreAlike : Type 0
LanguagesAreAlike = (known : Files) (project vhdl verilog : List ℕ) → Says (Some known) (Some (Design languages.Vhdl project)) (answers.Done vhdl)
    → Says (Some known) (Some (Design languages.Verilog project)) (answers.Done verilog) → AreAlike vhdl verilog

-- and what the one refuses, the other refuses with the same line; the length of the output is their own
abbrev pub LanguagesAreRefusedAlike : Type 0
LanguagesAreRefusedAlike = (known : Files) (project line : List ℕ) → line ≢ output_too_long_line
    → Says (Some known) (Some (Design languages.Vhdl project)) (answers.Refused line) ↔ Says (Some known) (Some (Design languages.Verilog project)) (answers.Refused line)
