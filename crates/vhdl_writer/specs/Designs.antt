-- The text of a design in VHDL or in Verilog: the texts of its entities and architectures, one after another, and what is left of it where it
-- is made piece by piece. This project's own.
use Rattle.std.specs.Prelude.{◌≡◌, ℕ, ◌<◌, ◌≤◌, ◌++◌, Bool, true, false, List, [], drop, length, min, Option, Some, None, Result, Ok, Err, ⊤, codes}
use Rattle.std.specs.List.{flat_map}
use Rattle.tydi_base.specs.Lengths.{most_bytes}
use Rattle.til_resolve.specs.PlainProject.{PlainStreamlet}
use Rattle.link_check.specs.declared.nets.ImplNets.{ImplNets}
use Rattle.vhdl_text.specs.ArchText.{arch_text}
use Rattle.vhdl_text.specs.Text.{◌⁀◌}
use Rattle.vhdl_text.specs.VerilogText.{module_text, text_in}
use Rattle.vhdl_text.specs.declared.arch.Arch.{Arch}
use Rattle.vhdl_text.specs.declared.language.Language.{Language}
use Rattle.vhdl_text.specs.declared.language.Language.TheVariants as languages
use Rattle.vhdl_writer.specs.Architecture.{architectures}
use Rattle.vhdl_writer.specs.Clashes.{first_clash}
use Rattle.vhdl_writer.specs.declared.pieces.DesignPieces.{DesignPieces}
use Rattle.vhdl_writer.specs.declared.pieces.DesignText.{DesignText}
use Rattle.vhdl_writer.specs.declared.measured.Measured.{Measured}
use Rattle.vhdl_writer.specs.declared.fault.ArchFault.{ArchFault}
use Rattle.vhdl_writer.specs.declared.fault.ArchFault.TheVariants as faults

-- the directive in front of all modules, by which a name that is not declared is an error (IEEE 1364-2001, `default_nettype)
abbrev pub first_directive : List ℕ
first_directive = codes "`default_nettype none\n"

-- and the one behind them, which takes it back
abbrev pub last_directive : List ℕ
last_directive = codes "`default_nettype wire\n"

-- the text of entities and architectures, in their order
abbrev pub design_text : Language → List Arch → List ℕ
design_text languages.Vhdl archs = flat_map arch_text archs
design_text languages.Verilog archs = first_directive ⁀ flat_map module_text archs ⁀ last_directive

-- ---- in pieces

-- a directive that is still to come; nothing where it is not
abbrev pub directive_left : Bool → List ℕ → List ℕ
directive_left true directive = directive
directive_left false directive = []

-- the text that is left
abbrev pub text_left : DesignPieces → List ℕ
text_left pieces =
    directive_left pieces.first first_directive ⁀ flat_map (text_in pieces.language) (drop pieces.next pieces.archs) ⁀ directive_left pieces.last last_directive

-- whether the texts of a language stand between directives
abbrev pub has_directives : Language → Bool
has_directives languages.Vhdl = false
has_directives languages.Verilog = true

-- ---- within a limit

-- the number of bytes of the text of these, as a length can be
abbrev pub length_of : Language → List Arch → ℕ
length_of language archs = min (length (design_text language archs)) most_bytes

-- entities and architectures whose text has at most so many bytes, with how many it has
pub record AreMeasured (language : Language) (limit : ℕ) (archs : List Arch) (made : Measured) : Type 0 where
  pub archs_are : made.archs ≡ archs
  pub length_is : made.length ≡ length_of language archs
  pub within : made.length ≤ limit

-- the same, or none where the text has more bytes
abbrev pub AreWithin : Language → ℕ → List Arch → Option Measured → Type 0
AreWithin language limit archs (Some made) = AreMeasured language limit archs made
AreWithin language limit archs None = limit < length (design_text language archs)

-- the text of these, of at most so many bytes, none of which is made yet
pub record IsWhole (language : Language) (limit : ℕ) (archs : List Arch) (text : DesignText) : Type 0 where
  pub left : text_left text.pieces ≡ design_text language archs
  pub length_is : text.length ≡ length_of language archs
  pub within : text.length ≤ limit

-- the text of a design whose types have this first clash: there is none where there is a clash, and it is not made where it has more bytes
-- than the limit. Want of memory says nothing.
abbrev pub IsDesign : Option (List (List ℕ)) → Language → ℕ → List Arch → Result (Option DesignText) ArchFault → Type 0
IsDesign clash language limit archs (Ok (Some text)) = (clash ≡ None) × IsWhole language limit archs text
IsDesign clash language limit archs (Ok None) = limit < length (design_text language archs)
IsDesign clash language limit archs (Err (faults.NameClash path)) = clash ≡ Some path
IsDesign clash language limit archs (Err faults.Memory) = ⊤

-- the text of the entities and architectures of a project with these nets
abbrev pub IsDesignText : List PlainStreamlet → List ImplNets → Language → ℕ → Result (Option DesignText) ArchFault → Type 0
IsDesignText streamlets impls language limit = IsDesign (first_clash streamlets) language limit (architectures streamlets impls)

-- ---- the making of it

-- of all entities and architectures, these are made so far, with the bytes of their text
pub record AreMade (language : Language) (limit : ℕ) (all so_far rest : List Arch) (count : ℕ) : Type 0 where
  pub together : so_far ++ rest ≡ all
  pub count_is : count ≡ length_of language so_far
  pub within : count ≤ limit
