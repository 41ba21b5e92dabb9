-- The texts that `vhdl` and `verilog` write.
use Rattle.std.proofs.Common.{◌≡◌, ◌≢◌, ◌∙◌, ℕ, ◌≤◌, List, length, Option, None, Some, Result, Ok, Err, option_map, refl, sym, ap, subst}
use Rattle.tydi_io.specs.Store.{Files}
use Rattle.til_resolve.specs.PlainProject.{PlainProject, PlainStreamlet}
use Rattle.link_check.specs.Checked.{linked}
use Rattle.link_check.specs.declared.fault.LinkFault.{LinkFault}
use Rattle.link_check.specs.declared.nets.Nets.{Nets}
use Rattle.value_text.specs.Laws.{PortSplitsAreNamed}
use Rattle.vhdl_text.specs.declared.language.Language.{Language}
use Rattle.vhdl_text.specs.declared.language.Language.TheVariants as languages
use Rattle.vhdl_writer.specs.Architecture.{architectures}
use Rattle.vhdl_writer.specs.Clashes as reported
use Rattle.vhdl_writer.specs.Designs.{design_text}
use Rattle.vhdl_writer.specs.PortClashes.{FirstClashIsReported, first_clash}
use Rattle.vhdl_writer.specs.WiringLaws.{CheckedNetsAreDriven, CheckedNetsCarry, EachSignalIsAssignedOnce, IsDesigned}
use Rattle.vhdl_writer.specs.declared.clash.Clash.{Clash}
use Rattle.tydi_tool.specs.declared.answer.Answer.TheVariants as answers
use Rattle.tydi_tool.specs.Causes as rows
use Rattle.tydi_tool.specs.Causes.{IsDesignText}
use Rattle.tydi_tool.specs.Ask.{Ends}
use Rattle.tydi_tool.specs.Commands.{Says}
use Rattle.tydi_tool.specs.Entities.{TellsApart, TellsDesign, text_of_nets}
use Rattle.tydi_tool.specs.Links.{TellsChecked}
use Rattle.tydi_tool.specs.Outcome.{output_too_long_line}
use Rattle.tydi_tool.specs.Projects.{ReadsProject}
use Rattle.tydi_tool.specs.WiringLaw.{AreAlike, LanguagesAreAlike, LanguagesAreRefusedAlike, WritesDesign, WrittenDesignsAreWired}
use Rattle.tydi_tool.specs.Words.{Design, project_file}
use Rattle.tydi_tool.proofs.BenchLawLemmas.{long-alone, over-ask}
use Rattle.tydi_tool.proofs.CauseLemmas.{exactly}
use Rattle.tydi_tool.proofs.NameLemmas.{read-named}
use Rattle.tydi_tool.proofs.ProjectLemmas.{ReadsProject-once, ReadsProject-sound}

module _ (splits_named : PortSplitsAreNamed) (first_reported : FirstClashIsReported) (once : EachSignalIsAssignedOnce) (driven : CheckedNetsAreDriven)
    (carry : CheckedNetsCarry) where
  -- the project of a text that is written is one of which the laws of assignments speak
  designed : (known : Files) (language : Language) (project text : List ℕ) (is : IsDesignText known language project text) → IsDesigned is.read is.nets
  designed known language project text is = record {
    sound = ReadsProject-sound project is.bytes is.read is.reads;
    names = read-named splits_named project is.bytes is.read is.reads apart;
    apart = apart;
    nets_are = is.nets_are;
  }
    where
      apart : reported.first_clash is.read.streamlets ≡ None
      apart = first_reported is.read.streamlets ∙ ap (option_map (λ (clash : Clash). clash.path)) is.apart

  writes : (known : Files) (language : Language) (project text : List ℕ) → IsDesignText known language project text → WritesDesign known language project text
  writes known language project text is = record {
    read = is.read;
    has = record { bytes = is.bytes; file = is.file; reads = is.reads };
    nets = is.nets;
    designed = designed known language project text is;
    is = is.is;
    once = once is.read is.nets (designed known language project text is);
    driven = driven is.read.streamlets is.nets is.nets_are;
    carry = carry is.read.streamlets is.nets is.nets_are;
  }

  same_text : (one other : List ℕ) → answers.Done one ≡ answers.Done other → one ≡ other
  same_text one other e = cc

  pub written-wired : WrittenDesignsAreWired
  written-wired known language project text says =
      let cause = (exactly rows.AText known (Design language project) (answers.Done text)).0 (says, refl) in
      let same : text ≡ cause.text = same_text text cause.text cause.said in (
        subst (λ (l : List ℕ). length l ≤ 67108864) (sym same) cause.within,
        subst (WritesDesign known language project) (sym same) (writes known language project cause.text cause.is),
      )

-- ---- both languages

-- a file has one text, and the text one project
module _ (known : Files) (project vhdl verilog : List ℕ) (one : IsDesignText known languages.Vhdl project vhdl) (other : IsDesignText known languages.Verilog project verilog) where
  same_bytes : (b c : List ℕ) → known project ≡ Some b → known project ≡ Some c → b ≡ c
  same_bytes b c p q = same (sym p ∙ q)
    where
      same : ◌≡◌ {A = Option (List ℕ)} (Some b) (Some c) → b ≡ c
      same e = cc

  same_read : one.read ≡ other.read
  same_read = (ReadsProject-once project).same other.bytes one.read other.read
      (subst (λ (bytes : List ℕ). ReadsProject project bytes (Ok one.read)) (same_bytes one.bytes other.bytes one.file.there other.file.there) one.reads) other.reads

  same_nets : one.nets ≡ other.nets
  same_nets = same (sym one.nets_are ∙ ap (λ (read : PlainProject). linked read.streamlets) same_read ∙ other.nets_are)
    where
      same : ◌≡◌ {A = Result Nets LinkFault} (Ok one.nets) (Ok other.nets) → one.nets ≡ other.nets
      same e = cc

  alike : AreAlike vhdl verilog
  alike = (
    architectures one.read.streamlets one.nets.impls,
    (
      one.is,
      other.is ∙ ap (λ (read : PlainProject). design_text languages.Verilog (architectures read.streamlets other.nets.impls)) (sym same_read)
          ∙ ap (λ (nets : Nets). design_text languages.Verilog (architectures one.read.streamlets nets.impls)) (sym same_nets),
    ),
  )

pub languages-alike : LanguagesAreAlike
languages-alike known project vhdl verilog says_vhdl says_verilog =
    let one = (exactly rows.AText known (Design languages.Vhdl project) (answers.Done vhdl)).0 (says_vhdl, refl) in
    let other = (exactly rows.AText known (Design languages.Verilog project) (answers.Done verilog)).0 (says_verilog, refl) in
    let same_one : vhdl ≡ one.text = done_text vhdl one.text one.said in
    let same_other : verilog ≡ other.text = done_text verilog other.text other.said in
    subst (λ (l : List ℕ). AreAlike l verilog) (sym same_one)
    (subst (λ (l : List ℕ). AreAlike one.text l) (sym same_other) (alike known project one.text other.text one.is other.is))
  where
    done_text : (l m : List ℕ) → answers.Done l ≡ answers.Done m → l ≡ m
    done_text l m e = cc

-- what is refused in the one language is refused in the other
checked-alike : (word line : List ℕ) (one other : Nets → List ℕ) (found : Result Nets LinkFault) → line ≢ output_too_long_line
    → TellsChecked word one found (answers.Refused line) → TellsChecked word other found (answers.Refused line)
checked-alike word line one other (Ok nets) own tells = absurd (own (long-alone (one nets) line tells))
checked-alike word line one other (Err fault) own tells = tells

apart-alike : (one other : Language) (word line : List ℕ) (streamlets : List PlainStreamlet) (found : Option Clash) → line ≢ output_too_long_line
    → TellsApart one word streamlets found (answers.Refused line) → TellsApart other word streamlets found (answers.Refused line)
apart-alike one other word line streamlets (Some clash) own tells = tells
apart-alike one other word line streamlets None own tells = checked-alike word line (text_of_nets one streamlets) (text_of_nets other streamlets) (linked streamlets) own tells

refused-in : (one other : Language) (known : Files) (project line : List ℕ) → line ≢ output_too_long_line
    → Says (Some known) (Some (Design one project)) (answers.Refused line) → Says (Some known) (Some (Design other project)) (answers.Refused line)
refused-in one other known project line own =
    over-ask known (project_file project) (ReadsProject project) (λ read. Ends (TellsDesign one project read)) (λ read. Ends (TellsDesign other project read)) (answers.Refused line)
    (λ read tells. apart-alike one other project line read.streamlets (first_clash read.streamlets) own tells)

pub languages-refused : LanguagesAreRefusedAlike
languages-refused known project line own = (refused-in languages.Vhdl languages.Verilog known project line own, refused-in languages.Verilog languages.Vhdl known project line own)
