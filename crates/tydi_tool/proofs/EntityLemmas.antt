-- The answer of `vhdl` and of `verilog`: the entities and architectures of a project, or the refusal of its first port whose type is not split, or of its first
-- link error.
use Rattle.std.proofs.Common.{◌≡◌, ℕ, inl, inr, List, Option, Some, None, refl, sym, ◌∙◌, subst}
use Rattle.til_resolve.specs.PlainProject.{PlainProject, PlainStreamlet}
use Rattle.link_check.specs.Checked.{linked}
use Rattle.link_check.specs.Laws.{AnswersAreOfTheProject}
use Rattle.vhdl_text.specs.declared.language.Language.{Language}
use Rattle.vhdl_writer.specs.PortClashes.{first_clash}
use Rattle.vhdl_writer.specs.declared.clash.Clash.{Clash}
use Rattle.tydi_tool.specs.declared.answer.Answer.{Answer}
use Rattle.tydi_tool.specs.declared.answer.Answer.TheVariants as answers
use Rattle.tydi_tool.specs.declared.answer.Reply.{Reply}
use Rattle.tydi_tool.specs.Ask.{Judges}
use Rattle.tydi_tool.specs.Entities.{TellsApart, TellsDesign, refusal_of_clash, text_of_nets}
use Rattle.tydi_tool.specs.Laws.{HasSome}
use Rattle.tydi_tool.specs.Reading.{IsRefusedBy}
use Rattle.tydi_tool.specs.Refusals.{refusal_line}
use Rattle.tydi_tool.proofs.LinkLemmas.{checked-one, checked-some}

-- ---- a step in code

-- the types of the project have this first clash, or none
pub apart-told : (language : Language) (word : List ℕ) (project : PlainProject) (found : Option Clash) (reply : Reply) → found ≡ first_clash project.streamlets → Judges (TellsApart language word project.streamlets found) reply
    → Judges (TellsDesign language word project) reply
apart-told language word project found reply is judges = subst (λ (o : Option Clash). Judges (TellsApart language word project.streamlets o) reply) is judges

pub clash-told : (language : Language) (word : List ℕ) (streamlets : List PlainStreamlet) (clash : Clash) (reply : Reply) → IsRefusedBy (Some (refusal_of_clash clash)) reply → Judges (TellsApart language word streamlets (Some clash)) reply
clash-told language word streamlets clash reply (inl says) = subst (Judges (TellsApart language word streamlets (Some clash))) (sym says) refl
clash-told language word streamlets clash reply (inr memory) = subst (Judges (TellsApart language word streamlets (Some clash))) (sym memory) tt

-- ---- one answer, and some

apart-one : (language : Language) (word : List ℕ) (streamlets : List PlainStreamlet) (found : Option Clash) (a b : Answer) → TellsApart language word streamlets found a → TellsApart language word streamlets found b → a ≡ b
apart-one language word streamlets (Some clash) a b p q = p ∙ sym q
apart-one language word streamlets None a b p q = checked-one word (text_of_nets language streamlets) (linked streamlets) a b p q

pub design-one : (language : Language) (word : List ℕ) (project : PlainProject) (a b : Answer) → TellsDesign language word project a → TellsDesign language word project b → a ≡ b
design-one language word project a b p q = apart-one language word project.streamlets (first_clash project.streamlets) a b p q

apart-some : AnswersAreOfTheProject → (language : Language) (word : List ℕ) (streamlets : List PlainStreamlet) (found : Option Clash) → HasSome Answer (TellsApart language word streamlets found)
apart-some checks language word streamlets (Some clash) = λ none. none (answers.Refused (refusal_line (refusal_of_clash clash))) refl
apart-some checks language word streamlets None = checked-some checks word (text_of_nets language streamlets) streamlets

pub design-some : AnswersAreOfTheProject → (language : Language) (word : List ℕ) (project : PlainProject) → HasSome Answer (TellsDesign language word project)
design-some checks language word project = apart-some checks language word project.streamlets (first_clash project.streamlets)
