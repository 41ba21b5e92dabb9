-- The answer of `link`: the nets of a project, or the refusal of its first link error.
use Rattle.std.proofs.Common.{◌≡◌, ◌≢◌, ℕ, inl, inr, Bool, true, false, cond, nat_lt, List, length, Option, Some, None, Result, Ok, Err, refl, sym, ap, ◌∙◌, subst}
use Rattle.til_resolve.specs.PlainProject.{PlainProject, PlainStreamlet}
use Rattle.link_check.specs.Checked.{linked}
use Rattle.link_check.specs.Text.{nets_text, within}
use Rattle.link_check.specs.declared.fault.LinkFault.{LinkFault}
use Rattle.link_check.specs.declared.fault.LinkFault.TheVariants as linking
use Rattle.link_check.specs.declared.nets.Nets.{Nets}
use Rattle.link_check.specs.Laws.{AnswersAreOfTheProject}
use Rattle.tydi_tool.specs.declared.answer.Answer.{Answer}
use Rattle.tydi_tool.specs.declared.answer.Answer.TheVariants as answers
use Rattle.tydi_tool.specs.declared.answer.Reply.{Reply}
use Rattle.tydi_tool.specs.Ask.{Judges}
use Rattle.tydi_tool.specs.Laws.{HasSome}
use Rattle.tydi_tool.specs.Links.{TellsChecked, TellsLinked, TellsRefusal, refusal_of_linking}
use Rattle.tydi_tool.specs.Outcome.{output_answer, output_limit, output_too_long_line}
use Rattle.tydi_tool.specs.Reading.{IsRefusedBy}
use Rattle.tydi_tool.specs.Refusals.{Refusal}

-- ---- a step in code

Judges-refusal : (refusal : Option Refusal) (reply : Reply) → IsRefusedBy refusal reply → Judges (TellsRefusal refusal) reply
Judges-refusal (Some refusal) reply (inl says) = subst (Judges (TellsRefusal (Some refusal))) (sym says) refl
Judges-refusal (Some refusal) reply (inr memory) = subst (Judges (TellsRefusal (Some refusal))) (sym memory) tt
Judges-refusal None reply memory = subst (Judges (TellsRefusal None)) (sym memory) tt

-- an error that has a refusal is not want of memory
no_memory : (word : List ℕ) (fault : LinkFault) (refusal : Refusal) → refusal_of_linking word fault ≡ Some refusal → fault ≢ linking.Memory
no_memory word fault refusal some same = no_refusal (subst (λ (f : LinkFault). refusal_of_linking word f ≡ Some refusal) same some)
  where
    no_refusal : ◌≡◌ {A = Option Refusal} None (Some refusal) → ⊥
    no_refusal e = cc

-- the project has these nets
pub checked-told : (word : List ℕ) (write : Nets → List ℕ) (found : Result Nets LinkFault) (nets : Nets) (reply : Reply) → found ≡ Ok nets → Judges (λ a. a ≡ output_answer (write nets)) reply
    → Judges (TellsChecked word write found) reply
checked-told word write found nets reply is judges = subst (λ (r : Result Nets LinkFault). Judges (TellsChecked word write r) reply) (sym is) judges

-- the project has this error, or there was no memory
pub checked-refused : (word : List ℕ) (write : Nets → List ℕ) (found : Result Nets LinkFault) (fault : LinkFault) (reply : Reply) → (fault ≢ linking.Memory → found ≡ Err fault)
    → IsRefusedBy (refusal_of_linking word fault) reply → Judges (TellsChecked word write found) reply
checked-refused word write found fault reply is refused = by (refusal_of_linking word fault) refl refused
  where
    by : (refusal : Option Refusal) → refusal_of_linking word fault ≡ refusal → IsRefusedBy refusal reply → Judges (TellsChecked word write found) reply
    by None none memory = subst (Judges (TellsChecked word write found)) (sym memory) tt
    by (Some refusal) some refused =
        subst (λ (r : Result Nets LinkFault). Judges (TellsChecked word write r) reply) (sym (is (no_memory word fault refusal some)))
        (subst (λ (o : Option Refusal). Judges (TellsRefusal o) reply) (sym some) (Judges-refusal (Some refusal) reply refused))

-- ---- a text of at most so many bytes

by_length : (text : List ℕ) (long : Bool) → nat_lt output_limit (length text) ≡ long → output_answer text ≡ cond long (answers.Refused output_too_long_line) (answers.Done text)
by_length text long is = ap (λ (b : Bool). cond b (answers.Refused output_too_long_line) (answers.Done text)) is

same_text : (one other : List ℕ) → ◌≡◌ {A = Option (List ℕ)} (Some one) (Some other) → one ≡ other
same_text one other e = cc

pub within-some : (text kept : List ℕ) → Some kept ≡ within output_limit text → output_answer text ≡ answers.Done kept
within-some text kept is = by (nat_lt output_limit (length text)) refl is
  where
    by : (long : Bool) → nat_lt output_limit (length text) ≡ long → ◌≡◌ {A = Option (List ℕ)} (Some kept) (cond long None (Some text)) → output_answer text ≡ answers.Done kept
    by true long is = absurd cc
    by false short is = by_length text false short ∙ ap answers.Done (sym (same_text kept text is))

pub within-none : (text : List ℕ) → ◌≡◌ {A = Option (List ℕ)} None (within output_limit text) → output_answer text ≡ answers.Refused output_too_long_line
within-none text is = by (nat_lt output_limit (length text)) refl is
  where
    by : (long : Bool) → nat_lt output_limit (length text) ≡ long → ◌≡◌ {A = Option (List ℕ)} None (cond long None (Some text)) → output_answer text ≡ answers.Refused output_too_long_line
    by true long is = by_length text true long
    by false short is = absurd cc

-- ---- one answer, and some

refusal-one : (refusal : Option Refusal) (a b : Answer) → TellsRefusal refusal a → TellsRefusal refusal b → a ≡ b
refusal-one (Some refusal) a b p q = p ∙ sym q
refusal-one None a b p q = absurd p

pub checked-one : (word : List ℕ) (write : Nets → List ℕ) (found : Result Nets LinkFault) (a b : Answer) → TellsChecked word write found a → TellsChecked word write found b → a ≡ b
checked-one word write (Ok nets) a b p q = p ∙ sym q
checked-one word write (Err fault) a b p q = refusal-one (refusal_of_linking word fault) a b p q

pub linked-one : (word : List ℕ) (project : PlainProject) (a b : Answer) → TellsLinked word project a → TellsLinked word project b → a ≡ b
linked-one word project a b p q = checked-one word (nets_text project.streamlets) (linked project.streamlets) a b p q

fault-some : (word : List ℕ) (fault : LinkFault) → fault ≢ linking.Memory → HasSome Answer (TellsRefusal (refusal_of_linking word fault))
fault-some word (linking.UnknownEnd place) real = λ none. none _ refl
fault-some word (linking.SameSide place) real = λ none. none _ refl
fault-some word (linking.NotCompatible place difference) real = λ none. none _ refl
fault-some word (linking.LinkedTwice place) real = λ none. none _ refl
fault-some word (linking.Unlinked place) real = λ none. none _ refl
fault-some word linking.DesignTooLarge real = λ none. none _ refl
fault-some word linking.Memory real = absurd (real refl)

-- the check has an answer of its own
pub checked-some : AnswersAreOfTheProject → (word : List ℕ) (write : Nets → List ℕ) (streamlets : List PlainStreamlet) → HasSome Answer (TellsChecked word write (linked streamlets))
checked-some checks word write streamlets = by (linked streamlets) (checks streamlets)
  where
    by : (found : Result Nets LinkFault) → found ≢ Err linking.Memory → HasSome Answer (TellsChecked word write found)
    by (Ok nets) real = λ none. none (output_answer (write nets)) refl
    by (Err fault) real = fault-some word fault (λ same. real (ap Err same))

pub linked-some : AnswersAreOfTheProject → (word : List ℕ) (project : PlainProject) → HasSome Answer (TellsLinked word project)
linked-some checks word project = checked-some checks word (nets_text project.streamlets) project.streamlets
