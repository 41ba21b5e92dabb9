-- The text of a project is read as its project in one way, and always.
use Rattle.std.proofs.Common.{◌≡◌, ℕ, ◌⊎◌, inl, inr, Bool, true, false, List, Option, Some, None, Result, Ok, Err, IfOk, refl, sym, ap, subst, ◌∙◌}
use Rattle.std.specs.Str.{is_utf8}
use Rattle.std.proofs.lemmas.Str.{IsUtf8-from_is_utf8}
use Rattle.tydi_io.specs.Store.{Files}
use Rattle.til_lexer.specs.Tokens.{tokens_of}
use Rattle.til_lexer.specs.declared.fault.LexFault.{LexFault}
use Rattle.til_lexer.specs.declared.token.Token.{Token}
use Rattle.til_parser.specs.Grammar.{Spells}
use Rattle.til_parser.specs.Laws.{IsTreeOf}
use Rattle.til_parser.specs.Lexemes.{lexemes_of}
use Rattle.til_parser.specs.declared.tree.Ast.{Ast}
use Rattle.til_resolve.specs.declared.fault.ResolveFault.{ResolveFault}
use Rattle.til_resolve.specs.declared.fault.ResolveFault.TheVariants as resolving
use Rattle.til_resolve.specs.declared.project.Project.{Project}
use Rattle.til_resolve.specs.Faults.{IsToldOf}
use Rattle.til_resolve.specs.PlainProject.{PlainProject, plain_project, project_of}
use Rattle.til_resolve.specs.SoundProject.{IsSoundProject}
use Rattle.til_resolve.proofs.SoundProjectLemmas.{sound-project}
use Rattle.til_resolve.proofs.ToldLemmas.{one-told, some-told}
use Rattle.tydi_tool.specs.declared.answer.Answer.TheVariants as answers
use Rattle.tydi_tool.specs.declared.answer.Reply.{Reply}
use Rattle.tydi_tool.specs.declared.answer.Reply.TheVariants as replies
use Rattle.tydi_tool.specs.Ask.{IsAsked}
use Rattle.tydi_tool.specs.Laws.{HasSome, ReadsOnce}
use Rattle.tydi_tool.specs.Projects.{ReadsProject, Resolves}
use Rattle.tydi_tool.specs.Reading.{IsRefusedBy, ReadsAs, ReadsBy, RefusesBy, Seen}
use Rattle.tydi_tool.specs.Refusals.{Refusal, refusal_line, refusal_of_lexing, refusal_of_resolving}
use Rattle.tydi_tool.specs.Words.{FileWord}
use Rattle.tydi_tool.specs.Trees.{ReadsCoded, ReadsTokens, ReadsTree, refusal_of_parsing}
use Rattle.tydi_tool.proofs.AnswerLemmas.{ReadsTree-once, RefusesBy-line, not_read, same_ok}
use Rattle.tydi_tool.proofs.SomeLemmas.{ReadsCoded-some}

-- ---- by way of another reading

module _ {X Y : Type 0} (Reads : List ℕ → Result X (List ℕ) → Type 0) (Step : X → Result Y (List ℕ) → Type 0) where
  -- a step makes one thing of what is read
  pub record StepsOnce : Type 0 where
    pub same : (bytes : List ℕ) (x : X) (one other : Y) → Reads bytes (Ok x) → Step x (Ok one) → Step x (Ok other) → one ≡ other
    pub apart : (bytes : List ℕ) (x : X) (y : Y) (line : List ℕ) → Reads bytes (Ok x) → Step x (Ok y) → Step x (Err line) → ⊥
    pub lines : (bytes : List ℕ) (x : X) (one other : List ℕ) → Reads bytes (Ok x) → Step x (Err one) → Step x (Err other) → one ≡ other

  -- a step from another reading of the same bytes is a step from this one
  over : (bytes : List ℕ) (x y : X) (read : Result Y (List ℕ)) → ReadsOnce Reads → Reads bytes (Ok x) → Reads bytes (Ok y) → Step y read → Step x read
  over bytes x y read once p q step = subst (λ (a : X). Step a read) (once.same bytes y x q p) step

  same_by : (bytes : List ℕ) (one other : Y) → ReadsOnce Reads → StepsOnce → ReadsBy Reads Step bytes (Ok one) → ReadsBy Reads Step bytes (Ok other) → one ≡ other
  same_by bytes one other once steps p q = steps.same bytes p.0 one other p.1.0 p.1.1 (over bytes p.0 q.0 (Ok other) once p.1.0 q.1.0 q.1.1)

  apart_by : (bytes : List ℕ) (y : Y) (line : List ℕ) → ReadsOnce Reads → StepsOnce → ReadsBy Reads Step bytes (Ok y) → ReadsBy Reads Step bytes (Err line) → ⊥
  apart_by bytes y line once steps p (inl refused) = once.apart bytes p.0 line p.1.0 refused
  apart_by bytes y line once steps p (inr q) = steps.apart bytes p.0 y line p.1.0 p.1.1 (over bytes p.0 q.0 (Err line) once p.1.0 q.1.0 q.1.1)

  lines_by : (bytes one other : List ℕ) → ReadsOnce Reads → StepsOnce → ReadsBy Reads Step bytes (Err one) → ReadsBy Reads Step bytes (Err other) → one ≡ other
  lines_by bytes one other once steps (inl p) (inl q) = once.lines bytes one other p q
  lines_by bytes one other once steps (inl p) (inr q) = absurd (once.apart bytes q.0 one q.1.0 p)
  lines_by bytes one other once steps (inr p) (inl q) = absurd (once.apart bytes p.0 other p.1.0 q)
  lines_by bytes one other once steps (inr p) (inr q) = steps.lines bytes p.0 one other p.1.0 p.1.1 (over bytes p.0 q.0 (Err other) once p.1.0 q.1.0 q.1.1)

  pub ReadsBy-once : ReadsOnce Reads → StepsOnce → ReadsOnce (ReadsBy Reads Step)
  ReadsBy-once once steps = record {
    same = λ bytes one other p q. same_by bytes one other once steps p q;
    apart = λ bytes y line p q. apart_by bytes y line once steps p q;
    lines = λ bytes one other p q. lines_by bytes one other once steps p q;
  }

  pub ReadsBy-some : (bytes : List ℕ) → HasSome (Result X (List ℕ)) (Reads bytes) → ((x : X) → Reads bytes (Ok x) → HasSome (Result Y (List ℕ)) (Step x))
      → HasSome (Result Y (List ℕ)) (ReadsBy Reads Step bytes)
  ReadsBy-some bytes some steps none = some by
    where
      stepped : (x : X) → Reads bytes (Ok x) → (read : Result Y (List ℕ)) → Step x read → ⊥
      stepped x reads (Ok y) step = none (Ok y) (x, (reads, step))
      stepped x reads (Err line) step = none (Err line) (inr (x, (reads, step)))

      by : (read : Result X (List ℕ)) → Reads bytes read → ⊥
      by (Ok x) reads = steps x reads (stepped x reads)
      by (Err line) reads = none (Err line) (inl reads)

-- ---- a tree is resolved

-- a text that is read as a tree is one of the tree
tree-of : (word bytes : List ℕ) (ast : Ast) → ReadsTree word bytes (Ok ast) → IsTreeOf bytes ast
tree-of word bytes ast reads = by (is_utf8 bytes) refl reads
  where
    by_tokens : (read : Result (List Token) LexFault) → is_utf8 bytes ≡ true → tokens_of bytes ≡ read → ReadsTokens word bytes read (Ok ast) → IsTreeOf bytes ast
    by_tokens (Ok tokens) utf8 lexed (inl tree) = record {
      utf8 = IsUtf8-from_is_utf8 bytes utf8;
      tokens = tokens;
      lexed = lexed;
      spelled = subst (λ (a : Ast). Spells a (lexemes_of bytes tokens)) (sym (same_ok ast tree.ast tree.says)) tree.is.spelled;
    }
    by_tokens (Ok tokens) utf8 lexed (inr none) = absurd (not_read (refusal_of_parsing word tokens none.fault) ast none.says)
    by_tokens (Err fault) utf8 lexed refused = absurd (not_read (refusal_of_lexing word fault) ast refused)

    by : (coded : Bool) → is_utf8 bytes ≡ coded → ReadsCoded word bytes coded (Ok ast) → IsTreeOf bytes ast
    by true utf8 reads = by_tokens (tokens_of bytes) utf8 refl reads
    by false utf8 reads = absurd cc

same-line : (word : List ℕ) (one other : ResolveFault) (line last : List ℕ) → other ≡ one → RefusesBy {X = PlainProject} (refusal_of_resolving word one) (Err line)
    → RefusesBy {X = PlainProject} (refusal_of_resolving word other) (Err last) → line ≡ last
same-line word one other line last same x y = RefusesBy-line PlainProject (refusal_of_resolving word one) line last x
    (subst (λ (fault : ResolveFault). RefusesBy {X = PlainProject} (refusal_of_resolving word fault) (Err last)) same y)

Resolves-once : (word : List ℕ) → StepsOnce (ReadsTree word) (Resolves word)
Resolves-once word = record {
  same = λ bytes ast one other reads x y. x.1 ∙ sym y.1;
  apart = λ bytes ast project line reads x y. x.0 y.0 y.1.0.there;
  lines = λ bytes ast one other reads x y. same-line word x.0 y.0 one other (one-told bytes ast y.0 x.0 (tree-of word bytes ast reads) y.1.0 x.1.0) x.1.1 y.1.1;
}

some-refusal : (word : List ℕ) (fault : ResolveFault) → (fault ≡ resolving.Memory → ⊥) → (line : List ℕ) × RefusesBy {X = PlainProject} (refusal_of_resolving word fault) (Err line)
some-refusal word (resolving.DeclaredTwice place) some = (_, refl)
some-refusal word (resolving.UnknownName place) some = (_, refl)
some-refusal word (resolving.WrongKind place) some = (_, refl)
some-refusal word (resolving.CyclicType place) some = (_, refl)
some-refusal word (resolving.TypeTooLarge place) some = (_, refl)
some-refusal word (resolving.BadType place fault) some = (_, refl)
some-refusal word (resolving.PortNotStream place) some = (_, refl)
some-refusal word (resolving.CyclicInstance place) some = (_, refl)
some-refusal word resolving.Memory some = absurd (some refl)

Resolves-some : (word : List ℕ) (ast : Ast) → HasSome (Result PlainProject (List ℕ)) (Resolves word ast)
Resolves-some word ast none = none (Ok (project_of ast)) (some-told ast no_fault, refl)
  where
    no_fault : (fault : ResolveFault) → IsToldOf ast fault → ⊥
    no_fault fault told = let line = some-refusal word fault (λ memory. (subst (IsToldOf ast) memory told).there) in none (Err line.0) (fault, (told, line.1))

-- ---- the text of a project

pub ReadsProject-once : (word : List ℕ) → ReadsOnce (ReadsProject word)
ReadsProject-once word = ReadsBy-once (ReadsTree word) (Resolves word) (ReadsTree-once word) (Resolves-once word)

pub ReadsProject-some : (word bytes : List ℕ) → HasSome (Result PlainProject (List ℕ)) (ReadsProject word bytes)
ReadsProject-some word bytes = ReadsBy-some (ReadsTree word) (Resolves word) bytes (ReadsCoded-some word bytes (is_utf8 bytes) refl) (λ ast reads. Resolves-some word ast)

-- a project that is read stands
pub ReadsProject-sound : (word bytes : List ℕ) (project : PlainProject) → ReadsProject word bytes (Ok project) → IsSoundProject project
ReadsProject-sound word bytes project reads = subst IsSoundProject (sym reads.1.1.1) (sound-project reads.0 reads.1.1.0)

-- and so does one that was asked for
pub IsAsked-sound : (told : Option Files) (file : FileWord) (word : List ℕ) (old new : Option (List ℕ × ℕ)) (rose : Type 0) (result : Result Project Reply)
    → IsAsked told file (λ bytes. Seen plain_project (ReadsProject word bytes)) old new rose result → IfOk result (λ project. IsSoundProject (plain_project project))
IsAsked-sound told file word old new rose (Ok project) asked = ReadsProject-sound word asked.0 (plain_project project) asked.1.1.0
IsAsked-sound told file word old new rose (Err reply) asked = tt

-- ---- a tree with a fault

refused-line : (refusal : Refusal) → RefusesBy {X = PlainProject} (Some refusal) (Err (refusal_line refusal))
refused-line refusal = refl

pub Resolves-refused : (word : List ℕ) (ast : Ast) (fault : ResolveFault) (reply : Reply) → ((fault ≡ resolving.Memory → ⊥) → IsToldOf ast fault)
    → IsRefusedBy (refusal_of_resolving word fault) reply → ReadsAs {X = Project} (Seen plain_project (Resolves word ast)) (Err reply)
Resolves-refused word ast fault reply told refused = by (refusal_of_resolving word fault) refl refused
  where
    some_refusal : (refusal : Refusal) → refusal_of_resolving word fault ≡ Some refusal → fault ≡ resolving.Memory → ⊥
    some_refusal refusal is memory = let e = ap (refusal_of_resolving word) memory in absurd cc

    says : (refusal : Refusal) → refusal_of_resolving word fault ≡ Some refusal → (reply ≡ replies.Says (answers.Refused (refusal_line refusal))) ⊎ (reply ≡ replies.Memory)
        → ReadsAs {X = Project} (Seen plain_project (Resolves word ast)) (Err reply)
    says refusal is (inl line) = subst (λ r. ReadsAs {X = Project} (Seen plain_project (Resolves word ast)) (Err r)) (sym line)
        (fault, (told (some_refusal refusal is), subst (λ (r : Option Refusal). RefusesBy {X = PlainProject} r (Err (refusal_line refusal))) (sym is) (refused-line refusal)))
    says refusal is (inr memory) = subst (λ r. ReadsAs {X = Project} (Seen plain_project (Resolves word ast)) (Err r)) (sym memory) tt

    by : (refusal : Option Refusal) → refusal_of_resolving word fault ≡ refusal → IsRefusedBy refusal reply → ReadsAs {X = Project} (Seen plain_project (Resolves word ast)) (Err reply)
    by (Some refusal) is refused = says refusal is refused
    by None is memory = subst (λ r. ReadsAs {X = Project} (Seen plain_project (Resolves word ast)) (Err r)) (sym memory) tt
