-- How texts are read.
use Rattle.std.proofs.Common.{◌≡◌, ◌≢◌, ℕ, ◌⊎◌, inl, inr, List, length, Bool, true, false, refl, sym, ap, ◌∙◌, subst, Option, None, Some, Result, Ok, Err}
use Rattle.std.specs.Str.{IsUtf8, is_utf8}
use Rattle.std.specs.Str.Lossy.{utf8_valid_len}
use Rattle.std.proofs.lemmas.Str.{IsUtf8-from_is_utf8, is_utf8-from_IsUtf8}
use Rattle.std.proofs.lemmas.Option.{none-some}
use Rattle.physical_stream.specs.declared.head.Head.{Head}
use Rattle.cycle_trace.specs.Trace.{TraceText}
use Rattle.cycle_trace.specs.TraceText.{trace_of}
use Rattle.cycle_trace.specs.declared.fault.TraceFault.{TraceFault}
use Rattle.til_lexer.specs.Tokens.{tokens_of}
use Rattle.til_lexer.specs.declared.token.Token.{Token}
use Rattle.til_parser.specs.Faults.{IsFaultOf}
use Rattle.til_parser.specs.Grammar.{SpellNone}
use Rattle.til_parser.specs.Lexemes.{lexemes_of}
use Rattle.til_parser.specs.declared.fault.ParseFault.{ParseFault}
use Rattle.til_parser.specs.declared.fault.ParseFault.TheVariants as parsing
use Rattle.til_parser.specs.declared.tree.Ast.{Ast}
use Rattle.tydi_tool.specs.declared.answer.Answer.TheVariants as answers
use Rattle.tydi_tool.specs.declared.answer.Reply.{Reply}
use Rattle.tydi_tool.specs.declared.answer.Reply.TheVariants as replies
use Rattle.tydi_tool.specs.declared.traces.Survey.{Survey}
use Rattle.tydi_tool.specs.Reading.{RefusesBy, ReadsAs, IsRefusedBy}
use Rattle.tydi_tool.specs.Refusals.{Refusal, not_utf8, refusal_line, refusal_of_trace}
use Rattle.tydi_tool.specs.Reports.{IsFoundAmong}
use Rattle.tydi_tool.specs.Traces.{ReadsReading, ReadsTrace}
use Rattle.tydi_tool.specs.Trees.{ReadsTokens, ReadsCoded, ReadsTree, refusal_of_parsing}
use Rattle.tydi_tool.proofs.ReportLemmas.{IsFoundAmong-heads}

-- ---- a trace

-- the finding names one of the streams
IsFoundAmong-reading : (word : List ℕ) (reading : Result TraceText TraceFault) (survey : Survey) → ReadsReading word reading (Ok survey) →
    IsFoundAmong (length survey.heads) survey.found
IsFoundAmong-reading word (Ok trace) survey reads =
    subst (λ (heads : List Head). IsFoundAmong (length heads) survey.found) (sym reads.heads) (IsFoundAmong-heads trace survey.found reads.found)
IsFoundAmong-reading word (Err fault) survey reads = not_ok fault reads
  where
    by_refusal : (refusal : Option Refusal) → RefusesBy refusal (Ok survey) → IsFoundAmong (length survey.heads) survey.found
    by_refusal (Some refusal) r = cc
    by_refusal None r = absurd r

    not_ok : (fault : TraceFault) → RefusesBy (refusal_of_trace word fault) (Ok survey) → IsFoundAmong (length survey.heads) survey.found
    not_ok fault r = by_refusal (refusal_of_trace word fault) r

pub IsFoundAmong-read : (word bytes : List ℕ) (survey : Survey) → ReadsTrace word bytes (Ok survey) → IsFoundAmong (length survey.heads) survey.found
IsFoundAmong-read word bytes survey reads = IsFoundAmong-reading word (trace_of bytes) survey reads

-- ---- a project

-- bytes that are UTF-8
pub ReadsTree-utf8 : (word bytes : List ℕ) (read : Result Ast Reply) → IsUtf8 bytes → ReadsAs (ReadsTokens word bytes (tokens_of bytes)) read → ReadsAs (ReadsTree word bytes) read
ReadsTree-utf8 word bytes read utf8 reads = subst (λ (coded : Bool). ReadsAs (ReadsCoded word bytes coded) read) (sym (is_utf8-from_IsUtf8 bytes utf8)) reads

not_coded : (bytes : List ℕ) (coded : Bool) → is_utf8 bytes ≡ coded → (IsUtf8 bytes → ⊥) → is_utf8 bytes ≡ false
not_coded bytes true is other = absurd (other (IsUtf8-from_is_utf8 bytes is))
not_coded bytes false is other = is

-- bytes that are not
pub ReadsTree-other : (word bytes : List ℕ) (front : ℕ) (reply : Reply) → (IsUtf8 bytes → ⊥) → front ≡ utf8_valid_len bytes →
    (reply ≡ replies.Says (answers.Refused (refusal_line (not_utf8 word front)))) ⊎ (reply ≡ replies.Memory) → ReadsAs (ReadsTree word bytes) (Err reply)
ReadsTree-other word bytes front reply other length (inl says) =
    let line : List ℕ = refusal_line (not_utf8 word front) in
    let reads : ReadsCoded word bytes false (Err line) = ap (λ (n : ℕ). Err (refusal_line (not_utf8 word n))) length in
    subst (λ (r : Reply). ReadsAs (ReadsTree word bytes) (Err r)) (sym says)
    (subst (λ (coded : Bool). ReadsCoded word bytes coded (Err line)) (sym (not_coded bytes (is_utf8 bytes) refl other)) reads)
ReadsTree-other word bytes front reply other length (inr memory) = subst (λ (r : Reply). ReadsAs (ReadsTree word bytes) (Err r)) (sym memory) tt

wanted : (word text : List ℕ) (tokens : List Token) (reply : Reply) → reply ≡ replies.Memory → ReadsAs (ReadsTokens word text (Ok tokens)) (Err reply)
wanted word text tokens reply memory = subst (λ (r : Reply). ReadsAs (ReadsTokens word text (Ok tokens)) (Err r)) (sym memory) tt

no_tree : (word text : List ℕ) (tokens : List Token) (fault : ParseFault) (reply : Reply) (refusal : Option Refusal) → refusal_of_parsing word tokens fault ≡ refusal
    → IsRefusedBy refusal reply → (fault ≢ parsing.Memory → SpellNone (lexemes_of text tokens)) → (fault ≢ parsing.Memory → IsFaultOf (lexemes_of text tokens) fault)
    → ReadsAs (ReadsTokens word text (Ok tokens)) (Err reply)
no_tree word text tokens fault reply (Some refusal) is (inl says) none exact =
    let other : fault ≢ parsing.Memory = λ memory. none-some refusal (sym (ap (refusal_of_parsing word tokens) memory) ∙ is) in
    subst (λ (r : Reply). ReadsAs (ReadsTokens word text (Ok tokens)) (Err r)) (sym says)
    (inr (record {
      none = λ ast project. none other ast project.spelled project.within;
      fault = fault;
      is = exact other;
      says = subst (λ (o : Option Refusal). RefusesBy {X = Ast} o (Err (refusal_line refusal))) (sym is) refl;
    }))
no_tree word text tokens fault reply (Some refusal) is (inr memory) none exact = wanted word text tokens reply memory
no_tree word text tokens fault reply None is memory none exact = wanted word text tokens reply memory

-- tokens that spell no tree, refused for their fault
pub ReadsTokens-unparsed : (word text : List ℕ) (tokens : List Token) (fault : ParseFault) (reply : Reply) → IsRefusedBy (refusal_of_parsing word tokens fault) reply →
    (fault ≢ parsing.Memory → SpellNone (lexemes_of text tokens)) → (fault ≢ parsing.Memory → IsFaultOf (lexemes_of text tokens) fault) →
    ReadsAs (ReadsTokens word text (Ok tokens)) (Err reply)
ReadsTokens-unparsed word text tokens fault reply refused none exact = no_tree word text tokens fault reply (refusal_of_parsing word tokens fault) refl refused none exact
