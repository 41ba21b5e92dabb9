-- Whatever a command asks for, its files are read in one way, and there is one answer.
use Rattle.std.proofs.Common.{◌≡◌, ℕ, List, Option, None, Some, sym, ap, ◌∙◌, subst, refl, inl, inr, Bool, true, false, Result, Ok, Err}
use Rattle.std.specs.Str.{IsUtf8, is_utf8}
use Rattle.std.proofs.lemmas.Str.{IsUtf8-from_is_utf8}
use Rattle.tydi_io.specs.Store.{Files}
use Rattle.physical_stream.specs.First.{Offence, Offends}
use Rattle.physical_stream.specs.Cycles.{StreamTrace}
use Rattle.physical_stream.specs.declared.end.End.{End}
use Rattle.physical_stream.specs.declared.end.End.TheVariants as ends
use Rattle.physical_stream.specs.declared.head.Head.{Head}
use Rattle.physical_stream.proofs.FirstLemmas.{IsFirst-one}
use Rattle.cycle_trace.specs.Trace.{TraceText, streams_of}
use Rattle.cycle_trace.specs.TraceText.{trace_of}
use Rattle.cycle_trace.specs.Survey.{Surveys, counts_of, first_unfinished, survey_of}
use Rattle.cycle_trace.specs.declared.surveying.counts.Counts.{Counts}
use Rattle.cycle_trace.specs.declared.surveying.counts.SurveyFault.{SurveyFault}
use Rattle.cycle_trace.specs.declared.surveying.counts.SurveyFault.TheVariants as faults
use Rattle.cycle_trace.specs.declared.fault.TraceFault.{TraceFault}
use Rattle.til_lexer.specs.Tokens.{tokens_of}
use Rattle.til_lexer.specs.declared.fault.LexFault.{LexFault}
use Rattle.til_lexer.specs.declared.token.Token.{Token}
use Rattle.til_parser.specs.Faults.{TreeOrFault}
use Rattle.til_parser.specs.Grammar.{Spells}
use Rattle.til_parser.specs.Laws.{IsTreeOf}
use Rattle.til_parser.specs.Lexemes.{lexemes_of}
use Rattle.til_parser.specs.declared.fault.ParseFault.{ParseFault}
use Rattle.til_parser.specs.declared.tree.Ast.{Ast}
use Rattle.til_parser.proofs.LawLemmas.{trees_apart, trees_or_faults}
use Rattle.tydi_tool.specs.declared.answer.Answer.{Answer}
use Rattle.tydi_tool.specs.declared.answer.Answer.TheVariants as answers
use Rattle.tydi_tool.specs.declared.traces.Survey.{Survey}
use Rattle.tydi_tool.specs.Refusals.{Refusal, refusal_line, refusal_of_trace, refusal_of_lexing}
use Rattle.tydi_tool.specs.Reading.{RefusesBy}
use Rattle.tydi_tool.specs.Reports.{Reports, ReportsEnd, path_of_stream}
use Rattle.tydi_tool.specs.Traces.{ReadsReading, ReadsTrace}
use Rattle.tydi_tool.specs.Trees.{ReadsTokens, ReadsCoded, ReadsTree, refusal_of_parsing}
use Rattle.tydi_tool.specs.Files.{Lack, file_of}
use Rattle.tydi_tool.specs.Ask.{Ask, Ends, Asks, SaysOfBytes, SaysOfFile, SaysBy}
use Rattle.tydi_tool.specs.Laws.{ReadsOnce, AsksOnce}

-- ---- whatever a command asks for

pub SaysOfBytes-one : {X : Type 0} (Reads : List ℕ → Result X (List ℕ) → Type 0) (Rest : X → Answer → Type 0) (bytes : List ℕ) (a b : Answer) → ReadsOnce Reads →
    ((x : X) → Reads bytes (Ok x) → Rest x a → Rest x b → a ≡ b) → SaysOfBytes Reads (λ x. Rest x a) bytes a → SaysOfBytes Reads (λ x. Rest x b) bytes b → a ≡ b
SaysOfBytes-one {X} Reads Rest bytes a b once rest (inl p) (inl q) =
    p.1.1 ∙ ap answers.Refused (once.lines bytes p.0 q.0 p.1.0 q.1.0) ∙ sym q.1.1
SaysOfBytes-one {X} Reads Rest bytes a b once rest (inl p) (inr q) = absurd (once.apart bytes q.0 p.0 q.1.0 p.1.0)
SaysOfBytes-one {X} Reads Rest bytes a b once rest (inr p) (inl q) = absurd (once.apart bytes p.0 q.0 p.1.0 q.1.0)
SaysOfBytes-one {X} Reads Rest bytes a b once rest (inr p) (inr q) =
    rest p.0 p.1.0 p.1.1 (subst (λ (x : X). Rest x b) (once.same bytes q.0 p.0 q.1.0 p.1.0) q.1.1)

SaysOfFile-one : {X : Type 0} (word : List ℕ) (Reads : List ℕ → Result X (List ℕ) → Type 0) (next : X → Ask) (told : Files) (found : Result (List ℕ) Lack) (a b : Answer) → ReadsOnce Reads →
    ((bytes : List ℕ) (x : X) → Reads bytes (Ok x) → SaysBy (Some told) (next x) a → SaysBy (Some told) (next x) b → a ≡ b) →
    SaysOfFile Reads (λ x. SaysBy (Some told) (next x) a) word found a → SaysOfFile Reads (λ x. SaysBy (Some told) (next x) b) word found b → a ≡ b
SaysOfFile-one {X} word Reads next told (Ok bytes) a b once rest p q = SaysOfBytes-one Reads (λ x c. SaysBy (Some told) (next x) c) bytes a b once (rest bytes) p q
SaysOfFile-one {X} word Reads next told (Err lack) a b once rest p q = p ∙ sym q

pub SaysBy-one : (told : Files) (ask : Ask) (a b : Answer) → AsksOnce ask → SaysBy (Some told) ask a → SaysBy (Some told) ask b → a ≡ b
SaysBy-one told (Ends Tells) a b once p q = once a b p q
SaysBy-one told (Asks file X Reads next) a b once p q =
    let here : SaysOfFile {X = X} Reads (λ x. SaysBy (Some told) (next x) a) file.word (file_of told file) a
    = subst (λ (found : Result (List ℕ) Lack). SaysOfFile {X = X} Reads (λ x. SaysBy (Some told) (next x) a) file.word found a) (sym p.1.0) p.1.1 in
    let there : SaysOfFile {X = X} Reads (λ x. SaysBy (Some told) (next x) b) file.word (file_of told file) b
    = subst (λ (found : Result (List ℕ) Lack). SaysOfFile {X = X} Reads (λ x. SaysBy (Some told) (next x) b) file.word found b) (sym q.1.0) q.1.1 in
    SaysOfFile-one file.word Reads next told (file_of told file) a b once.0 (λ bytes x reads r s. SaysBy-one told (next x) a b (once.1 bytes x reads) r s) here there

-- ---- a text is refused in one way

pub not_read : {X : Type 0} (refusal : Option Refusal) (x : X) → RefusesBy refusal (Ok x) → ⊥
not_read {X} (Some refusal) x r = let e : ◌≡◌ {A = Result X (List ℕ)} (Ok x) (Err (refusal_line refusal)) = r in cc
not_read {X} None x r = r

same_line : {X : Type 0} (l m : List ℕ) → ◌≡◌ {A = Result X (List ℕ)} (Err l) (Err m) → l ≡ m
same_line {X} l m e = cc

pub RefusesBy-line : (X : Type 0) (refusal : Option Refusal) (one other : List ℕ) → RefusesBy {X = X} refusal (Err one) → RefusesBy {X = X} refusal (Err other) → one ≡ other
RefusesBy-line X (Some refusal) one other r s = same_line {X = X} one other (r ∙ sym s)
RefusesBy-line X None one other r s = absurd r

-- ---- a trace

-- a survey finds one thing
Surveys-one : (streams : List StreamTrace) (a b : Result Counts SurveyFault) → Surveys (Offends streams) streams a → Surveys (Offends streams) streams b → a ≡ b
Surveys-one streams a b x y = x.says ∙ ap (λ (first : Option Offence). survey_of first (first_unfinished 0 streams) (counts_of streams)) (IsFirst-one (Offends streams) x.first y.first x.is_first y.is_first) ∙ sym y.says

survey_with : List Head → Result Counts SurveyFault → Survey
survey_with heads found = record { heads = heads; found = found }

same_survey : (x y : Survey) → x.heads ≡ y.heads → x.found ≡ y.found → x ≡ y
unfolding survey_with
same_survey x y heads found = ap (λ (h : List Head). survey_with h x.found) heads ∙ ap (survey_with y.heads) found

ReadsReading-same : (word : List ℕ) (reading : Result TraceText TraceFault) (x y : Survey) → ReadsReading word reading (Ok x) → ReadsReading word reading (Ok y) → x ≡ y
ReadsReading-same word (Ok trace) x y p q = same_survey x y (p.heads ∙ sym q.heads) (Surveys-one (streams_of trace) x.found y.found p.found q.found)
ReadsReading-same word (Err fault) x y p q = absurd (not_read (refusal_of_trace word fault) x p)

ReadsReading-apart : (word : List ℕ) (reading : Result TraceText TraceFault) (x : Survey) (line : List ℕ) → ReadsReading word reading (Ok x) → ReadsReading word reading (Err line) → ⊥
ReadsReading-apart word (Ok trace) x line p q = q
ReadsReading-apart word (Err fault) x line p q = not_read (refusal_of_trace word fault) x p

ReadsReading-line : (word : List ℕ) (reading : Result TraceText TraceFault) (one other : List ℕ) → ReadsReading word reading (Err one) → ReadsReading word reading (Err other) → one ≡ other
ReadsReading-line word (Ok trace) one other p q = absurd p
ReadsReading-line word (Err fault) one other p q = RefusesBy-line Survey (refusal_of_trace word fault) one other p q

pub ReadsTrace-once : (word : List ℕ) → ReadsOnce (ReadsTrace word)
ReadsTrace-once word = record {
  same = λ bytes x y p q. ReadsReading-same word (trace_of bytes) x y p q;
  apart = λ bytes x line p q. ReadsReading-apart word (trace_of bytes) x line p q;
  lines = λ bytes one other p q. ReadsReading-line word (trace_of bytes) one other p q;
}

pub ReportsEnd-one : (path : List (List ℕ)) (end : End) (a b : Answer) → ReportsEnd path end a → ReportsEnd path end b → a ≡ b
ReportsEnd-one path ends.Whole a b x y = absurd x
ReportsEnd-one path ends.Pending a b x y = x ∙ sym y
ReportsEnd-one path (ends.Unclosed k) a b x y = x ∙ sym y

pub Reports-one : (heads : List Head) (found : Result Counts SurveyFault) (a b : Answer) → Reports heads found a → Reports heads found b → a ≡ b
Reports-one heads (Ok counts) a b x y = x ∙ sym y
Reports-one heads (Err (faults.Offence cycle stream rule)) a b x y = x ∙ sym y
Reports-one heads (Err (faults.Unfinished stream end)) a b x y = ReportsEnd-one (path_of_stream heads stream) end a b x y
Reports-one heads (Err faults.Memory) a b x y = absurd x

-- ---- a project

same_tree : (text : List ℕ) (tokens : List Token) (a b : Ast) → IsUtf8 text → tokens_of text ≡ Ok tokens → Spells a (lexemes_of text tokens) → Spells b (lexemes_of text tokens) → a ≡ b
same_tree text tokens a b utf8 lexed x y =
    let tree : (ast : Ast) → Spells ast (lexemes_of text tokens) → IsTreeOf text ast = λ ast spelled.
    record { utf8 = utf8; tokens = tokens; lexed = lexed; spelled = spelled } in
    trees_apart text a b (tree a x) (tree b y)

pub same_ok : (a b : Ast) → ◌≡◌ {A = Result Ast (List ℕ)} (Ok a) (Ok b) → a ≡ b
same_ok a b e = cc

not_both : (a : Ast) (line : List ℕ) → ◌≡◌ {A = Result Ast (List ℕ)} (Ok a) (Err line) → ⊥
not_both a line e = cc

tree_or_fault : (text : List ℕ) (tokens : List Token) → is_utf8 text ≡ true → tokens_of text ≡ Ok tokens → TreeOrFault (lexemes_of text tokens)
tree_or_fault text tokens utf8 lexed = trees_or_faults text tokens (IsUtf8-from_is_utf8 text utf8) lexed

ReadsTokens-same : (word text : List ℕ) (lexed : Result (List Token) LexFault) (a b : Ast) → is_utf8 text ≡ true → tokens_of text ≡ lexed → ReadsTokens word text lexed (Ok a) → ReadsTokens word text lexed (Ok b) → a ≡ b
ReadsTokens-same word text (Ok tokens) a b utf8 is (inl x) (inl y) =
    same_ok a x.ast x.says ∙ same_tree text tokens x.ast y.ast (IsUtf8-from_is_utf8 text utf8) is x.is.spelled y.is.spelled ∙ sym (same_ok b y.ast y.says)
ReadsTokens-same word text (Ok tokens) a b utf8 is (inl x) (inr y) = absurd (not_read (refusal_of_parsing word tokens y.fault) b y.says)
ReadsTokens-same word text (Ok tokens) a b utf8 is (inr x) q = absurd (not_read (refusal_of_parsing word tokens x.fault) a x.says)
ReadsTokens-same word text (Err fault) a b utf8 is p q = absurd (not_read (refusal_of_lexing word fault) a p)

ReadsTokens-apart : (word text : List ℕ) (lexed : Result (List Token) LexFault) (a : Ast) (line : List ℕ) → ReadsTokens word text lexed (Ok a) → ReadsTokens word text lexed (Err line) → ⊥
ReadsTokens-apart word text (Ok tokens) a line (inl x) (inl y) = not_both y.ast line (sym y.says)
ReadsTokens-apart word text (Ok tokens) a line (inl x) (inr y) = y.none x.ast x.is
ReadsTokens-apart word text (Ok tokens) a line (inr x) q = not_read (refusal_of_parsing word tokens x.fault) a x.says
ReadsTokens-apart word text (Err fault) a line p q = not_read (refusal_of_lexing word fault) a p

ReadsTokens-lines : (word text : List ℕ) (lexed : Result (List Token) LexFault) (one other : List ℕ) → is_utf8 text ≡ true → tokens_of text ≡ lexed
    → ReadsTokens word text lexed (Err one) → ReadsTokens word text lexed (Err other) → one ≡ other
ReadsTokens-lines word text (Ok tokens) one other utf8 is (inl x) q = absurd (not_both x.ast one (sym x.says))
ReadsTokens-lines word text (Ok tokens) one other utf8 is (inr x) (inl y) = absurd (not_both y.ast other (sym y.says))
ReadsTokens-lines word text (Ok tokens) one other utf8 is (inr x) (inr y) =
    let same : y.fault ≡ x.fault = (tree_or_fault text tokens utf8 is).one y.fault x.fault y.is x.is in
    RefusesBy-line Ast (refusal_of_parsing word tokens x.fault) one other x.says
    (subst (λ (fault : ParseFault). RefusesBy {X = Ast} (refusal_of_parsing word tokens fault) (Err other)) same y.says)
ReadsTokens-lines word text (Err fault) one other utf8 is p q = RefusesBy-line Ast (refusal_of_lexing word fault) one other p q

ReadsCoded-same : (word bytes : List ℕ) (coded : Bool) (a b : Ast) → is_utf8 bytes ≡ coded → ReadsCoded word bytes coded (Ok a) → ReadsCoded word bytes coded (Ok b) → a ≡ b
ReadsCoded-same word bytes true a b is p q = ReadsTokens-same word bytes (tokens_of bytes) a b is refl p q
ReadsCoded-same word bytes false a b is p q = absurd (not_both a _ p)

ReadsCoded-apart : (word bytes : List ℕ) (coded : Bool) (a : Ast) (line : List ℕ) → ReadsCoded word bytes coded (Ok a) → ReadsCoded word bytes coded (Err line) → ⊥
ReadsCoded-apart word bytes true a line p q = ReadsTokens-apart word bytes (tokens_of bytes) a line p q
ReadsCoded-apart word bytes false a line p q = not_both a _ p

ReadsCoded-lines : (word bytes : List ℕ) (coded : Bool) (one other : List ℕ) → is_utf8 bytes ≡ coded → ReadsCoded word bytes coded (Err one) → ReadsCoded word bytes coded (Err other) → one ≡ other
ReadsCoded-lines word bytes true one other is p q = ReadsTokens-lines word bytes (tokens_of bytes) one other is refl p q
ReadsCoded-lines word bytes false one other is p q = same_line {X = Ast} one other (p ∙ sym q)

pub ReadsTree-once : (word : List ℕ) → ReadsOnce (ReadsTree word)
ReadsTree-once word = record {
  same = λ bytes a b p q. ReadsCoded-same word bytes (is_utf8 bytes) a b refl p q;
  apart = λ bytes a line p q. ReadsCoded-apart word bytes (is_utf8 bytes) a line p q;
  lines = λ bytes one other p q. ReadsCoded-lines word bytes (is_utf8 bytes) one other refl p q;
}
