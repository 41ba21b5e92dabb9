-- Whatever a command asks for, its files are read, and there is an answer.
use Rattle.std.proofs.Common.{◌≡◌, ℕ, ◌<◌, List, [], ◌∷◌, length, get_or, Option, Some, option_map, codes, sym, ap, ◌∙◌, subst, refl, inl, inr, ⊎_elim, Bool, true, false, Result, Ok, Err, arith}
use Rattle.std.proofs.lemmas.Option.{slice_get-get_or}
use Rattle.std.proofs.lemmas.Str.{IsUtf8-from_is_utf8}
use Rattle.std.specs.Str.{is_utf8}
use Rattle.tydi_io.specs.Store.{Files}
use Rattle.physical_stream.specs.First.{Offends}
use Rattle.physical_stream.specs.declared.end.End.{End}
use Rattle.physical_stream.specs.declared.end.End.TheVariants as ends
use Rattle.physical_stream.specs.declared.head.Head.{Head}
use Rattle.cycle_trace.specs.Trace.{TraceText, streams_of}
use Rattle.cycle_trace.specs.TraceText.{trace_of}
use Rattle.cycle_trace.specs.Survey.{counts_of, first_unfinished, survey_of}
use Rattle.cycle_trace.specs.declared.surveying.counts.Counts.{Counts}
use Rattle.cycle_trace.specs.declared.surveying.counts.SurveyFault.{SurveyFault}
use Rattle.cycle_trace.specs.declared.surveying.counts.SurveyFault.TheVariants as faults
use Rattle.cycle_trace.specs.declared.fault.TraceFault.{TraceFault}
use Rattle.cycle_trace.specs.declared.fault.TraceFault.TheVariants as reading
use Rattle.til_lexer.specs.Tokens.{tokens_of}
use Rattle.til_lexer.specs.declared.fault.LexFault.{LexFault}
use Rattle.til_lexer.specs.declared.fault.LexFault.TheVariants as lexing
use Rattle.til_lexer.specs.declared.token.Token.{Token}
use Rattle.til_parser.specs.Faults.{NamesToken, IsFaultOf}
use Rattle.til_parser.specs.Lexemes.{lexemes_of}
use Rattle.til_parser.specs.declared.fault.ParseFault.{ParseFault}
use Rattle.til_parser.specs.declared.fault.ParseFault.TheVariants as parsing
use Rattle.til_parser.specs.declared.tree.Ast.{Ast}
use Rattle.tydi_tool.specs.declared.answer.Answer.{Answer}
use Rattle.tydi_tool.specs.declared.answer.Answer.TheVariants as answers
use Rattle.tydi_tool.specs.declared.traces.Survey.{Survey}
use Rattle.tydi_tool.specs.Words.{FileWord}
use Rattle.cycle_trace.proofs.TraceFaults.{trace_free}
use Rattle.til_lexer.proofs.TokenFaults.{tokens_free}
use Rattle.til_parser.proofs.LawLemmas.{trees_or_faults, names_token}
use Rattle.tydi_tool.specs.Refusals.{At, of_file_with, refusal_line, refusal_of_trace, refusal_of_lexing}
use Rattle.tydi_tool.specs.Reading.{RefusesBy}
use Rattle.tydi_tool.specs.Reports.{Reports, ReportsEnd, IsUnfinished, IsFoundAmong, path_of_stream}
use Rattle.tydi_tool.specs.Traces.{ReadsReading}
use Rattle.tydi_tool.specs.Trees.{ReadsTokens, ReadsCoded, place_of, refusal_of_parsing}
use Rattle.tydi_tool.specs.Files.{Lack, lack_line, file_of}
use Rattle.tydi_tool.specs.Ask.{Ask, Ends, Asks, SaysBy}
use Rattle.tydi_tool.specs.Laws.{HasSome, AsksAlways}
use Rattle.cycle_trace.proofs.FirstOfAll.{first_of_all}

-- ---- whatever a command asks for

pub SaysBy-some : (told : Files) (ask : Ask) → AsksAlways ask → HasSome Answer (SaysBy (Some told) ask)
SaysBy-some told (Ends Tells) always = always
SaysBy-some told (Asks file X Reads next) always =
    let rest : (bytes : List ℕ) (x : X) → Reads bytes (Ok x) → HasSome Answer (SaysBy (Some told) (next x)) = λ bytes x reads. SaysBy-some told (next x) (always.1 bytes x reads) in
    λ none. by_file told file X Reads next none always.0 rest (file_of told file) refl
  where
    by_read : (told : Files) (file : FileWord) (X : Type 0) (Reads : List ℕ → Result X (List ℕ) → Type 0) (next : X → Ask) →
        ((a : Answer) → SaysBy (Some told) (Asks file X Reads next) a → ⊥) → ((bytes : List ℕ) (x : X) → Reads bytes (Ok x) → HasSome Answer (SaysBy (Some told) (next x))) →
        (bytes : List ℕ) → file_of told file ≡ Ok bytes → (read : Result X (List ℕ)) → Reads bytes read → ⊥
    by_read told file X Reads next none rest bytes is (Ok x) reads = rest bytes x reads (λ a says. none a (Ok bytes, (is, inr (x, (reads, says)))))
    by_read told file X Reads next none rest bytes is (Err line) reads = none (answers.Refused line) (Ok bytes, (is, inl (line, (reads, refl))))

    by_file : (told : Files) (file : FileWord) (X : Type 0) (Reads : List ℕ → Result X (List ℕ) → Type 0) (next : X → Ask) →
        ((a : Answer) → SaysBy (Some told) (Asks file X Reads next) a → ⊥) → ((bytes : List ℕ) → HasSome (Result X (List ℕ)) (Reads bytes)) →
        ((bytes : List ℕ) (x : X) → Reads bytes (Ok x) → HasSome Answer (SaysBy (Some told) (next x))) → (found : Result (List ℕ) Lack) → file_of told file ≡ found → ⊥
    by_file told file X Reads next none always rest (Ok bytes) is = always bytes (λ read reads. by_read told file X Reads next none rest bytes is read reads)
    by_file told file X Reads next none always rest (Err lack) is = none (answers.Refused (lack_line lack file.word)) (Err lack, (is, refl))

-- ---- a trace

pub RefusesBy-trace : (X : Type 0) (word : List ℕ) (fault : TraceFault) → (fault ≡ reading.Memory → ⊥)
    → (line : List ℕ) × RefusesBy {X = X} (refusal_of_trace word fault) (Err line)
RefusesBy-trace X word (reading.BadHeader line) some = (_, refl)
RefusesBy-trace X word reading.TooManyCycles some = (_, refl)
RefusesBy-trace X word (reading.BadRow line) some = (_, refl)
RefusesBy-trace X word (reading.WrongSignals line) some = (_, refl)
RefusesBy-trace X word (reading.RowsMissing want got) some = (_, refl)
RefusesBy-trace X word (reading.RowsLeft line) some = (_, refl)
RefusesBy-trace X word reading.Memory some = absurd (some refl)

pub ReadsReading-some : (word text : List ℕ) (read : Result TraceText TraceFault) → trace_of text ≡ read → HasSome (Result Survey (List ℕ)) (ReadsReading word read)
ReadsReading-some word text (Ok trace) is = λ none. first_of_all (Offends (streams_of trace)) (λ first is_first.
    none (Ok (record { heads = trace.heads; found = survey_of first (first_unfinished 0 (streams_of trace)) (counts_of (streams_of trace)) })) (record { heads = refl; found = record { first = first; is_first = is_first; says = refl } }))
ReadsReading-some word text (Err fault) is = λ none.
    let refused = RefusesBy-trace Survey word fault (λ same. trace_free text (is ∙ ap Err same)) in none (Err refused.0) refused.1

-- a text that is no trace is refused
pub cycles-refused : (word text : List ℕ) (fault : TraceFault) → trace_of text ≡ Err fault
    → (line : List ℕ) × RefusesBy {X = TraceText} (refusal_of_trace word fault) (Err line)
cycles-refused word text fault is = RefusesBy-trace TraceText word fault (λ same. trace_free text (is ∙ ap Err same))

pub ReportsEnd-some : (path : List (List ℕ)) (end : End) → IsUnfinished end → (a : Answer) × ReportsEnd path end a
ReportsEnd-some path ends.Whole is = absurd is
ReportsEnd-some path ends.Pending is = (_, refl)
ReportsEnd-some path (ends.Unclosed k) is = (_, refl)

pub Reports-some : (heads : List Head) (found : Result Counts SurveyFault) → IsFoundAmong (length heads) found → (a : Answer) × Reports heads found a
Reports-some heads (Ok counts) among = (_, refl)
Reports-some heads (Err (faults.Offence cycle stream rule)) among = (_, refl)
Reports-some heads (Err (faults.Unfinished stream end)) among = ReportsEnd-some (path_of_stream heads stream) end among.1
Reports-some heads (Err faults.Memory) among = absurd among

-- ---- a project

RefusesBy-lexing : (word : List ℕ) (fault : LexFault) → (fault ≡ lexing.Memory → ⊥) → (line : List ℕ) × RefusesBy {X = Ast} (refusal_of_lexing word fault) (Err line)
RefusesBy-lexing word (lexing.StrayChar place) some = (_, refl)
RefusesBy-lexing word (lexing.OpenString place) some = (_, refl)
RefusesBy-lexing word (lexing.OpenDoc place) some = (_, refl)
RefusesBy-lexing word (lexing.NameNotAscii place) some = (_, refl)
RefusesBy-lexing word (lexing.BadName place) some = (_, refl)
RefusesBy-lexing word (lexing.NumberTooLong place) some = (_, refl)
RefusesBy-lexing word lexing.Memory some = absurd (some refl)

at_place : (name word : List ℕ) (tokens : List Token) (index : ℕ) → index < length tokens
    → (line : List ℕ) × RefusesBy {X = Ast} (option_map (λ place. of_file_with name word (At place)) (place_of tokens index)) (Err line)
at_place name word [] index names = absurd (omega arith)
at_place name word (token ∷ tokens) index names =
    let there = slice_get-get_or (token ∷ tokens) index token names in (
      refusal_line (of_file_with name word (At (get_or (token ∷ tokens) index token).place)),
      subst (λ (o : Option Token). RefusesBy {X = Ast} (option_map (λ place. of_file_with name word (At place)) (option_map (λ (t : Token). t.place) o))
          (Err (refusal_line (of_file_with name word (At (get_or (token ∷ tokens) index token).place))))) (sym there) refl,
    )

RefusesBy-parsing : (word : List ℕ) (tokens : List Token) (fault : ParseFault) → (fault ≡ parsing.Memory → ⊥) → NamesToken (length tokens) fault
    → (line : List ℕ) × RefusesBy {X = Ast} (refusal_of_parsing word tokens fault) (Err line)
RefusesBy-parsing word tokens (parsing.Unexpected index) some names = at_place (codes "Unexpected") word tokens index names
RefusesBy-parsing word tokens parsing.EndOfText some names = (_, refl)
RefusesBy-parsing word tokens (parsing.TooDeep index) some names = at_place (codes "TooDeep") word tokens index names
RefusesBy-parsing word tokens parsing.Memory some names = absurd (some refl)

ReadsTokens-some : (word text : List ℕ) (lexed : Result (List Token) LexFault) → is_utf8 text ≡ true → tokens_of text ≡ lexed → HasSome (Result Ast (List ℕ)) (ReadsTokens word text lexed)
ReadsTokens-some word text (Ok tokens) utf8 is = λ none.
    let said = trees_or_faults text tokens (IsUtf8-from_is_utf8 text utf8) is in
    ⊎_elim
    (λ t. none (Ok t.0) (inl (record { ast = t.0; is = record { spelled = t.1; within = t.2 }; says = refl })))
    (λ f. let refused = RefusesBy-parsing word tokens f.0 (λ memory. subst (IsFaultOf (lexemes_of text tokens)) memory f.1) (names_token text tokens f.0 f.1) in
    none (Err refused.0) (inr (record {
      none = λ ast project. said.apart f.0 f.1 ast project.spelled project.within;
      fault = f.0;
      is = f.1;
      says = refused.1;
    })))
    said.either
ReadsTokens-some word text (Err fault) utf8 is = λ none.
    let refused = RefusesBy-lexing word fault (λ same. tokens_free text (is ∙ ap Err same)) in none (Err refused.0) refused.1

pub ReadsCoded-some : (word bytes : List ℕ) (coded : Bool) → is_utf8 bytes ≡ coded → HasSome (Result Ast (List ℕ)) (ReadsCoded word bytes coded)
ReadsCoded-some word bytes true is = ReadsTokens-some word bytes (tokens_of bytes) is refl
ReadsCoded-some word bytes false is = λ none. none (Err _) refl
