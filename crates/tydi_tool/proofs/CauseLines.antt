-- The line of each cause, written out, and its row.
use Rattle.std.proofs.Common.{◌≡◌, ℕ, inl, inr, ◌++◌, List, [], ◌∷◌, slice_get, Option, Some, None, option_map, Err, codes, decimal, refl, sym, ap, ◌∙◌, append_assoc}
use Rattle.std.proofs.lemmas.List.{append-nil}
use Rattle.tydi_io.specs.Store.{Files}
use Rattle.physical_stream.specs.declared.end.End.{End}
use Rattle.physical_stream.specs.declared.end.End.TheVariants as ends
use Rattle.cycle_trace.specs.declared.fault.TraceFault.{TraceFault}
use Rattle.cycle_trace.specs.declared.fault.TraceFault.TheVariants as reading
use Rattle.til_lexer.specs.declared.fault.LexFault.{LexFault}
use Rattle.til_lexer.specs.declared.fault.LexFault.TheVariants as lexing
use Rattle.til_lexer.specs.declared.token.Token.{Token}
use Rattle.til_parser.specs.declared.fault.ParseFault.{ParseFault}
use Rattle.til_parser.specs.declared.fault.ParseFault.TheVariants as parsing
use Rattle.logical_types.specs.declared.fault.TypeFault.{TypeFault}
use Rattle.logical_types.specs.declared.fault.TypeFault.TheVariants as typing
use Rattle.til_resolve.specs.declared.fault.ResolveFault.{ResolveFault}
use Rattle.til_resolve.specs.declared.fault.ResolveFault.TheVariants as resolving
use Rattle.value_text.specs.declared.fault.ValueFault.{ValueFault}
use Rattle.value_text.specs.declared.fault.ValueFault.TheVariants as valuing
use Rattle.plan_text.specs.declared.fault.PlanFault.{PlanFault}
use Rattle.plan_text.specs.declared.fault.PlanFault.TheVariants as planning
use Rattle.vhdl_text.specs.declared.fault.VhdlFault.{VhdlFault}
use Rattle.vhdl_text.specs.declared.fault.VhdlFault.TheVariants as benching
use Rattle.vhdl_meaning.specs.declared.run.RunFault.{RunFault}
use Rattle.vhdl_meaning.specs.declared.run.RunFault.TheVariants as running
use Rattle.type_split.specs.Streams.{PlainSplit}
use Rattle.vcd_read.specs.declared.fault.VcdFault.{VcdFault}
use Rattle.vcd_read.specs.declared.fault.VcdFault.TheVariants as dumping
use Rattle.vhdl_text.specs.Text.{signal_word}
use Rattle.cycle_trace.specs.Trace.{streams_of}
use Rattle.trace_watch.specs.Watched.{watched_of}
use Rattle.trace_watch.specs.declared.watched.StreamWatched.{StreamWatched}
use Rattle.watch_text.specs.Statements.{PlainWatch}
use Rattle.watch_text.specs.declared.fault.WatchFault.{WatchFault}
use Rattle.watch_text.specs.declared.fault.WatchFault.TheVariants as watching
use Rattle.link_check.specs.declared.difference.Why.{Why}
use Rattle.link_check.specs.declared.difference.Why.TheVariants as whys
use Rattle.link_check.specs.declared.fault.LinkFault.{LinkFault}
use Rattle.link_check.specs.declared.fault.LinkFault.TheVariants as linking
use Rattle.port_gen.specs.Jobs.{NoJob, NotDriven, TooManyCycles, TooManyLeaves}
use Rattle.tydi_base.specs.Path.{path_text}
use Rattle.tydi_tool.specs.Links.{refusal_of_linking, why_name}
use Rattle.tydi_tool.specs.declared.answer.Answer.{Answer}
use Rattle.tydi_tool.specs.declared.answer.Answer.TheVariants as answers
use Rattle.tydi_tool.specs.Causes as rows
use Rattle.tydi_tool.specs.Causes.{Row, row_of, at_place, lexer_line, parser_line, type_fault_text, resolver_line, trace_line, value_line, plan_line, bench_line, monitor_line, run_line, dump_line, why_text, link_line, unfinished_line, CausedBy, HasTextFault, job_line}
use Rattle.tydi_tool.specs.Drives.{path_of}
use Rattle.tydi_tool.specs.Dumps.{refusal_of_dump}
use Rattle.tydi_tool.specs.Reading.{RefusesBy}
use Rattle.tydi_tool.specs.Refusals.{Refusal, At, of_file_with, refusal_line, refusal_of_bench, refusal_of_lexing, refusal_of_plan, refusal_of_resolving, refusal_of_run, refusal_of_trace, refusal_of_value, refusal_of_watch, type_fault_name}
use Rattle.tydi_tool.specs.Reports.{path_of_stream}
use Rattle.tydi_tool.specs.Trees.{refusal_of_parsing}
use Rattle.tydi_tool.specs.Watches.{watched_lines}
use Rattle.tydi_tool.specs.Words.{Request}
use Rattle.tydi_tool.proofs.AnswerLemmas.{RefusesBy-line}

-- ---- lines, written out

pub one_word : (t n s w e : List ℕ) → ((t ++ n) ++ ((s ++ w) ++ [])) ++ e ≡ (((t ++ n) ++ s) ++ w) ++ e
one_word t n s w e = ap (λ (l : List ℕ). ((t ++ n) ++ l) ++ e) (append-nil (s ++ w)) ∙ ap (λ (l : List ℕ). l ++ e) (sym (append_assoc (t ++ n) s w))

pub two_words : (t n s w d e : List ℕ) → ((t ++ n) ++ ((s ++ w) ++ ((s ++ d) ++ []))) ++ e ≡ (((((t ++ n) ++ s) ++ w) ++ s) ++ d) ++ e
two_words t n s w d e =
    ap (λ (l : List ℕ). ((t ++ n) ++ ((s ++ w) ++ l)) ++ e) (append-nil (s ++ d))
    ∙ ap (λ (l : List ℕ). l ++ e) (sym (append_assoc (t ++ n) (s ++ w) (s ++ d)))
    ∙ ap (λ (l : List ℕ). l ++ e) (sym (append_assoc ((t ++ n) ++ (s ++ w)) s d))
    ∙ ap (λ (l : List ℕ). ((l ++ s) ++ d) ++ e) (sym (append_assoc (t ++ n) s w))

pub three_words : (t n s w d f e : List ℕ) → ((t ++ n) ++ ((s ++ w) ++ ((s ++ d) ++ ((s ++ f) ++ [])))) ++ e ≡ (((((((t ++ n) ++ s) ++ w) ++ s) ++ d) ++ s) ++ f) ++ e
three_words t n s w d f e =
    ap (λ (l : List ℕ). ((t ++ n) ++ ((s ++ w) ++ ((s ++ d) ++ l))) ++ e) (append-nil (s ++ f))
    ∙ ap (λ (l : List ℕ). l ++ e) (sym (append_assoc (t ++ n) (s ++ w) ((s ++ d) ++ (s ++ f))))
    ∙ ap (λ (l : List ℕ). l ++ e) (sym (append_assoc ((t ++ n) ++ (s ++ w)) (s ++ d) (s ++ f)))
    ∙ ap (λ (l : List ℕ). (l ++ (s ++ f)) ++ e) (sym (append_assoc ((t ++ n) ++ (s ++ w)) s d))
    ∙ ap (λ (l : List ℕ). l ++ e) (sym (append_assoc ((((t ++ n) ++ (s ++ w)) ++ s) ++ d) s f))
    ∙ ap (λ (l : List ℕ). ((((l ++ s) ++ d) ++ s) ++ f) ++ e) (sym (append_assoc (t ++ n) s w))

pub four_words : (t n s w d f g e : List ℕ) → ((t ++ n) ++ ((s ++ w) ++ ((s ++ d) ++ ((s ++ f) ++ ((s ++ g) ++ []))))) ++ e ≡ (((((((((t ++ n) ++ s) ++ w) ++ s) ++ d) ++ s) ++ f) ++ s) ++ g) ++ e
four_words t n s w d f g e =
    ap (λ (l : List ℕ). ((t ++ n) ++ ((s ++ w) ++ ((s ++ d) ++ l))) ++ e)
    (ap (λ (l : List ℕ). (s ++ f) ++ l) (append-nil (s ++ g)) ∙ append_assoc s f (s ++ g) ∙ sym (append-nil (s ++ (f ++ (s ++ g)))))
    ∙ three_words t n s w d (f ++ (s ++ g)) e
    ∙ ap (λ (l : List ℕ). l ++ e) (sym (append_assoc (((((((t ++ n) ++ s) ++ w) ++ s) ++ d) ++ s)) f (s ++ g)))
    ∙ ap (λ (l : List ℕ). l ++ e) (sym (append_assoc ((((((((t ++ n) ++ s) ++ w) ++ s) ++ d) ++ s) ++ f)) s g))

pub same_some : (l m : List ℕ) → ◌≡◌ {A = Option (List ℕ)} (Some l) (Some m) → l ≡ m
same_some l m e = cc

pub lexer_text : (word : List ℕ) (fault : LexFault) → option_map refusal_line (refusal_of_lexing word fault) ≡ lexer_line word fault
lexer_text word (lexing.StrayChar place) = ap Some (two_words (codes "tydi: ") (codes "StrayChar") (codes " ") word (at_place place) (codes "\n"))
lexer_text word (lexing.OpenString place) = ap Some (two_words (codes "tydi: ") (codes "OpenString") (codes " ") word (at_place place) (codes "\n"))
lexer_text word (lexing.OpenDoc place) = ap Some (two_words (codes "tydi: ") (codes "OpenDoc") (codes " ") word (at_place place) (codes "\n"))
lexer_text word (lexing.NameNotAscii place) = ap Some (two_words (codes "tydi: ") (codes "NameNotAscii") (codes " ") word (at_place place) (codes "\n"))
lexer_text word (lexing.BadName place) = ap Some (two_words (codes "tydi: ") (codes "BadName") (codes " ") word (at_place place) (codes "\n"))
lexer_text word (lexing.NumberTooLong place) = ap Some (two_words (codes "tydi: ") (codes "NumberTooLong") (codes " ") word (at_place place) (codes "\n"))
lexer_text word lexing.Memory = refl

pub parser_text : (word : List ℕ) (tokens : List Token) (fault : ParseFault) → option_map refusal_line (refusal_of_parsing word tokens fault) ≡ parser_line word tokens fault
parser_text word tokens (parsing.Unexpected index) = by (slice_get tokens index)
  where
    by : (found : Option Token) → option_map refusal_line (option_map (λ place. of_file_with (codes "Unexpected") word (At place)) (option_map (λ (token : Token). token.place) found))
        ≡ option_map (λ (token : Token). codes "tydi: Unexpected " ++ word ++ codes " " ++ at_place token.place ++ codes "\n") found
    by None = refl
    by (Some token) = ap Some (two_words (codes "tydi: ") (codes "Unexpected") (codes " ") word (at_place token.place) (codes "\n"))
parser_text word tokens parsing.EndOfText = ap Some (one_word (codes "tydi: ") (codes "EndOfText") (codes " ") word (codes "\n"))
parser_text word tokens (parsing.TooDeep index) = by (slice_get tokens index)
  where
    by : (found : Option Token) → option_map refusal_line (option_map (λ place. of_file_with (codes "TooDeep") word (At place)) (option_map (λ (token : Token). token.place) found))
        ≡ option_map (λ (token : Token). codes "tydi: TooDeep " ++ word ++ codes " " ++ at_place token.place ++ codes "\n") found
    by None = refl
    by (Some token) = ap Some (two_words (codes "tydi: ") (codes "TooDeep") (codes " ") word (at_place token.place) (codes "\n"))
parser_text word tokens parsing.Memory = refl

pub type_text : (fault : TypeFault) → type_fault_name fault ≡ type_fault_text fault
type_text typing.ZeroBits = refl
type_text typing.ElementTooWide = refl
type_text typing.BadThroughput = refl
type_text typing.TooManyLanes = refl
type_text typing.TooManyDims = refl
type_text typing.UserHasStream = refl
type_text typing.NameTwice = refl
type_text typing.EmptyUnion = refl

pub resolver_text : (word : List ℕ) (fault : ResolveFault) → option_map refusal_line (refusal_of_resolving word fault) ≡ resolver_line word fault
resolver_text word (resolving.DeclaredTwice place) = ap Some (two_words (codes "tydi: ") (codes "DeclaredTwice") (codes " ") word (at_place place) (codes "\n"))
resolver_text word (resolving.UnknownName place) = ap Some (two_words (codes "tydi: ") (codes "UnknownName") (codes " ") word (at_place place) (codes "\n"))
resolver_text word (resolving.WrongKind place) = ap Some (two_words (codes "tydi: ") (codes "WrongKind") (codes " ") word (at_place place) (codes "\n"))
resolver_text word (resolving.CyclicType place) = ap Some (two_words (codes "tydi: ") (codes "CyclicType") (codes " ") word (at_place place) (codes "\n"))
resolver_text word (resolving.TypeTooLarge place) = ap Some (two_words (codes "tydi: ") (codes "TypeTooLarge") (codes " ") word (at_place place) (codes "\n"))
resolver_text word (resolving.BadType place fault) =
    ap Some (three_words (codes "tydi: ") (codes "BadType") (codes " ") word (at_place place) (type_fault_name fault) (codes "\n"))
    ∙ ap (λ (name : List ℕ). Some (codes "tydi: BadType " ++ word ++ codes " " ++ at_place place ++ codes " " ++ name ++ codes "\n")) (type_text fault)
resolver_text word (resolving.PortNotStream place) = ap Some (two_words (codes "tydi: ") (codes "PortNotStream") (codes " ") word (at_place place) (codes "\n"))
resolver_text word (resolving.CyclicInstance place) = ap Some (two_words (codes "tydi: ") (codes "CyclicInstance") (codes " ") word (at_place place) (codes "\n"))
resolver_text word resolving.Memory = refl

pub trace_text : (word : List ℕ) (fault : TraceFault) → option_map refusal_line (refusal_of_trace word fault) ≡ trace_line word fault
trace_text word (reading.BadHeader line) = ap Some (two_words (codes "tydi: ") (codes "BadHeader") (codes " ") word (decimal line) (codes "\n"))
trace_text word reading.TooManyCycles = ap Some (one_word (codes "tydi: ") (codes "TooManyCycles") (codes " ") word (codes "\n"))
trace_text word (reading.BadRow line) = ap Some (two_words (codes "tydi: ") (codes "BadRow") (codes " ") word (decimal line) (codes "\n"))
trace_text word (reading.WrongSignals line) = ap Some (two_words (codes "tydi: ") (codes "WrongSignals") (codes " ") word (decimal line) (codes "\n"))
trace_text word (reading.RowsMissing want got) = ap Some (three_words (codes "tydi: ") (codes "RowsMissing") (codes " ") word (decimal want) (decimal got) (codes "\n"))
trace_text word (reading.RowsLeft line) = ap Some (two_words (codes "tydi: ") (codes "RowsLeft") (codes " ") word (decimal line) (codes "\n"))
trace_text word reading.Memory = refl

pub value_text : (word : List ℕ) (fault : ValueFault) → option_map refusal_line (refusal_of_value word fault) ≡ value_line word fault
value_text word (valuing.Syntax place) = ap Some (two_words (codes "tydi: ") (codes "Syntax") (codes " ") word (at_place place) (codes "\n"))
value_text word (valuing.WrongShape place) = ap Some (two_words (codes "tydi: ") (codes "WrongShape") (codes " ") word (at_place place) (codes "\n"))
value_text word (valuing.UnknownField place) = ap Some (two_words (codes "tydi: ") (codes "UnknownField") (codes " ") word (at_place place) (codes "\n"))
value_text word (valuing.OutOfRange place) = ap Some (two_words (codes "tydi: ") (codes "OutOfRange") (codes " ") word (at_place place) (codes "\n"))
value_text word (valuing.TooManyLeaves place) = ap Some (two_words (codes "tydi: ") (codes "TooManyLeaves") (codes " ") word (at_place place) (codes "\n"))
value_text word valuing.Memory = refl

pub plan_text : (word : List ℕ) (fault : PlanFault) → option_map refusal_line (refusal_of_plan word fault) ≡ plan_line word fault
plan_text word (planning.Syntax place) = ap Some (two_words (codes "tydi: ") (codes "Syntax") (codes " ") word (at_place place) (codes "\n"))
plan_text word (planning.UnknownStream place) = ap Some (two_words (codes "tydi: ") (codes "UnknownStream") (codes " ") word (at_place place) (codes "\n"))
plan_text word (planning.StreamTwice place) = ap Some (two_words (codes "tydi: ") (codes "StreamTwice") (codes " ") word (at_place place) (codes "\n"))
plan_text word (planning.ReadyLength place) = ap Some (two_words (codes "tydi: ") (codes "ReadyLength") (codes " ") word (at_place place) (codes "\n"))
plan_text word (planning.MaskTooWide place) = ap Some (two_words (codes "tydi: ") (codes "MaskTooWide") (codes " ") word (at_place place) (codes "\n"))
plan_text word (planning.UserTooWide place) = ap Some (two_words (codes "tydi: ") (codes "UserTooWide") (codes " ") word (at_place place) (codes "\n"))
plan_text word (planning.TooManyCycles place) = ap Some (two_words (codes "tydi: ") (codes "TooManyCycles") (codes " ") word (at_place place) (codes "\n"))
plan_text word planning.Memory = refl

pub bench_text : (word : List ℕ) (fault : VhdlFault) → option_map refusal_line (refusal_of_bench word fault) ≡ bench_line word fault
bench_text word (benching.NotForm offset) = ap Some (two_words (codes "tydi: ") (codes "NotForm") (codes " ") word (decimal offset) (codes "\n"))
bench_text word (benching.UnknownSignal offset) = ap Some (two_words (codes "tydi: ") (codes "UnknownSignal") (codes " ") word (decimal offset) (codes "\n"))
bench_text word (benching.TwoDrivers offset) = ap Some (two_words (codes "tydi: ") (codes "TwoDrivers") (codes " ") word (decimal offset) (codes "\n"))
bench_text word benching.Memory = refl

pub monitor_text : (word : List ℕ) (fault : WatchFault) → option_map refusal_line (refusal_of_watch word fault) ≡ monitor_line word fault
monitor_text word (watching.NotForm offset) = ap Some (two_words (codes "tydi: ") (codes "NotForm") (codes " ") word (decimal offset) (codes "\n"))
monitor_text word watching.Memory = refl

pub run_text : (word : List ℕ) (fault : RunFault) → option_map refusal_line (refusal_of_run word fault) ≡ run_line word fault
run_text word (running.Syntax place) = ap Some (two_words (codes "tydi: ") (codes "Syntax") (codes " ") word (at_place place) (codes "\n"))
run_text word (running.UnknownStream place) = ap Some (two_words (codes "tydi: ") (codes "UnknownStream") (codes " ") word (at_place place) (codes "\n"))
run_text word (running.StreamTwice place) = ap Some (two_words (codes "tydi: ") (codes "StreamTwice") (codes " ") word (at_place place) (codes "\n"))
run_text word (running.ReadyLength place) = ap Some (two_words (codes "tydi: ") (codes "ReadyLength") (codes " ") word (at_place place) (codes "\n"))
run_text word (running.NotOrder place) = ap Some (two_words (codes "tydi: ") (codes "NotOrder") (codes " ") word (at_place place) (codes "\n"))
run_text word (running.TooManyCycles place) = ap Some (two_words (codes "tydi: ") (codes "TooManyCycles") (codes " ") word (at_place place) (codes "\n"))
run_text word (running.TooManyOrders place) = ap Some (two_words (codes "tydi: ") (codes "TooManyOrders") (codes " ") word (at_place place) (codes "\n"))
run_text word running.Memory = refl

pub dump_text : (split : PlainSplit) (word : List ℕ) (fault : VcdFault) → option_map refusal_line (refusal_of_dump split word fault) ≡ dump_line split word fault
dump_text split word (dumping.Syntax offset) = ap Some (two_words (codes "tydi: ") (codes "Syntax") (codes " ") word (decimal offset) (codes "\n"))
dump_text split word (dumping.TimeBack offset) = ap Some (two_words (codes "tydi: ") (codes "TimeBack") (codes " ") word (decimal offset) (codes "\n"))
dump_text split word dumping.NoClock = ap Some (one_word (codes "tydi: ") (codes "NoClock") (codes " ") word (codes "\n"))
dump_text split word (dumping.NoSignal stream signal) =
    ap Some (three_words (codes "tydi: ") (codes "NoSignal") (codes " ") word (path_text (path_of split stream)) (signal_word signal) (codes "\n"))
dump_text split word (dumping.OtherWidth stream signal) =
    ap Some (three_words (codes "tydi: ") (codes "OtherWidth") (codes " ") word (path_text (path_of split stream)) (signal_word signal) (codes "\n"))
dump_text split word dumping.TooManyCycles = ap Some (one_word (codes "tydi: ") (codes "TooManyCycles") (codes " ") word (codes "\n"))
dump_text split word (dumping.NotBit cycle stream) =
    ap Some (three_words (codes "tydi: ") (codes "NotBit") (codes " ") word (decimal cycle) (path_text (path_of split stream)) (codes "\n"))
dump_text split word dumping.Memory = refl

why_same : (difference : Why) → why_name difference ≡ why_text difference
why_same whys.Shape = refl
why_same whys.Throughput = refl
why_same whys.Dims = refl
why_same whys.Sync = refl
why_same whys.Level = refl
why_same whys.Direction = refl
why_same whys.User = refl
why_same whys.Keep = refl

pub link_text : (word : List ℕ) (fault : LinkFault) → option_map refusal_line (refusal_of_linking word fault) ≡ link_line word fault
link_text word (linking.UnknownEnd place) = ap Some (two_words (codes "tydi: ") (codes "UnknownEnd") (codes " ") word (at_place place) (codes "\n"))
link_text word (linking.SameSide place) = ap Some (two_words (codes "tydi: ") (codes "SameSide") (codes " ") word (at_place place) (codes "\n"))
link_text word (linking.NotCompatible place difference) =
    ap Some (four_words (codes "tydi: ") (codes "NotCompatible") (codes " ") word (at_place place) (path_text difference.path) (why_name difference.why) (codes "\n")
    ∙ ap (λ (l : List ℕ). codes "tydi: NotCompatible " ++ word ++ codes " " ++ at_place place ++ codes " " ++ path_text difference.path ++ codes " " ++ l ++ codes "\n") (why_same difference.why))
link_text word (linking.LinkedTwice place) = ap Some (two_words (codes "tydi: ") (codes "LinkedTwice") (codes " ") word (at_place place) (codes "\n"))
link_text word (linking.Unlinked place) = ap Some (two_words (codes "tydi: ") (codes "Unlinked") (codes " ") word (at_place place) (codes "\n"))
link_text word linking.DesignTooLarge = ap Some (one_word (codes "tydi: ") (codes "DesignTooLarge") (codes " ") word (codes "\n"))
link_text word linking.Memory = refl

-- a text that is refused by a refusal has its line, and the other way round
pub line_of : (X : Type 0) (refusal : Option Refusal) (line : List ℕ) → RefusesBy {X = X} refusal (Err line) → option_map refusal_line refusal ≡ Some line
line_of X (Some refusal) line refused = ap Some (sym (RefusesBy-line X (Some refusal) line (refusal_line refusal) refused refl))
line_of X None line refused = absurd refused

pub by_line : (X : Type 0) (refusal : Option Refusal) (line : List ℕ) → option_map refusal_line refusal ≡ Some line → RefusesBy {X = X} refusal (Err line)
by_line X (Some refusal) line told = ap Err (sym (same_some (refusal_line refusal) line told))
by_line X None line told = absurd cc

-- ---- the row of each cause

row_as : (a b : Answer) (row : Row) → a ≡ b → row_of b ≡ Some row → row_of a ≡ Some row
row_as a b row same is = ap row_of same ∙ is

row_by : (row : Row) (l m : List ℕ) → ◌≡◌ {A = Option (List ℕ)} (Some l) (Some m) → row_of (answers.Refused l) ≡ Some row → row_of (answers.Refused m) ≡ Some row
row_by row l m same is = ap (λ (line : List ℕ). row_of (answers.Refused line)) (sym (same_some l m same)) ∙ is

lexer_row : (word line : List ℕ) (fault : LexFault) → lexer_line word fault ≡ Some line → row_of (answers.Refused line) ≡ Some rows.LexerFault
lexer_row word line (lexing.StrayChar place) told = row_by rows.LexerFault _ line told refl
lexer_row word line (lexing.OpenString place) told = row_by rows.LexerFault _ line told refl
lexer_row word line (lexing.OpenDoc place) told = row_by rows.LexerFault _ line told refl
lexer_row word line (lexing.NameNotAscii place) told = row_by rows.LexerFault _ line told refl
lexer_row word line (lexing.BadName place) told = row_by rows.LexerFault _ line told refl
lexer_row word line (lexing.NumberTooLong place) told = row_by rows.LexerFault _ line told refl
lexer_row word line lexing.Memory told = absurd cc

parser_row : (word line : List ℕ) (tokens : List Token) (fault : ParseFault) → parser_line word tokens fault ≡ Some line → row_of (answers.Refused line) ≡ Some rows.ParserFault
parser_row word line tokens (parsing.Unexpected index) told = by (slice_get tokens index) told
  where
    by : (found : Option Token) → option_map (λ (token : Token). codes "tydi: Unexpected " ++ word ++ codes " " ++ at_place token.place ++ codes "\n") found ≡ Some line
        → row_of (answers.Refused line) ≡ Some rows.ParserFault
    by None told = absurd cc
    by (Some token) told = row_by rows.ParserFault _ line told refl
parser_row word line tokens parsing.EndOfText told = row_by rows.ParserFault _ line told refl
parser_row word line tokens (parsing.TooDeep index) told = by (slice_get tokens index) told
  where
    by : (found : Option Token) → option_map (λ (token : Token). codes "tydi: TooDeep " ++ word ++ codes " " ++ at_place token.place ++ codes "\n") found ≡ Some line
        → row_of (answers.Refused line) ≡ Some rows.ParserFault
    by None told = absurd cc
    by (Some token) told = row_by rows.ParserFault _ line told refl
parser_row word line tokens parsing.Memory told = absurd cc

resolver_row : (word line : List ℕ) (fault : ResolveFault) → resolver_line word fault ≡ Some line → row_of (answers.Refused line) ≡ Some rows.ResolverFault
resolver_row word line (resolving.DeclaredTwice place) told = row_by rows.ResolverFault _ line told refl
resolver_row word line (resolving.UnknownName place) told = row_by rows.ResolverFault _ line told refl
resolver_row word line (resolving.WrongKind place) told = row_by rows.ResolverFault _ line told refl
resolver_row word line (resolving.CyclicType place) told = row_by rows.ResolverFault _ line told refl
resolver_row word line (resolving.TypeTooLarge place) told = row_by rows.ResolverFault _ line told refl
resolver_row word line (resolving.BadType place fault) told = row_by rows.ResolverFault _ line told refl
resolver_row word line (resolving.PortNotStream place) told = row_by rows.ResolverFault _ line told refl
resolver_row word line (resolving.CyclicInstance place) told = row_by rows.ResolverFault _ line told refl
resolver_row word line resolving.Memory told = absurd cc

trace_row : (word line : List ℕ) (fault : TraceFault) → trace_line word fault ≡ Some line → row_of (answers.Refused line) ≡ Some rows.TextFault
trace_row word line (reading.BadHeader number) told = row_by rows.TextFault _ line told refl
trace_row word line reading.TooManyCycles told = row_by rows.TextFault _ line told refl
trace_row word line (reading.BadRow number) told = row_by rows.TextFault _ line told refl
trace_row word line (reading.WrongSignals number) told = row_by rows.TextFault _ line told refl
trace_row word line (reading.RowsMissing want got) told = row_by rows.TextFault _ line told refl
trace_row word line (reading.RowsLeft number) told = row_by rows.TextFault _ line told refl
trace_row word line reading.Memory told = absurd cc

value_row : (word line : List ℕ) (fault : ValueFault) → value_line word fault ≡ Some line → row_of (answers.Refused line) ≡ Some rows.TextFault
value_row word line (valuing.Syntax place) told = row_by rows.TextFault _ line told refl
value_row word line (valuing.WrongShape place) told = row_by rows.TextFault _ line told refl
value_row word line (valuing.UnknownField place) told = row_by rows.TextFault _ line told refl
value_row word line (valuing.OutOfRange place) told = row_by rows.TextFault _ line told refl
value_row word line (valuing.TooManyLeaves place) told = row_by rows.TextFault _ line told refl
value_row word line valuing.Memory told = absurd cc

plan_row : (word line : List ℕ) (fault : PlanFault) → plan_line word fault ≡ Some line → row_of (answers.Refused line) ≡ Some rows.TextFault
plan_row word line (planning.Syntax place) told = row_by rows.TextFault _ line told refl
plan_row word line (planning.UnknownStream place) told = row_by rows.TextFault _ line told refl
plan_row word line (planning.StreamTwice place) told = row_by rows.TextFault _ line told refl
plan_row word line (planning.ReadyLength place) told = row_by rows.TextFault _ line told refl
plan_row word line (planning.MaskTooWide place) told = row_by rows.TextFault _ line told refl
plan_row word line (planning.UserTooWide place) told = row_by rows.TextFault _ line told refl
plan_row word line (planning.TooManyCycles place) told = row_by rows.TextFault _ line told refl
plan_row word line planning.Memory told = absurd cc

bench_row : (word line : List ℕ) (fault : VhdlFault) → bench_line word fault ≡ Some line → row_of (answers.Refused line) ≡ Some rows.TextFault
bench_row word line (benching.NotForm offset) told = row_by rows.TextFault _ line told refl
bench_row word line (benching.UnknownSignal offset) told = row_by rows.TextFault _ line told refl
bench_row word line (benching.TwoDrivers offset) told = row_by rows.TextFault _ line told refl
bench_row word line benching.Memory told = absurd cc

monitor_row : (word line : List ℕ) (fault : WatchFault) → monitor_line word fault ≡ Some line → row_of (answers.Refused line) ≡ Some rows.TextFault
monitor_row word line (watching.NotForm offset) told = row_by rows.TextFault _ line told refl
monitor_row word line watching.Memory told = absurd cc

run_row : (word line : List ℕ) (fault : RunFault) → run_line word fault ≡ Some line → row_of (answers.Refused line) ≡ Some rows.TextFault
run_row word line (running.Syntax place) told = row_by rows.TextFault _ line told refl
run_row word line (running.UnknownStream place) told = row_by rows.TextFault _ line told refl
run_row word line (running.StreamTwice place) told = row_by rows.TextFault _ line told refl
run_row word line (running.ReadyLength place) told = row_by rows.TextFault _ line told refl
run_row word line (running.NotOrder place) told = row_by rows.TextFault _ line told refl
run_row word line (running.TooManyCycles place) told = row_by rows.TextFault _ line told refl
run_row word line (running.TooManyOrders place) told = row_by rows.TextFault _ line told refl
run_row word line running.Memory told = absurd cc

dump_row : (split : PlainSplit) (word line : List ℕ) (fault : VcdFault) → dump_line split word fault ≡ Some line → row_of (answers.Refused line) ≡ Some rows.TextFault
dump_row split word line (dumping.Syntax offset) told = row_by rows.TextFault _ line told refl
dump_row split word line (dumping.TimeBack offset) told = row_by rows.TextFault _ line told refl
dump_row split word line dumping.NoClock told = row_by rows.TextFault _ line told refl
dump_row split word line (dumping.NoSignal stream signal) told = row_by rows.TextFault _ line told refl
dump_row split word line (dumping.OtherWidth stream signal) told = row_by rows.TextFault _ line told refl
dump_row split word line dumping.TooManyCycles told = row_by rows.TextFault _ line told refl
dump_row split word line (dumping.NotBit cycle stream) told = row_by rows.TextFault _ line told refl
dump_row split word line dumping.Memory told = absurd cc

text_row : (known : Files) (request : Request) (line : List ℕ) → HasTextFault known request line → row_of (answers.Refused line) ≡ Some rows.TextFault
text_row known request line (inl trace) = trace_row trace.word line trace.fault trace.told
text_row known request line (inr (inl value)) = value_row value.words.value line value.fault value.told
text_row known request line (inr (inr (inl plan))) = plan_row plan.words.plan line plan.fault plan.told
text_row known request line (inr (inr (inr (inl bench)))) = bench_row bench.words.bench line bench.fault bench.told
text_row known request line (inr (inr (inr (inr (inl run))))) = run_row run.words.run line run.fault run.told
text_row known request line (inr (inr (inr (inr (inr (inl trace)))))) = trace_row trace.words.trace line trace.fault trace.told
text_row known request line (inr (inr (inr (inr (inr (inr (inl trace))))))) = trace_row trace.words.trace line trace.fault trace.told
text_row known request line (inr (inr (inr (inr (inr (inr (inr (inl value)))))))) = value_row (value.words.test ++ codes " value") line value.fault value.told
text_row known request line (inr (inr (inr (inr (inr (inr (inr (inr (inl plan))))))))) = plan_row (plan.words.test ++ codes " plan") line plan.fault plan.told
text_row known request line (inr (inr (inr (inr (inr (inr (inr (inr (inr (inl dump)))))))))) = dump_row dump.split dump.words.file line dump.fault dump.told
text_row known request line (inr (inr (inr (inr (inr (inr (inr (inr (inr (inr (inl trace))))))))))) = trace_row trace.words.trace line trace.fault trace.told
text_row known request line (inr (inr (inr (inr (inr (inr (inr (inr (inr (inr (inr (inl monitor)))))))))))) = monitor_row monitor.words.monitor line monitor.fault monitor.told
text_row known request line (inr (inr (inr (inr (inr (inr (inr (inr (inr (inr (inr (inr trace)))))))))))) = trace_row trace.words.trace line trace.fault trace.told

-- the lines of streams begin with one, if there is a stream
report_row : (watch : PlainWatch) (watched : List StreamWatched) (stream : ℕ) (one : StreamWatched) → slice_get watched stream ≡ Some one
    → row_of (answers.Verdict (watched_lines watch watched)) ≡ Some rows.AReport
report_row watch [] stream one there = absurd cc
report_row watch (first ∷ more) stream one there = refl

job_row : (line : List ℕ) (reason : NoJob) → job_line reason ≡ Some line → row_of (answers.Refused line) ≡ Some rows.TextFault
job_row line TooManyLeaves told = row_by rows.TextFault _ line told refl
job_row line (NotDriven reason) told = absurd cc
job_row line TooManyCycles told = row_by rows.TextFault _ line told refl

link_row : (word line : List ℕ) (fault : LinkFault) → link_line word fault ≡ Some line → row_of (answers.Refused line) ≡ Some rows.NotLinked
link_row word line (linking.UnknownEnd place) told = row_by rows.NotLinked _ line told refl
link_row word line (linking.SameSide place) told = row_by rows.NotLinked _ line told refl
link_row word line (linking.NotCompatible place difference) told = row_by rows.NotLinked _ line told refl
link_row word line (linking.LinkedTwice place) told = row_by rows.NotLinked _ line told refl
link_row word line (linking.Unlinked place) told = row_by rows.NotLinked _ line told refl
link_row word line linking.DesignTooLarge told = row_by rows.NotLinked _ line told refl
link_row word line linking.Memory told = absurd cc

unfinished_row : (path : List (List ℕ)) (end : End) (line : List ℕ) → unfinished_line path end ≡ Some line → row_of (answers.Verdict line) ≡ Some rows.AnUnfinished
unfinished_row path ends.Whole line told = absurd cc
unfinished_row path ends.Pending line told = ap (λ (l : List ℕ). row_of (answers.Verdict l)) (sym (same_some _ line told)) ∙ refl
unfinished_row path (ends.Unclosed k) line told = ap (λ (l : List ℕ). row_of (answers.Verdict l)) (sym (same_some _ line told)) ∙ refl

pub caused_row : (row : Row) (known : Files) (request : Request) (a : Answer) → CausedBy row known request a → row_of a ≡ Some row
caused_row rows.NoFile known request a cause = row_as a _ rows.NoFile cause.said refl
caused_row rows.TooLong known request a cause = row_as a _ rows.TooLong cause.said refl
caused_row rows.NotUtf8 known request a cause = row_as a _ rows.NotUtf8 cause.said refl
caused_row rows.LexerFault known request a cause = row_as a _ rows.LexerFault cause.said (lexer_row cause.word cause.line cause.fault cause.told)
caused_row rows.ParserFault known request a cause = row_as a _ rows.ParserFault cause.said (parser_row cause.word cause.line cause.tokens cause.fault cause.told)
caused_row rows.ResolverFault known request a cause = row_as a _ rows.ResolverFault cause.said (resolver_row cause.word cause.line cause.fault cause.told)
caused_row rows.NoPort known request a cause = row_as a _ rows.NoPort cause.said refl
caused_row rows.NoStreamlet known request a cause = row_as a _ rows.NoStreamlet cause.said refl
caused_row rows.NameClash known request a (inl cause) = row_as a _ rows.NameClash cause.said refl
caused_row rows.NameClash known request a (inr cause) = row_as a _ rows.NameClash cause.said refl
caused_row rows.NoCarrier known request a cause = row_as a _ rows.NoCarrier cause.said refl
caused_row rows.TextFault known request a (inl cause) = row_as a _ rows.TextFault cause.said (text_row known request cause.line cause.faulty)
caused_row rows.TextFault known request a (inr cause) = row_as a _ rows.TextFault cause.said (job_row cause.line cause.reason cause.told)
caused_row rows.OtherHeader known request a (inl cause) = row_as a _ rows.OtherHeader cause.said refl
caused_row rows.OtherHeader known request a (inr (inl cause)) = row_as a _ rows.OtherHeader cause.said refl
caused_row rows.OtherHeader known request a (inr (inr (inl cause))) = row_as a _ rows.OtherHeader cause.said refl
caused_row rows.OtherHeader known request a (inr (inr (inr cause))) = row_as a _ rows.OtherHeader cause.said refl
caused_row rows.CountNotMultiple known request a (inl cause) = row_as a _ rows.CountNotMultiple cause.said refl
caused_row rows.CountNotMultiple known request a (inr cause) = row_as a _ rows.CountNotMultiple cause.said refl
caused_row rows.NotFinished known request a cause = row_as a _ rows.NotFinished cause.said refl
caused_row rows.NotLinked known request a cause = row_as a _ rows.NotLinked cause.said (link_row cause.word cause.line cause.fault cause.told)
caused_row rows.NoPath known request a cause = row_as a _ rows.NoPath cause.said refl
caused_row rows.OutputTooLong known request a cause = row_as a _ rows.OutputTooLong cause.said refl
caused_row rows.AnOffence known request a (inl cause) = row_as a _ rows.AnOffence cause.said refl
caused_row rows.AnOffence known request a (inr cause) = row_as a _ rows.AnOffence cause.said refl
caused_row rows.AnUnfinished known request a (inl cause) = row_as a _ rows.AnUnfinished cause.said (unfinished_row (path_of_stream cause.read.heads cause.left.stream) cause.left.end cause.line cause.told)
caused_row rows.AnUnfinished known request a (inr cause) = row_as a _ rows.AnUnfinished cause.said (unfinished_row (path_of cause.split cause.left.stream) cause.left.end cause.line cause.told)
caused_row rows.ADisagreement known request a cause = row_as a _ rows.ADisagreement cause.said refl
caused_row rows.ADifference known request a cause = row_as a _ rows.ADifference cause.said refl
caused_row rows.AReport known request a cause = row_as a _ rows.AReport cause.said (report_row cause.watch (watched_of cause.watch (streams_of cause.read)) cause.stream cause.one cause.there)
caused_row rows.AText known request a cause = row_as a _ rows.AText cause.said refl
caused_row rows.NoTest known request a cause = row_as a _ rows.NoTest cause.said refl
