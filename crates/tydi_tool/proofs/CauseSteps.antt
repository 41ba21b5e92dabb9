-- The steps of commands, each once for all commands that have it: a file that is read, a port, a port that is carried, and a value and a
-- plan of it. A step is gone through in both directions: from an answer to its cause, and from a cause to its answer.
use Rattle.std.proofs.Common.{◌≡◌, ℕ, ◌<◌, ◌≤◌, inl, inr, Bool, true, false, cond, nat_lt, List, [], length, Option, Some, None, Result, Ok, Err, codes, decimal, refl, sym, ap, ◌∙◌, subst, arith}
use Rattle.std.proofs.lemmas.Bool.Decides.{nat_tests}
use Rattle.std.specs.Str.{is_utf8}
use Rattle.std.specs.Str.Lossy.{utf8_valid_len}
use Rattle.tydi_base.specs.Path.{path_text}
use Rattle.tydi_io.specs.Store.{Files}
use Rattle.til_lexer.specs.Tokens.{tokens_of}
use Rattle.til_lexer.specs.declared.fault.LexFault.{LexFault}
use Rattle.til_lexer.specs.declared.token.Token.{Token}
use Rattle.til_parser.specs.declared.tree.Ast.{Ast}
use Rattle.logical_types.specs.Tree.{Ltype}
use Rattle.til_resolve.specs.PlainProject.{PlainPort, PlainProject}
use Rattle.type_split.specs.Carried.{uncarried_of}
use Rattle.type_split.specs.Streams.{PlainSplit, clash_of, split_of}
use Rattle.logical_value.specs.declared.value.PortValue.{PortValue}
use Rattle.plan_text.specs.Text as texts
use Rattle.plan_text.specs.declared.fault.PlanFault.{PlanFault}
use Rattle.plan_text.specs.declared.plan.Plan.{Plan}
use Rattle.tydi_tool.specs.declared.answer.Answer.{Answer}
use Rattle.tydi_tool.specs.declared.answer.Answer.TheVariants as answers
use Rattle.physical_stream.specs.declared.end.End.{End}
use Rattle.physical_stream.specs.declared.end.End.TheVariants as ends
use Rattle.tydi_tool.specs.Ask.{Ask, Ends, Asks, SaysBy, SaysOfFile, goes_on}
use Rattle.tydi_tool.specs.Causes as rows
use Rattle.tydi_tool.specs.Causes.{Row, Reaches, HasBytes, PortWords, DriveWords, ValueWords, HasText, HasPort, HasSplit, HasCarried, HasValue, HasPlan, HasDrive}
use Rattle.tydi_tool.specs.Causes.{CausedBy, carried_in, driven_in, plan_line, port_in, project_of, resolved_of, unfinished_line, valued_in, IsTextOf}
use Rattle.tydi_tool.specs.Commands.{ask_of, carried_ask, plan_ask, planned_ask, port_ask}
use Rattle.tydi_tool.specs.Drives.{carried, carried_unless}
use Rattle.tydi_tool.specs.Files.{Lack, NoFile, TooLong, bytes_within, file_of, lack_line}
use Rattle.tydi_tool.specs.Outcome.{output_answer, output_limit, output_too_long_line}
use Rattle.tydi_tool.specs.Ports.{port_named, split_at, split_found, split_unless}
use Rattle.tydi_tool.specs.Projects.{ReadsProject}
use Rattle.tydi_tool.specs.Refusals.{Refusal, not_utf8, refusal_line, refusal_of_lexing, refusal_of_plan, refusal_of_resolving, refusal_of_value}
use Rattle.tydi_tool.specs.Reports.{ReportsEnd}
use Rattle.tydi_tool.specs.Texts.{ReadsPlan, ReadsPlanned, ReadsValue}
use Rattle.tydi_tool.specs.Trees.{ReadsCoded, ReadsTokens, ReadsTree, refusal_of_parsing}
use Rattle.tydi_tool.specs.Words.{Request, FileWord, project_file, text_file}
use Rattle.tydi_tool.proofs.CauseLines.{by_line, line_of, lexer_text, one_word, parser_text, plan_text, resolver_text, same_some, two_words, value_text}
use Rattle.tydi_tool.proofs.FileLemmas.{file_of-there}
use Rattle.tydi_tool.proofs.TextLemmas.{plan-read}

-- ---- tests and results

pub test_over : (limit n : ℕ) → nat_lt limit n ≡ true → limit < n
test_over limit n h = grind (arith, nat_tests)

pub test_within : (limit n : ℕ) → nat_lt limit n ≡ false → n ≤ limit
test_within limit n h = grind (arith, nat_tests)

pub over_test : (limit n : ℕ) → limit < n → nat_lt limit n ≡ true
over_test limit n h = grind (arith, nat_tests)

pub within_test : (limit n : ℕ) → n ≤ limit → nat_lt limit n ≡ false
within_test limit n h = grind (arith, nat_tests)

pub same_line : (l m : List ℕ) → ◌≡◌ {A = Result Ast (List ℕ)} (Err l) (Err m) → l ≡ m
same_line l m e = cc

pub no_tree : (ast : Ast) (line : List ℕ) → ◌≡◌ {A = Result Ast (List ℕ)} (Err line) (Ok ast) → ⊥
no_tree ast line e = cc

-- ---- the line of a stream that does not end whole

pub ends_line : (path : List (List ℕ)) (end : End) (a : Answer) → ReportsEnd path end a → (line : List ℕ) × ((unfinished_line path end ≡ Some line) × (a ≡ answers.Verdict line))
ends_line path ends.Whole a said = absurd said
ends_line path ends.Pending a said = (_, (refl, said))
ends_line path (ends.Unclosed k) a said = (_, (refl, said))

pub reports_end : (path : List (List ℕ)) (end : End) (line : List ℕ) (a : Answer) → unfinished_line path end ≡ Some line → a ≡ answers.Verdict line → ReportsEnd path end a
reports_end path ends.Whole line a told said = absurd cc
reports_end path ends.Pending line a told said = said ∙ ap answers.Verdict (sym (same_some _ line told))
reports_end path (ends.Unclosed k) line a told said = said ∙ ap answers.Verdict (sym (same_some _ line told))

-- ---- the bytes that are found of a file

pub found_bytes : (limit : ℕ) (found : Option (List ℕ)) (bytes : List ℕ) → bytes_within limit found ≡ Ok bytes → (found ≡ Some bytes) × (length bytes ≤ limit)
found_bytes limit None bytes is = absurd cc
found_bytes limit (Some all) bytes is = by (nat_lt limit (length all)) refl is
  where
    by : (long : Bool) → nat_lt limit (length all) ≡ long → ◌≡◌ {A = Result (List ℕ) Lack} (cond long (Err TooLong) (Ok all)) (Ok bytes) → (Some all ≡ Some bytes) × (length bytes ≤ limit)
    by true long is = absurd cc
    by false short is = let same : all ≡ bytes = cc in (ap Some same, subst (λ (l : List ℕ). length l ≤ limit) same (test_within limit (length all) short))

found_none : (limit : ℕ) (found : Option (List ℕ)) → bytes_within limit found ≡ Err NoFile → found ≡ None
found_none limit None is = refl
found_none limit (Some all) is = by (nat_lt limit (length all)) is
  where
    by : (long : Bool) → ◌≡◌ {A = Result (List ℕ) Lack} (cond long (Err TooLong) (Ok all)) (Err NoFile) → Some all ≡ None
    by true is = absurd cc
    by false is = absurd cc

found_long : (limit : ℕ) (found : Option (List ℕ)) → bytes_within limit found ≡ Err TooLong → (bytes : List ℕ) × ((found ≡ Some bytes) × (limit < length bytes))
found_long limit None is = absurd cc
found_long limit (Some all) is = by (nat_lt limit (length all)) refl is
  where
    by : (long : Bool) → nat_lt limit (length all) ≡ long → ◌≡◌ {A = Result (List ℕ) Lack} (cond long (Err TooLong) (Ok all)) (Err TooLong) → (bytes : List ℕ) × ((Some all ≡ Some bytes) × (limit < length bytes))
    by true long is = (all, (refl, test_over limit (length all) long))
    by false short is = absurd cc

has_bytes : (known : Files) (word : List ℕ) (limit : ℕ) (bytes : List ℕ) → file_of known (record { word = word; limit = limit }) ≡ Ok bytes → HasBytes known word limit bytes
has_bytes known word limit bytes is = let both = found_bytes limit (known word) bytes is in record { there = both.0; within = both.1 }

-- ---- a step that asks for a file

pub file_there : (known : Files) (word : List ℕ) (limit : ℕ) (bytes : List ℕ) → HasBytes known word limit bytes → file_of known (record { word = word; limit = limit }) ≡ Ok bytes
file_there known word limit bytes has = file_of-there known (record { word = word; limit = limit }) bytes has.there has.within

pub says_lack : (known : Files) (ask : Ask) (file : FileWord) → Reaches known file ask → (lack : Lack) → file_of known file ≡ Err lack
    → SaysBy (Some known) ask (answers.Refused (lack_line lack file.word))
says_lack known (Ends Tells) file reached lack is = absurd reached
says_lack known (Asks first X Reads next) file (inl same) lack is =
    (Err lack, (ap (file_of known) (sym same) ∙ is, ap (λ (f : FileWord). answers.Refused (lack_line lack f.word)) same))
says_lack known (Asks first X Reads next) file (inr before) lack is =
    (Ok before.0, (before.1.0, inr (before.1.1.0, (before.1.1.1.0, says_lack known (next before.1.1.0) file before.1.1.1.1 lack is))))

-- a cause of an answer
abbrev pub Told : Files → Request → Answer → Type 0
Told known request a = (row : Row) × CausedBy row known request a

pub lacks : (known : Files) (request : Request) (file : FileWord) (a : Answer) → Reaches known file (ask_of request) → (lack : Lack) → file_of known file ≡ Err lack
    → a ≡ answers.Refused (lack_line lack file.word) → Told known request a
lacks known request file a reached NoFile is said = (
  rows.NoFile,
  record {
    file = file;
    reached = reached;
    lacking = found_none file.limit (known file.word) is;
    said = said ∙ ap answers.Refused (one_word (codes "tydi: ") (codes "NoFile") (codes " ") file.word (codes "\n"));
  },
)
lacks known request file a reached TooLong is said =
    let long = found_long file.limit (known file.word) is in (
      rows.TooLong,
      record {
        file = file;
        reached = reached;
        bytes = long.0;
        there = long.1.0;
        long = long.1.1;
        said = said ∙ ap answers.Refused (one_word (codes "tydi: ") (codes "TooLong") (codes " ") file.word (codes "\n"));
      },
    )

-- an answer that gives a text
pub gives_text : (known : Files) (request : Request) (text : List ℕ) (a : Answer) → IsTextOf known request text → a ≡ output_answer text → Told known request a
gives_text known request text a is said = by (nat_lt output_limit (length text)) refl said
  where
    by : (long : Bool) → nat_lt output_limit (length text) ≡ long → a ≡ cond long (answers.Refused output_too_long_line) (answers.Done text)
        → Told known request a
    by true long said = (rows.OutputTooLong, record { text = text; is = is; long = test_over output_limit (length text) long; said = said })
    by false short said = (rows.AText, record { text = text; is = is; within = test_within output_limit (length text) short; said = said })

module _ {X : Type 0} (known : Files) (file : FileWord) (Reads : List ℕ → Result X (List ℕ) → Type 0) (next : X → Ask) (a : Answer) where
  -- the file is lacking, refused, or read
  pub told-file : (request : Request) → Reaches known file (ask_of request)
      → ((bytes line : List ℕ) → HasBytes known file.word file.limit bytes → Reads bytes (Err line) → a ≡ answers.Refused line → Told known request a)
      → ((bytes : List ℕ) (x : X) → HasBytes known file.word file.limit bytes → Reads bytes (Ok x) → SaysBy (Some known) (next x) a → Told known request a)
      → SaysBy (Some known) (Asks file X Reads next) a → Told known request a
  told-file request reached refused read says = by says.0 says.1.0 says.1.1
    where
      by : (found : Result (List ℕ) Lack) → file_of known file ≡ found → SaysOfFile {X = X} Reads (λ x. SaysBy (Some known) (next x) a) file.word found a → Told known request a
      by (Err lack) is said = lacks known request file a reached lack is said
      by (Ok bytes) is (inl line) = refused bytes line.0 (has_bytes known file.word file.limit bytes is) line.1.0 line.1.1
      by (Ok bytes) is (inr x) = read bytes x.0 (has_bytes known file.word file.limit bytes is) x.1.0 x.1.1

  -- the bytes are refused with the line of the answer
  pub says-refused : (bytes line : List ℕ) → HasBytes known file.word file.limit bytes → Reads bytes (Err line) → a ≡ answers.Refused line → SaysBy (Some known) (Asks file X Reads next) a
  says-refused bytes line has refused said = (Ok bytes, (file_there known file.word file.limit bytes has, inl (line, (refused, said))))

  -- the bytes are read, and the rest says the answer
  pub says-read : (bytes : List ℕ) (x : X) → HasBytes known file.word file.limit bytes → Reads bytes (Ok x) → SaysBy (Some known) (next x) a → SaysBy (Some known) (Asks file X Reads next) a
  says-read bytes x has read said = (Ok bytes, (file_there known file.word file.limit bytes has, inr (x, (read, said))))

  -- the bytes are read, and the rest comes to a file
  pub reaches-read : (other : FileWord) (bytes : List ℕ) (x : X) → HasBytes known file.word file.limit bytes → Reads bytes (Ok x) → Reaches known other (next x) → Reaches known other (Asks file X Reads next)
  reaches-read other bytes x has read reached = inr (bytes, (file_there known file.word file.limit bytes has, (x, (read, reached))))

-- ---- a step that reads a project

-- the text of a project is refused
pub refuses_tree : (known : Files) (request : Request) (word bytes line : List ℕ) (a : Answer) → HasText known (project_of request) 4194304 word bytes → ReadsTree word bytes (Err line)
    → a ≡ answers.Refused line → Told known request a
refuses_tree known request word bytes line a project refused said = by (is_utf8 bytes) refl refused
  where
    by_tokens : (read : Result (List Token) LexFault) → is_utf8 bytes ≡ true → tokens_of bytes ≡ read → ReadsTokens word bytes read (Err line) → Told known request a
    by_tokens (Ok tokens) coded lexed (inl tree) = absurd (no_tree tree.ast line tree.says)
    by_tokens (Ok tokens) coded lexed (inr none) = (
      rows.ParserFault,
      record {
        word = word;
        bytes = bytes;
        project = project;
        coded = coded;
        tokens = tokens;
        lexed = lexed;
        none = none.none;
        fault = none.fault;
        is = none.is;
        line = line;
        told = sym (parser_text word tokens none.fault) ∙ line_of Ast (refusal_of_parsing word tokens none.fault) line none.says;
        said = said;
      },
    )
    by_tokens (Err fault) coded lexed refused = (
      rows.LexerFault,
      record {
        word = word;
        bytes = bytes;
        project = project;
        coded = coded;
        fault = fault;
        lexed = lexed;
        line = line;
        told = sym (lexer_text word fault) ∙ line_of Ast (refusal_of_lexing word fault) line refused;
        said = said;
      },
    )

    by : (coded : Bool) → is_utf8 bytes ≡ coded → ReadsCoded word bytes coded (Err line) → Told known request a
    by true coded refused = by_tokens (tokens_of bytes) coded refl refused
    by false coded refused = (
      rows.NotUtf8,
      record {
        word = word;
        bytes = bytes;
        project = project;
        coded = coded;
        said = said ∙ ap answers.Refused (same_line line (refusal_line (not_utf8 word (utf8_valid_len bytes))) refused ∙ two_words (codes "tydi: ") (codes "NotUtf8") (codes " ") word (decimal (utf8_valid_len bytes)) (codes "\n"));
      },
    )

-- the project is refused
pub refuses_project : (known : Files) (request : Request) (word bytes line : List ℕ) (a : Answer) → project_of request ≡ Some word → resolved_of request ≡ Some word → HasBytes known word 4194304 bytes
    → ReadsProject word bytes (Err line) → a ≡ answers.Refused line → Told known request a
refuses_project known request word bytes line a reads resolves file (inl refused) said = refuses_tree known request word bytes line a (record { word_is = reads; file = file }) refused said
refuses_project known request word bytes line a reads resolves file (inr stepped) said = (
  rows.ResolverFault,
  record {
    word = word;
    bytes = bytes;
    project = record { word_is = resolves; file = file };
    ast = stepped.0;
    tree = stepped.1.0;
    fault = stepped.1.1.0;
    is = stepped.1.1.1.0;
    line = line;
    told = sym (resolver_text word stepped.1.1.0) ∙ line_of PlainProject (refusal_of_resolving word stepped.1.1.0) line stepped.1.1.1.1;
    said = said;
  },
)

-- ---- a step that splits a port

-- a port whose split was found
found-split : (known : Files) (words : PortWords) (split : PlainSplit) (has : HasSplit known words split) → split_at has.port.read words.port ≡ Ok split
found-split known words split has =
    ap (split_found words.port) has.port.named
    ∙ ap (λ (t : Ltype). split_unless t (clash_of t)) (sym has.port.type_is)
    ∙ ap (split_unless has.ltype) has.apart
    ∙ ap Ok (sym has.is)

module _ (known : Files) (words : PortWords) (next : PlainSplit → Ask) where
  -- a command that begins with a port: there is no such port, or it clashes, or the rest says the answer of its split
  pub told-port : (request : Request) (a : Answer) → port_in request ≡ Some words → project_of request ≡ Some words.project → resolved_of request ≡ Some words.project → Reaches known (project_file words.project) (ask_of request)
      → ((split : PlainSplit) → HasSplit known words split → SaysBy (Some known) (next split) a → Told known request a)
      → SaysBy (Some known) (port_ask words.project words.port next) a → Told known request a
  told-port request a named reads resolves reached rest says =
      told-file known (project_file words.project) (ReadsProject words.project) (λ read. goes_on (split_at read words.port) next) a request reached
      (λ bytes line file refused said. refuses_project known request words.project bytes line a reads resolves file refused said)
      (λ bytes read file is said. by bytes read file is (port_named read words.port) refl said) says
    where
      by_clash : (ltype : Ltype) (clash : Option (List (List ℕ))) → HasPort known words ltype → clash_of ltype ≡ clash → SaysBy (Some known) (goes_on (split_unless ltype clash) next) a → Told known request a
      by_clash ltype None port apart said = rest (split_of ltype) (record { ltype = ltype; port = port; apart = apart; is = refl }) said
      by_clash ltype (Some path) port clash said = (
        rows.NameClash,
        inl (record {
          path = path;
          clashes = inl (record { words = words; named = named; ltype = ltype; port = port; clash = clash });
          said = said ∙ ap answers.Refused (one_word (codes "tydi: ") (codes "NameClash") (codes " ") (path_text path) (codes "\n"));
        }),
      )

      by : (bytes : List ℕ) (read : PlainProject) → HasBytes known words.project 4194304 bytes → ReadsProject words.project bytes (Ok read) → (found : Option PlainPort) → port_named read words.port ≡ found
          → SaysBy (Some known) (goes_on (split_found words.port found) next) a → Told known request a
      by bytes read file is None none said = (
        rows.NoPort,
        record {
          words = words;
          named = named;
          bytes = bytes;
          file = file;
          read = read;
          reads = is;
          none = none;
          said = said ∙ ap answers.Refused (one_word (codes "tydi: ") (codes "NoPort") (codes " ") words.port (codes "\n"));
        },
      )
      by bytes read file is (Some found) there said =
          by_clash found.ltype (clash_of found.ltype) (record { bytes = bytes; file = file; read = read; reads = is; found = found; named = there; type_is = refl }) refl said

  -- the port that the project has by this word decides, if it has one
  pub says-found : (a : Answer) (bytes : List ℕ) (read : PlainProject) (found : Option PlainPort) → HasBytes known words.project 4194304 bytes → ReadsProject words.project bytes (Ok read) → port_named read words.port ≡ found
      → SaysBy (Some known) (goes_on (split_found words.port found) next) a → SaysBy (Some known) (port_ask words.project words.port next) a
  says-found a bytes read found file reads is said =
      says-read known (project_file words.project) (ReadsProject words.project) (λ project. goes_on (split_at project words.port) next) a bytes read file reads
      (subst (λ (o : Option PlainPort). SaysBy (Some known) (goes_on (split_found words.port o) next) a) (sym is) said)

  pub says-port : (a : Answer) (split : PlainSplit) → HasSplit known words split → SaysBy (Some known) (next split) a → SaysBy (Some known) (port_ask words.project words.port next) a
  says-port a split has said =
      says-read known (project_file words.project) (ReadsProject words.project) (λ project. goes_on (split_at project words.port) next) a has.port.bytes has.port.read has.port.file has.port.reads
      (subst (λ (r : Result PlainSplit Refusal). SaysBy (Some known) (goes_on r next) a) (sym (found-split known words split has)) said)

  pub reaches-port : (other : FileWord) (split : PlainSplit) → HasSplit known words split → Reaches known other (next split) → Reaches known other (port_ask words.project words.port next)
  reaches-port other split has reached =
      reaches-read known (project_file words.project) (ReadsProject words.project) (λ project. goes_on (split_at project words.port) next) (answers.Refused []) other has.port.bytes has.port.read has.port.file has.port.reads
      (subst (λ (r : Result PlainSplit Refusal). Reaches known other (goes_on r next)) (sym (found-split known words split has)) reached)

-- ---- a step that needs each node carried

module _ (known : Files) (words : PortWords) (next : PlainSplit → Ask) where
  -- how a command goes on with the split of a port that has to be carried
  abbrev pub if_carried : PlainSplit → Ask
  if_carried split = goes_on (carried split) (λ done. next split)

  -- a command that begins with a port that has to be carried: it is not, or the rest says the answer
  pub told-carried : (request : Request) (a : Answer) → carried_in request ≡ Some words → port_in request ≡ Some words → project_of request ≡ Some words.project → resolved_of request ≡ Some words.project
      → Reaches known (project_file words.project) (ask_of request)
      → ((split : PlainSplit) → HasCarried known words split → SaysBy (Some known) (next split) a → Told known request a)
      → SaysBy (Some known) (carried_ask words.project words.port next) a → Told known request a
  told-carried request a needed named reads resolves reached rest says =
      told-port known words if_carried request a named reads resolves reached (λ split has said. by split has (uncarried_of split) refl said) says
    where
      by : (split : PlainSplit) → HasSplit known words split → (uncarried : Option (List (List ℕ))) → uncarried_of split ≡ uncarried
          → SaysBy (Some known) (goes_on (carried_unless uncarried) (λ done. next split)) a → Told known request a
      by split has None is said = rest split (record { split_is = has; carried = is }) said
      by split has (Some path) is said = (
        rows.NoCarrier,
        record {
          path = path;
          uncarried = inl (record { words = words; named = needed; split = split; split_is = has; uncarried = is });
          said = said ∙ ap answers.Refused (one_word (codes "tydi: ") (codes "NoCarrier") (codes " ") (path_text path) (codes "\n"));
        },
      )

  -- whether the nodes are carried decides
  pub says-uncarried : (a : Answer) (split : PlainSplit) (uncarried : Option (List (List ℕ))) → HasSplit known words split → uncarried_of split ≡ uncarried
      → SaysBy (Some known) (goes_on (carried_unless uncarried) (λ done. next split)) a → SaysBy (Some known) (carried_ask words.project words.port next) a
  says-uncarried a split uncarried has is said =
      says-port known words if_carried a split has (subst (λ (o : Option (List (List ℕ))). SaysBy (Some known) (goes_on (carried_unless o) (λ done. next split)) a) (sym is) said)

  pub says-carried : (a : Answer) (split : PlainSplit) → HasCarried known words split → SaysBy (Some known) (next split) a → SaysBy (Some known) (carried_ask words.project words.port next) a
  says-carried a split has said = says-uncarried a split None has.split_is has.carried said

  pub reaches-carried : (other : FileWord) (split : PlainSplit) → HasCarried known words split → Reaches known other (next split) → Reaches known other (carried_ask words.project words.port next)
  reaches-carried other split has reached =
      reaches-port known words if_carried other split has.split_is
      (subst (λ (o : Option (List (List ℕ))). Reaches known other (goes_on (carried_unless o) (λ done. next split))) (sym has.carried) reached)

-- ---- the steps that read a value and a plan

-- the first error of the text of a plan that is refused
pub plan-fault : (word : List ℕ) (split : PlainSplit) (bytes line : List ℕ) → ReadsPlan word split bytes (Err line)
    → (fault : PlanFault) × ((texts.plan_of split.streams bytes ≡ Err fault) × (plan_line word fault ≡ Some line))
plan-fault word split bytes line refused = by (texts.plan_of split.streams bytes) refl refused
  where
    by : (read : Result Plan PlanFault) → texts.plan_of split.streams bytes ≡ read → ReadsPlanned word read (Err line)
        → (fault : PlanFault) × ((texts.plan_of split.streams bytes ≡ Err fault) × (plan_line word fault ≡ Some line))
    by (Ok plan) is refused = absurd cc
    by (Err fault) is refused = (fault, (is, sym (plan_text word fault) ∙ line_of Plan (refusal_of_plan word fault) line refused))

-- a text with that error is refused
pub plan-refused : (word : List ℕ) (split : PlainSplit) (bytes line : List ℕ) (fault : PlanFault) → texts.plan_of split.streams bytes ≡ Err fault → plan_line word fault ≡ Some line
    → ReadsPlan word split bytes (Err line)
plan-refused word split bytes line fault is told =
    subst (λ (read : Result Plan PlanFault). ReadsPlanned word read (Err line)) (sym is) (by_line Plan (refusal_of_plan word fault) line (plan_text word fault ∙ told))

-- the words of a port and a value, of those of a port that is driven
abbrev pub value_words : DriveWords → ValueWords
value_words words = record { at = words.at; value = words.value }

module _ (known : Files) (words : ValueWords) (next : PlainSplit → PortValue → Ask) where
  -- how a command goes on with the split of a port of which it reads a value
  abbrev pub if_valued : PlainSplit → Ask
  if_valued split = Asks (text_file words.value) PortValue (ReadsValue words.value split) (next split)

  -- a command that reads a value of a port
  abbrev pub values : Ask
  values = carried_ask words.at.project words.at.port if_valued

  module _ (request : Request) (a : Answer) (named : valued_in request ≡ Some words) where
    -- the text of the value is refused
    refuses_value : (split : PlainSplit) → HasCarried known words.at split → (bytes line : List ℕ) → HasBytes known words.value 16777216 bytes → ReadsValue words.value split bytes (Err line)
        → a ≡ answers.Refused line → Told known request a
    refuses_value split at bytes line file refused said = (
      rows.TextFault,
      inl (record {
        line = line;
        faulty = inr (inl (record {
          words = words;
          named = named;
          split = split;
          at = at;
          bytes = bytes;
          file = file;
          fault = refused.0;
          reads = refused.1.0;
          told = sym (value_text words.value refused.0) ∙ line_of PortValue (refusal_of_value words.value refused.0) line refused.1.1;
        }));
        said = said;
      }),
    )

    -- a value that is read, and what the rest says of it
    pub told-valued : (split : PlainSplit) → HasCarried known words.at split → ((other : FileWord) → Reaches known other values → Reaches known other (ask_of request))
        → ((value : PortValue) → HasValue known split words.value value → SaysBy (Some known) (next split value) a → Told known request a)
        → SaysBy (Some known) (if_valued split) a → Told known request a
    told-valued split at reached rest says =
        told-file known (text_file words.value) (ReadsValue words.value split) (next split) a request
        (reached (text_file words.value) (reaches-carried known words.at if_valued (text_file words.value) split at (inl refl)))
        (refuses_value split at)
        (λ bytes value file read said. rest value (record { bytes = bytes; file = file; reads = read }) said) says

  -- the value is refused
  pub says-value : (a : Answer) (split : PlainSplit) → HasCarried known words.at split → (bytes line : List ℕ) → HasBytes known words.value 16777216 bytes → ReadsValue words.value split bytes (Err line)
      → a ≡ answers.Refused line → SaysBy (Some known) values a
  says-value a split at bytes line file refused said =
      says-carried known words.at if_valued a split at (says-refused known (text_file words.value) (ReadsValue words.value split) (next split) a bytes line file refused said)

  -- the value is read, and the rest says the answer
  pub says-valued : (a : Answer) (split : PlainSplit) → HasCarried known words.at split → (value : PortValue) → HasValue known split words.value value
      → SaysBy (Some known) (next split value) a → SaysBy (Some known) values a
  says-valued a split at value has said =
      says-carried known words.at if_valued a split at (says-read known (text_file words.value) (ReadsValue words.value split) (next split) a has.bytes value has.file has.reads said)

  -- the value is read, and the rest comes to a file
  pub reaches-valued : (other : FileWord) (split : PlainSplit) → HasCarried known words.at split → (value : PortValue) → HasValue known split words.value value → Reaches known other (next split value)
      → Reaches known other values
  reaches-valued other split at value has reached =
      reaches-carried known words.at if_valued other split at
      (reaches-read known (text_file words.value) (ReadsValue words.value split) (next split) (answers.Refused []) other has.bytes value has.file has.reads reached)

module _ (known : Files) (words : DriveWords) (Tells : PlainSplit → PortValue → Plan → Answer → Type 0) where
  -- how a command goes on with a value of a port that it drives
  abbrev pub if_planned : PlainSplit → PortValue → Ask
  if_planned split value = plan_ask words.plan split (Tells split value)

  -- a command that drives a port
  abbrev pub drives : Ask
  drives = carried_ask words.at.project words.at.port (λ split. planned_ask words.value words.plan split (Tells split))

  module _ (request : Request) (a : Answer) (named : driven_in request ≡ Some words) (valued : valued_in request ≡ Some (value_words words)) where
    -- the text of the plan is refused
    refuses_plan : (split : PlainSplit) → HasCarried known words.at split → (value : PortValue) → HasValue known split words.value value → (bytes line : List ℕ) → HasBytes known words.plan 16777216 bytes
        → ReadsPlan words.plan split bytes (Err line) → a ≡ answers.Refused line → Told known request a
    refuses_plan split at value has bytes line file refused said =
        let fault = plan-fault words.plan split bytes line refused in (
          rows.TextFault,
          inl (record {
            line = line;
            faulty = inr (inr (inl (record {
              words = words;
              named = named;
              split = split;
              at = at;
              value = value;
              value_is = has;
              bytes = bytes;
              file = file;
              fault = fault.0;
              reads = fault.1.0;
              told = fault.1.1;
            })));
            said = said;
          }),
        )

    -- a value and a plan that are read, and what the end says of them
    pub told-planned : (split : PlainSplit) → HasCarried known words.at split → ((other : FileWord) → Reaches known other drives → Reaches known other (ask_of request))
        → ((value : PortValue) (plan : Plan) → HasDrive known words split value plan → Tells split value plan a → Told known request a)
        → SaysBy (Some known) (planned_ask words.value words.plan split (Tells split)) a → Told known request a
    told-planned split at reached rest says = told-valued known (value_words words) if_planned request a valued split at reached by_value says
      where
        by_value : (value : PortValue) → HasValue known split words.value value → SaysBy (Some known) (if_planned split value) a → Told known request a
        by_value value has said =
            told-file known (text_file words.plan) (ReadsPlan words.plan split) (λ plan. Ends (Tells split value plan)) a request
            (reached (text_file words.plan) (reaches-valued known (value_words words) if_planned (text_file words.plan) split at value has (inl refl)))
            (refuses_plan split at value has)
            (λ plan_bytes plan plan_file plan_is tells. rest value plan
            (record { at = at; value_is = has; plan_is = record { bytes = plan_bytes; file = plan_file; reads = plan-read words.plan split plan_bytes plan plan_is } }) tells) said

  -- the plan is refused
  pub says-plan : (a : Answer) (split : PlainSplit) → HasCarried known words.at split → (value : PortValue) → HasValue known split words.value value → (bytes line : List ℕ) → HasBytes known words.plan 16777216 bytes
      → ReadsPlan words.plan split bytes (Err line) → a ≡ answers.Refused line → SaysBy (Some known) drives a
  says-plan a split at value has bytes line file refused said =
      says-valued known (value_words words) if_planned a split at value has
      (says-refused known (text_file words.plan) (ReadsPlan words.plan split) (λ plan. Ends (Tells split value plan)) a bytes line file refused said)

  -- the end says the answer
  pub says-planned : (a : Answer) (split : PlainSplit) (value : PortValue) (plan : Plan) → HasDrive known words split value plan → Tells split value plan a → SaysBy (Some known) drives a
  says-planned a split value plan has tells =
      says-valued known (value_words words) if_planned a split has.at value has.value_is
      (says-read known (text_file words.plan) (ReadsPlan words.plan split) (λ one. Ends (Tells split value one)) a has.plan_is.bytes plan has.plan_is.file read tells)
    where
      read : ReadsPlan words.plan split has.plan_is.bytes (Ok plan)
      read = subst (λ (r : Result Plan PlanFault). ReadsPlanned words.plan r (Ok plan)) (sym has.plan_is.reads) refl
