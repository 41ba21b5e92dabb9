-- Refusals, each a name and its details, and the errors of texts that they stand for (this project's own).
use Rattle.std.specs.Prelude.{ℕ, List, [], ◌∷◌, ◌++◌, Option, Some, None, codes, decimal}
use Rattle.std.specs.List.{flat_map}
use Rattle.tydi_base.specs.Path.{colon_text, path_text}
use Rattle.tydi_base.specs.declared.place.Place.{Place}
use Rattle.cycle_trace.specs.declared.fault.TraceFault.{TraceFault}
use Rattle.cycle_trace.specs.declared.fault.TraceFault.TheVariants as faults
use Rattle.til_lexer.specs.declared.fault.LexFault.{LexFault}
use Rattle.til_lexer.specs.declared.fault.LexFault.TheVariants as lexing
use Rattle.logical_types.specs.declared.fault.TypeFault.{TypeFault}
use Rattle.logical_types.specs.declared.fault.TypeFault.TheVariants as typing
use Rattle.til_resolve.specs.declared.fault.ResolveFault.{ResolveFault}
use Rattle.til_resolve.specs.declared.fault.ResolveFault.TheVariants as resolving
use Rattle.value_text.specs.declared.fault.ValueFault.{ValueFault}
use Rattle.value_text.specs.declared.fault.ValueFault.TheVariants as valuing
use Rattle.plan_text.specs.declared.fault.PlanFault.{PlanFault}
use Rattle.plan_text.specs.declared.fault.PlanFault.TheVariants as planning
use Rattle.vhdl_text.specs.declared.fault.VhdlFault.{VhdlFault}
use Rattle.vhdl_text.specs.declared.fault.VhdlFault.TheVariants as benching
use Rattle.vhdl_meaning.specs.declared.run.RunFault.{RunFault}
use Rattle.vhdl_meaning.specs.declared.run.RunFault.TheVariants as running
use Rattle.watch_text.specs.declared.fault.WatchFault.{WatchFault}
use Rattle.watch_text.specs.declared.fault.WatchFault.TheVariants as watching
use Rattle.tydi_tool.specs.declared.refusal.Detail.{Detail}
use Rattle.tydi_tool.specs.declared.refusal.Detail.TheVariants as details

-- a detail, apart from where it lies in memory: a word, the path of a stream, a number, a place in a text, a name, or a port of
-- the streamlet of a path
pub data Said : Type 0 where
  Word : List ℕ → Said
  Stream : List (List ℕ) → Said
  Number : ℕ → Said
  At : Place → Said
  Name : List ℕ → Said
  Port : List (List ℕ) → List ℕ → Said

abbrev pub said_by : Detail → Said
said_by (details.Word word) = Word word.now
said_by (details.Stream path) = Stream path.now
said_by (details.Number number) = Number number
said_by (details.At place) = At place
said_by (details.Name name) = Name name.now
said_by (details.Port streamlet port) = Port streamlet.now port.now

-- a fault's name, and what its line has after it
pub record Refusal : Type 0 where
  pub name : List ℕ
  pub details : List Said

abbrev pub said_text : Said → List ℕ
said_text (Word word) = word
said_text (Stream path) = path_text path
said_text (Number number) = decimal number
said_text (At place) = decimal place.line ++ codes ":" ++ decimal place.column
said_text (Name name) = name
said_text (Port streamlet port) = colon_text streamlet ++ codes "." ++ port

-- a detail stands after one space
abbrev pub detail_text : Said → List ℕ
detail_text detail = codes " " ++ said_text detail

abbrev pub details_text : List Said → List ℕ
details_text details = flat_map detail_text details

-- the line of a fault, whatever it is
abbrev pub refusal_line : Refusal → List ℕ
refusal_line refusal = codes "tydi: " ++ refusal.name ++ details_text refusal.details ++ codes "\n"

-- an error of a file that names nothing else, or a place in it
abbrev pub of_file : List ℕ → List ℕ → Refusal
of_file name word = record { name = name; details = Word word ∷ [] }

abbrev pub of_file_with : List ℕ → List ℕ → Said → Refusal
of_file_with name word detail = record { name = name; details = Word word ∷ detail ∷ [] }

-- the refusal of a trace text of this word with this fault; want of memory is none
abbrev pub refusal_of_trace : List ℕ → TraceFault → Option Refusal
refusal_of_trace word (faults.BadHeader line) = Some (of_file_with (codes "BadHeader") word (Number line))
refusal_of_trace word faults.TooManyCycles = Some (of_file (codes "TooManyCycles") word)
refusal_of_trace word (faults.BadRow line) = Some (of_file_with (codes "BadRow") word (Number line))
refusal_of_trace word (faults.WrongSignals line) = Some (of_file_with (codes "WrongSignals") word (Number line))
refusal_of_trace word (faults.RowsMissing want got) = Some (record { name = codes "RowsMissing"; details = Word word ∷ Number want ∷ Number got ∷ [] })
refusal_of_trace word (faults.RowsLeft line) = Some (of_file_with (codes "RowsLeft") word (Number line))
refusal_of_trace word faults.Memory = None

-- the refusal of bytes that are not UTF-8, the longest front of which that is has so many
abbrev pub not_utf8 : List ℕ → ℕ → Refusal
not_utf8 word front = of_file_with (codes "NotUtf8") word (Number front)

-- the refusal of a text of this word with this error of its tokens; want of memory is none
abbrev pub refusal_of_lexing : List ℕ → LexFault → Option Refusal
refusal_of_lexing word (lexing.StrayChar place) = Some (of_file_with (codes "StrayChar") word (At place))
refusal_of_lexing word (lexing.OpenString place) = Some (of_file_with (codes "OpenString") word (At place))
refusal_of_lexing word (lexing.OpenDoc place) = Some (of_file_with (codes "OpenDoc") word (At place))
refusal_of_lexing word (lexing.NameNotAscii place) = Some (of_file_with (codes "NameNotAscii") word (At place))
refusal_of_lexing word (lexing.BadName place) = Some (of_file_with (codes "BadName") word (At place))
refusal_of_lexing word (lexing.NumberTooLong place) = Some (of_file_with (codes "NumberTooLong") word (At place))
refusal_of_lexing word lexing.Memory = None

-- the name of an error of a type
abbrev pub type_fault_name : TypeFault → List ℕ
type_fault_name typing.ZeroBits = codes "ZeroBits"
type_fault_name typing.ElementTooWide = codes "ElementTooWide"
type_fault_name typing.BadThroughput = codes "BadThroughput"
type_fault_name typing.TooManyLanes = codes "TooManyLanes"
type_fault_name typing.TooManyDims = codes "TooManyDims"
type_fault_name typing.UserHasStream = codes "UserHasStream"
type_fault_name typing.NameTwice = codes "NameTwice"
type_fault_name typing.EmptyUnion = codes "EmptyUnion"

-- the refusal of a project of this word whose tree has this fault; want of memory is none
abbrev pub refusal_of_resolving : List ℕ → ResolveFault → Option Refusal
refusal_of_resolving word (resolving.DeclaredTwice place) = Some (of_file_with (codes "DeclaredTwice") word (At place))
refusal_of_resolving word (resolving.UnknownName place) = Some (of_file_with (codes "UnknownName") word (At place))
refusal_of_resolving word (resolving.WrongKind place) = Some (of_file_with (codes "WrongKind") word (At place))
refusal_of_resolving word (resolving.CyclicType place) = Some (of_file_with (codes "CyclicType") word (At place))
refusal_of_resolving word (resolving.TypeTooLarge place) = Some (of_file_with (codes "TypeTooLarge") word (At place))
refusal_of_resolving word (resolving.BadType place fault) =
    Some (record { name = codes "BadType"; details = Word word ∷ At place ∷ Name (type_fault_name fault) ∷ [] })
refusal_of_resolving word (resolving.PortNotStream place) = Some (of_file_with (codes "PortNotStream") word (At place))
refusal_of_resolving word (resolving.CyclicInstance place) = Some (of_file_with (codes "CyclicInstance") word (At place))
refusal_of_resolving word resolving.Memory = None

-- the refusal of a word that names no port
abbrev pub no_port : List ℕ → Refusal
no_port port = of_file (codes "NoPort") port

-- the refusal of a word that names no declared test
abbrev pub no_test : List ℕ → Refusal
no_test test = of_file (codes "NoTest") test

-- the refusal of a port of which two physical streams have this path
abbrev pub name_clash : List (List ℕ) → Refusal
name_clash path = record { name = codes "NameClash"; details = Stream path ∷ [] }

-- the refusal of a port with a node of this path that no physical stream carries
abbrev pub no_carrier : List (List ℕ) → Refusal
no_carrier path = record { name = codes "NoCarrier"; details = Stream path ∷ [] }

-- the refusal of the text of a value of this word with this error; want of memory is none
abbrev pub refusal_of_value : List ℕ → ValueFault → Option Refusal
refusal_of_value word (valuing.Syntax place) = Some (of_file_with (codes "Syntax") word (At place))
refusal_of_value word (valuing.WrongShape place) = Some (of_file_with (codes "WrongShape") word (At place))
refusal_of_value word (valuing.UnknownField place) = Some (of_file_with (codes "UnknownField") word (At place))
refusal_of_value word (valuing.OutOfRange place) = Some (of_file_with (codes "OutOfRange") word (At place))
refusal_of_value word (valuing.TooManyLeaves place) = Some (of_file_with (codes "TooManyLeaves") word (At place))
refusal_of_value word valuing.Memory = None

-- the refusal of the text of a plan of this word with this error; want of memory is none
abbrev pub refusal_of_plan : List ℕ → PlanFault → Option Refusal
refusal_of_plan word (planning.Syntax place) = Some (of_file_with (codes "Syntax") word (At place))
refusal_of_plan word (planning.UnknownStream place) = Some (of_file_with (codes "UnknownStream") word (At place))
refusal_of_plan word (planning.StreamTwice place) = Some (of_file_with (codes "StreamTwice") word (At place))
refusal_of_plan word (planning.ReadyLength place) = Some (of_file_with (codes "ReadyLength") word (At place))
refusal_of_plan word (planning.MaskTooWide place) = Some (of_file_with (codes "MaskTooWide") word (At place))
refusal_of_plan word (planning.UserTooWide place) = Some (of_file_with (codes "UserTooWide") word (At place))
refusal_of_plan word (planning.TooManyCycles place) = Some (of_file_with (codes "TooManyCycles") word (At place))
refusal_of_plan word planning.Memory = None

-- the refusal of a bench text of this word with this error; want of memory is none
abbrev pub refusal_of_bench : List ℕ → VhdlFault → Option Refusal
refusal_of_bench word (benching.NotForm offset) = Some (of_file_with (codes "NotForm") word (Number offset))
refusal_of_bench word (benching.UnknownSignal offset) = Some (of_file_with (codes "UnknownSignal") word (Number offset))
refusal_of_bench word (benching.TwoDrivers offset) = Some (of_file_with (codes "TwoDrivers") word (Number offset))
refusal_of_bench word benching.Memory = None

-- the refusal of a monitor text of this word with this error; want of memory is none
abbrev pub refusal_of_watch : List ℕ → WatchFault → Option Refusal
refusal_of_watch word (watching.NotForm offset) = Some (of_file_with (codes "NotForm") word (Number offset))
refusal_of_watch word watching.Memory = None

-- the refusal of a run text of this word with this error; want of memory is none
abbrev pub refusal_of_run : List ℕ → RunFault → Option Refusal
refusal_of_run word (running.Syntax place) = Some (of_file_with (codes "Syntax") word (At place))
refusal_of_run word (running.UnknownStream place) = Some (of_file_with (codes "UnknownStream") word (At place))
refusal_of_run word (running.StreamTwice place) = Some (of_file_with (codes "StreamTwice") word (At place))
refusal_of_run word (running.ReadyLength place) = Some (of_file_with (codes "ReadyLength") word (At place))
refusal_of_run word (running.NotOrder place) = Some (of_file_with (codes "NotOrder") word (At place))
refusal_of_run word (running.TooManyCycles place) = Some (of_file_with (codes "TooManyCycles") word (At place))
refusal_of_run word (running.TooManyOrders place) = Some (of_file_with (codes "TooManyOrders") word (At place))
refusal_of_run word running.Memory = None
