-- The heads of a trace between two leaf ports of a design that words name (this project's own).
use Rattle.std.specs.Prelude.{◌≡◌, ◌⊎◌, ℕ, Bool, true, false, ◌&&◌, nat_eq, List, [], ◌∷◌, map, Option, Some, None, option_map, option_and_then, Result, Ok, Err, codes}
use Rattle.std.specs.List.{position}
use Rattle.std.specs.Str.{bytes_eq}
use Rattle.tydi_base.specs.Path.{path_at}
use Rattle.til_resolve.specs.Paths.{is_same_path}
use Rattle.til_resolve.specs.PlainProject.{PlainPort, PlainProject, PlainStreamlet}
use Rattle.type_split.specs.Streams.{clash_of, streams_of}
use Rattle.type_split.specs.declared.split.Phys.{Phys}
use Rattle.logical_types.specs.Tree.{Ltype}
use Rattle.link_check.specs.Carriers.{AreBetween}
use Rattle.link_check.specs.Carry.{head_of_stream, heads_of_port}
use Rattle.link_check.specs.CarryLaws.{HaveTypes, port_at}
use Rattle.link_check.specs.Chains.{IsLeafSource, LeadsToSink}
use Rattle.link_check.specs.Checked.{linked}
use Rattle.link_check.specs.declared.end_heads.EndHeads.{EndHeads}
use Rattle.link_check.specs.declared.fault.LinkFault.{LinkFault}
use Rattle.link_check.specs.declared.leaf.LeafPort.{LeafPort}
use Rattle.link_check.specs.declared.nets.Nets.{Nets}
use Rattle.tydi_tool.specs.declared.designs.DesignText.{DesignText}
use Rattle.tydi_tool.specs.Links.{refusal_of_linking}
use Rattle.tydi_tool.specs.Projects.{ReadsProject}
use Rattle.tydi_tool.specs.Reading.{ReadsBy, RefusesBy}
use Rattle.tydi_tool.specs.Refusals.{Refusal, Word, name_clash, refusal_line}

-- the words of two leaf ports of a design: the file of its project, its top, and the ports
pub record DesignWords : Type 0 where
  pub project : List ℕ
  pub top : List ℕ
  pub from : List ℕ
  pub to : List ℕ

-- the words of a reader of a design
abbrev pub design_words : DesignText → DesignWords
design_words text = record { project = text.project.now; top = text.top.now; from = text.from.now; to = text.to.now }

-- ---- the words of tops and of leaf ports

-- the number of the first streamlet of the path that a word spells, with `::` between its names
abbrev pub top_at : List PlainStreamlet → List ℕ → Option ℕ
top_at streamlets word = option_and_then (λ path. position (λ (one : PlainStreamlet). is_same_path one.path path) streamlets) (path_at true word)

-- a leaf port one instance further down
abbrev pub further_down : List ℕ → LeafPort → LeafPort
further_down name leaf = record { top = leaf.top; instances = name ∷ leaf.instances; port = leaf.port }

-- the leaf port under a top that names spell: those of the instances from the top down, and then that of the port
abbrev pub leaf_by : ℕ → List (List ℕ) → Option LeafPort
leaf_by top [] = None
leaf_by top (name ∷ []) = Some (record { top = top; instances = []; port = name })
leaf_by top (name ∷ next ∷ more) = option_map (further_down name) (leaf_by top (next ∷ more))

-- the leaf port under a top that a word spells, with `.` between its names
abbrev pub leaf_at : ℕ → List ℕ → Option LeafPort
leaf_at top word = option_and_then (leaf_by top) (path_at false word)

-- two leaf ports are one
abbrev pub is_same_leaf : LeafPort → LeafPort → Bool
is_same_leaf one other = (nat_eq one.top other.top && is_same_path one.instances other.instances) && bytes_eq one.port other.port

-- ---- the refusals

abbrev pub no_streamlet : List ℕ → Refusal
no_streamlet word = record { name = codes "NoStreamlet"; details = Word word ∷ [] }

abbrev pub no_path : (from to : List ℕ) → Refusal
no_path from to = record { name = codes "NoPath"; details = Word from ∷ Word to ∷ [] }

-- ---- two leaf ports

-- a leaf port is a leaf source, and two physical streams of its type clash on this path
pub record HasClash (streamlets : List PlainStreamlet) (leaf : Option LeafPort) (path : List (List ℕ)) : Type 0 where
  pub source : LeafPort
  pub named : leaf ≡ Some source
  pub is_source : IsLeafSource streamlets source
  pub port : PlainPort
  pub there : port_at streamlets source ≡ Some port
  pub clash : clash_of port.ltype ≡ Some path

-- no two clash
abbrev pub HasNoClash : List PlainStreamlet → Option LeafPort → Type 0
HasNoClash streamlets leaf = (path : List (List ℕ)) → HasClash streamlets leaf path → ⊥

-- the nets lead from the one leaf port to the other
pub record AreJoined (streamlets : List PlainStreamlet) (nets : Nets) (from to : Option LeafPort) : Type 0 where
  pub source : LeafPort
  pub source_is : from ≡ Some source
  pub sink : LeafPort
  pub sink_is : to ≡ Some sink
  pub leads : LeadsToSink streamlets nets.impls source sink

-- and these are the heads of a trace between their ports, whose types are compatible
pub record HasHeads (streamlets : List PlainStreamlet) (nets : Nets) (from to : Option LeafPort) (heads : EndHeads) : Type 0 where
  pub joined : AreJoined streamlets nets from to
  pub types : HaveTypes streamlets joined.source joined.sink
  pub between : AreBetween (heads_of_port types.one.ltype) (heads_of_port types.other.ltype) heads

-- ---- the heads, or why there are none

-- the heads between the streams of two ports; there is no refusal
abbrev pub HeadsOfStreams : (source sink : List Phys) → Result EndHeads (List ℕ) → Type 0
HeadsOfStreams source sink (Ok heads) = AreBetween (map head_of_stream source) (map head_of_stream sink) heads
HeadsOfStreams source sink (Err line) = ⊥

abbrev pub HeadsOfTypes : (source sink : Ltype) → Result EndHeads (List ℕ) → Type 0
HeadsOfTypes source sink read = HeadsOfStreams (streams_of source) (streams_of sink) read

-- the heads between two leaf ports that are joined; there is no refusal
abbrev pub HeadsBetween : List PlainStreamlet → Nets → (from to : Option LeafPort) → Result EndHeads (List ℕ) → Type 0
HeadsBetween streamlets nets from to (Ok heads) = HasHeads streamlets nets from to heads
HeadsBetween streamlets nets from to (Err line) = ⊥

-- a line tells of a clash
pub record TellsClash (streamlets : List PlainStreamlet) (leaf : Option LeafPort) (line : List ℕ) : Type 0 where
  pub path : List (List ℕ)
  pub clash : HasClash streamlets leaf path
  pub is : line ≡ refusal_line (name_clash path)

-- no two streams clash, or the line tells of a clash
abbrev pub ClashRead : List PlainStreamlet → Option LeafPort → Result (Unit {0}) (List ℕ) → Type 0
ClashRead streamlets leaf (Ok done) = HasNoClash streamlets leaf
ClashRead streamlets leaf (Err line) = TellsClash streamlets leaf line

module _ (words : DesignWords) (streamlets : List PlainStreamlet) where
  -- by the nets of the project, or its first link error
  abbrev pub HeadsByNets : ℕ → Result Nets LinkFault → Result EndHeads (List ℕ) → Type 0
  HeadsByNets top (Ok nets) (Ok heads) = HasHeads streamlets nets (leaf_at top words.from) (leaf_at top words.to) heads
  HeadsByNets top (Ok nets) (Err line) = (AreJoined streamlets nets (leaf_at top words.from) (leaf_at top words.to)
      → ⊥) × (line ≡ refusal_line (no_path words.from words.to))
  HeadsByNets top (Err fault) read = RefusesBy (refusal_of_linking words.project fault) read

  -- under a top: a clash comes before the links
  abbrev pub HeadsUnder : ℕ → Result EndHeads (List ℕ) → Type 0
  HeadsUnder top (Ok heads) = HasNoClash streamlets (leaf_at top words.from) × HeadsByNets top (linked streamlets) (Ok heads)
  HeadsUnder top (Err line) = TellsClash streamlets (leaf_at top words.from) line ⊎ (HasNoClash streamlets (leaf_at top words.from) × HeadsByNets top
      (linked streamlets) (Err line))

  -- by the top that the word names, if it names one
  abbrev pub HeadsByTop : Option ℕ → Result EndHeads (List ℕ) → Type 0
  HeadsByTop None read = read ≡ Err (refusal_line (no_streamlet words.top))
  HeadsByTop (Some top) read = HeadsUnder top read

-- the heads between two leaf ports of a project
abbrev pub FindsHeads : DesignWords → PlainProject → Result EndHeads (List ℕ) → Type 0
FindsHeads words project read = HeadsByTop words project.streamlets (top_at project.streamlets words.top) read

-- the text of a project is read as the heads between two leaf ports of it
abbrev pub ReadsDesign : DesignWords → List ℕ → Result EndHeads (List ℕ) → Type 0
ReadsDesign words = ReadsBy (ReadsProject words.project) (FindsHeads words)
