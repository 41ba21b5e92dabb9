-- The rule on tags (this project's own, after the Unions of the Tydi specification's logical types). It looks at each cycle with valid, whether it is taken or not.
use Rattle.std.specs.Prelude.{◌⊎◌, ℕ, List, Option, Some, None, Bool, slice_get, Contains}
use Rattle.physical_stream.specs.Params.{Parameters}
use Rattle.physical_stream.specs.Items.{items_of}
use Rattle.physical_stream.specs.Breaks.{Breaking, BreaksAfter, OnShown}
use Rattle.physical_stream.specs.First.{Offence, OffendsBy}
use Rattle.physical_stream.specs.Rules.{Binds}
use Rattle.physical_stream.specs.declared.item.Item.TheVariants as items
use Rattle.physical_stream.specs.declared.rule.Rule.TheVariants.{Tag}
use Rattle.physical_stream.specs.declared.transfer.Transfer.{Transfer}
use Rattle.logical_types.specs.Tree.{Ltype, null}
use Rattle.type_split.specs.Nodes.{StreamNode}
use Rattle.type_split.specs.Streams.{PlainSplit}
use Rattle.type_split.specs.declared.split.Phys.{Phys}
use Rattle.logical_value.specs.Agreement.{Agrees}
use Rattle.logical_value.specs.Tree.{Tree}
use Rattle.cycle_trace.specs.Trace.{TraceText, streams_of}

-- 11 Tag: an active lane has a word that agrees with no value of the stream's elements, since a tag that is read names no variant
pub record BreaksTag (element : Ltype) (p : Parameters) (t : Transfer) : Type 0 where
  pub word : List Bool
  pub shown : Contains (items_of p t) (items.Elem word)
  pub agrees_with_none : (value : Tree) → Agrees element word value → ⊥

-- a cycle breaks the rule on tags, where the elements have this type; no other rule is broken so
abbrev pub BreaksTagAfter : Ltype → Breaking
BreaksTagAfter element Tag p before now = Binds Tag p.level × OnShown (BreaksTag element p) now.shown
BreaksTagAfter element rule p before now = ⊥

-- a cycle breaks one of rules 1 to 11
abbrev pub BreaksWithTags : Ltype → Breaking
BreaksWithTags element rule p before now = BreaksAfter rule p before now ⊎ BreaksTagAfter element rule p before now

-- ---- the elements of the streams of a split

abbrev pub element_of_node : Option StreamNode → Ltype
element_of_node None = null
element_of_node (Some node) = node.element

abbrev pub element_of_stream : List StreamNode → Option Phys → Ltype
element_of_stream nodes None = null
element_of_stream nodes (Some phys) = element_of_node (slice_get nodes phys.node)

-- the type of the elements of the physical stream of this number
abbrev pub element_at : PlainSplit → ℕ → Ltype
element_at split stream = element_of_stream split.nodes (slice_get split.streams stream)

-- the offences of a trace by rules 1 to 11, where its streams are those of a split
abbrev pub OffendsWithTags : PlainSplit → TraceText → Offence → Type 0
OffendsWithTags split t o = OffendsBy (λ stream. BreaksWithTags (element_at split stream)) (streams_of t) o

-- those by the rule on tags alone
abbrev pub OffendsByTag : PlainSplit → TraceText → Offence → Type 0
OffendsByTag split t o = OffendsBy (λ stream. BreaksTagAfter (element_at split stream)) (streams_of t) o
