-- The words of the elements that a driven port shows (this project's own, after the layout of the Tydi specification's logical types).
use Rattle.std.specs.Prelude.{◌≡◌, ℕ, Bool, List, slice_get, Some, Ok, Contains}
use Rattle.physical_stream.specs.Cycles.{Cycle, StreamTrace}
use Rattle.physical_stream.specs.Items.{items_of}
use Rattle.physical_stream.specs.declared.item.Item.TheVariants as items
use Rattle.physical_stream.specs.declared.transfer.Transfer.{Transfer}
use Rattle.logical_types.specs.Tree.{Ltype}
use Rattle.logical_value.specs.Agreement.{Agrees}
use Rattle.logical_value.specs.Tree.{Tree}
use Rattle.cycle_trace.specs.Trace.{streams_of}
use Rattle.type_split.specs.Nodes.{StreamNode}
use Rattle.type_split.specs.Streams.{PlainSplit}
use Rattle.type_split.specs.declared.split.Phys.{Phys}
use Rattle.plan_text.specs.declared.plan.Plan.{Plan}
use Rattle.handshake.specs.Rows.{StreamRun}
use Rattle.port_drive.specs.Drives.{drive_of}
use Rattle.port_drive.specs.Laws.{CanBeDriven, trace_of}

-- a word is that of some value of an element: each tag that is read in it names a variant
pub record HasValue (element : Ltype) (word : List Bool) : Type 0 where
  pub value : Tree
  pub agrees : Agrees element word value

-- each word of an element that these streams of a split show, in any cycle, taken or not, is that of some value
abbrev pub HaveValues : PlainSplit → List StreamTrace → Type 0
HaveValues split traces = (number cycle : ℕ) (stream : Phys) (node : StreamNode) (trace : StreamTrace) (now : Cycle) (t : Transfer) (word : List Bool) →
    slice_get split.streams number ≡ Some stream → slice_get split.nodes stream.node ≡ Some node → slice_get traces number ≡ Some trace → slice_get trace.cycles cycle ≡ Some now →
    now.shown ≡ Some t → Contains (items_of trace.params t) (items.Elem word) → HasValue node.element word

-- so are the words of a driven port
abbrev pub DrivenWordsHaveValues : Type 0
DrivenWordsHaveValues = (split : PlainSplit) (value : List (List Tree)) (plan : Plan) (runs : List StreamRun) →
    CanBeDriven split value plan → drive_of split value plan.streams ≡ Ok runs → HaveValues split (streams_of (trace_of split plan.cycles runs))
