-- Values that have given views, up to bits that are ignored (this project's own, after the nested streams of the Tydi specification).
use Rattle.std.specs.Prelude.{◌≡◌, true, List, length, map, Some, None, slice_get}
use Rattle.logical_types.specs.Tree.{Ltype}
use Rattle.logical_types.specs.Width.{width_of}
use Rattle.type_split.specs.Carried.{uncarried_of}
use Rattle.type_split.specs.Nodes.{StreamNode}
use Rattle.type_split.specs.Streams.{IsPortSplit, PlainSplit}
use Rattle.type_split.specs.declared.split.Phys.{Phys}
use Rattle.nest_shape.specs.Flat.{HaveDepth}
use Rattle.nest_shape.specs.Tree.{leaf, Trees, no_trees, tree, plain, trees_of}
use Rattle.nest_shape.specs.Tree as nests
use Rattle.nest_shape.specs.declared.nest.Nest.{Nest}
use Rattle.logical_value.specs.Agreement.{StandsForSome}
use Rattle.logical_value.specs.Fits.{fits_split}
use Rattle.logical_value.specs.Tree.{Tree}
use Rattle.value_views.specs.Comparing.{disagreement_of}
use Rattle.value_views.specs.Series.{NodeSeries, series_of_nodes}
use Rattle.value_views.specs.Views.{AgreesAt, EachPair}
use Rattle.value_views.specs.declared.fault.JoinFault.{JoinFault}
use Rattle.value_views.specs.declared.fault.JoinFault.TheVariants as faults

-- ---- views

-- the plain data of views
abbrev pub plain_views : List (List Nest) → List (List nests.Tree)
plain_views views = map (λ (view : List Nest). map plain view) views

-- each leaf of a nest is a word of the element's width that stands for some value
abbrev mutual
  pub HasWords : Ltype → nests.Tree → Type 0
  HasWords element (leaf bits) = (length bits ≡ width_of element) × StandsForSome element bits
  HasWords element (nests.list parts) = HaveWords element parts

  -- each leaf of these nests
  pub HaveWords : Ltype → Trees → Type 0
  HaveWords element no_trees = Unit {0}
  HaveWords element (tree first more) = HasWords element first × HaveWords element more

-- a view of a physical stream: nests of its dimensionality, with words of the elements of its node
pub record IsView (nodes : List StreamNode) (phys : Phys) (view : List nests.Tree) : Type 0 where
  pub node : StreamNode
  pub found : slice_get nodes phys.node ≡ Some node
  pub depth : HaveDepth phys.params.dims (trees_of view)
  pub words : HaveWords node.element (trees_of view)

-- views of the physical streams of a port, one for each
abbrev pub AreViews : PlainSplit → List (List nests.Tree) → Type 0
AreViews split views = EachPair (IsView split.nodes) split.streams views

-- ---- values that have views

-- the node of a physical stream has a series with this view, up to bits that are ignored: each word agrees with the value at its place
pub record ShowsView (nodes : List NodeSeries) (phys : Phys) (view : List nests.Tree) : Type 0 where
  pub node : NodeSeries
  pub found : slice_get nodes phys.node ≡ Some node
  pub agree : EachPair (AgreesAt node.element node.dims) view node.series

-- a value of a port's type has these views on its physical streams, up to bits that are ignored
pub record HasViews (split : PlainSplit) (roots : List (List Tree)) (views : List (List nests.Tree)) : Type 0 where
  pub fits : fits_split split roots ≡ true
  pub shown : EachPair (ShowsView (series_of_nodes split.nodes roots)) split.streams views

-- the error has the place at which the views are not those of one value; want of memory says nothing
abbrev pub IsDisagreement : PlainSplit → List (List nests.Tree) → JoinFault → Type 0
IsDisagreement split views (faults.Disagree path packet) = disagreement_of split views ≡ Some (record { path = path; packet = packet })
IsDisagreement split views faults.Memory = Unit {0}

-- ---- laws

-- the views of a value agree: no node disagrees with the node around it
abbrev pub ViewsOfValuesAgree : Type 0
ViewsOfValuesAgree = (split : PlainSplit) → IsPortSplit split → uncarried_of split ≡ None → (roots : List (List Tree)) (views : List (List nests.Tree))
    → HasViews split roots views → disagreement_of split views ≡ None

-- some value of a port's type has these views
pub record AreViewsOfSome (split : PlainSplit) (views : List (List nests.Tree)) : Type 0 where
  pub roots : List (List Tree)
  pub has : HasViews split roots views

-- views that agree are those of some value
abbrev pub AgreeingViewsHaveValues : Type 0
AgreeingViewsHaveValues = (split : PlainSplit) → IsPortSplit split → uncarried_of split ≡ None → (views : List (List nests.Tree)) → AreViews split views
    → disagreement_of split views ≡ None → AreViewsOfSome split views

-- two values with the same views, up to bits that are ignored, are equal
abbrev pub ViewsDetermineValues : Type 0
ViewsDetermineValues = (split : PlainSplit) → IsPortSplit split → uncarried_of split ≡ None → (one other : List (List Tree)) (views : List (List nests.Tree))
    → HasViews split one views → HasViews split other views → one ≡ other
