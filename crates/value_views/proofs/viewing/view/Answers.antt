use Rattle.std.proofs.lemmas.Result.{IfOk-weaker}
use Rattle.std.proofs.Common.{map, Some}
use Rattle.nest_shape.specs.Tree.{plain}
use Rattle.value_views.proofs.ViewLemmas.{stream-within, view-of_stream}
use Rattle.value_views.proofs.viewing.view.Goals as goal

pub find_node-requires-clause-number : goal.find_node-requires-clause-number
find_node-requires-clause-number c = stream-within c.args.split.now c.args.stream c.as_slice.result.now c.index-as_slice-stream.result c.requires.split c.requires.stream c.as_slice.ensures

pub returns : goal.returns
returns c =
    IfOk-weaker c.gather_node.result _ _
    (λ view is. view-of_stream c.args.split.now c.args.value.now c.args.stream c.as_slice.result.now c.index-as_slice-stream.result (Some (map plain view)) c.requires.stream c.as_slice.ensures is)
    c.gather_node.ensures
