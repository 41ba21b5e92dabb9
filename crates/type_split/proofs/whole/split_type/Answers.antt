use Rattle.std.proofs.Common.{rules, ◌≡◌, ◌∙◌, [], false, map, sym}
use Rattle.logical_types.specs.Tree.{plain_of_stream}
use Rattle.type_split.specs.Nodes.{nodes_of}
use Rattle.type_split.specs.Splitting.{clash_within}
use Rattle.type_split.specs.Streams.{node_view}
use Rattle.type_split.proofs.ClashLemmas.{clash-found}
use Rattle.type_split.proofs.CountLemmas.{nodes-few}
use Rattle.type_split.proofs.whole.split_type.Goals as goal

pub returns-in-Some-clause-clash : goal.returns-in-Some-clause-clash
returns-in-Some-clause-clash c =
    let found : c.add_stream.new.self.clash ≡ clash_within [] false (plain_of_stream c.args.ltype.now) = search rules in
    clash-found (plain_of_stream c.args.ltype.now) c.requires.valid ∙ sym found ∙ c.in-Some.is

pub streams_of-requires : goal.streams_of-requires
streams_of-requires c =
    let is : map node_view c.as_slice.result.now ≡ nodes_of (plain_of_stream c.args.ltype.now) = search rules in
    nodes-few (plain_of_stream c.args.ltype.now) c.as_slice.result.now is c.requires.few

pub roots_of-requires : goal.roots_of-requires
roots_of-requires c =
    let is : map node_view c.as_slice-2.result.now ≡ nodes_of (plain_of_stream c.args.ltype.now) = search rules in
    nodes-few (plain_of_stream c.args.ltype.now) c.as_slice-2.result.now is c.requires.few

pub returns-clause-apart : goal.returns-clause-apart
returns-clause-apart c =
    let found : c.add_stream.new.self.clash ≡ clash_within [] false (plain_of_stream c.args.ltype.now) = search rules in
    clash-found (plain_of_stream c.args.ltype.now) c.requires.valid ∙ sym found ∙ c.in_default.is
