use Rattle.std.proofs.Common.{All, List, map, subst, sym, ap, ◌∙◌}
use Rattle.std.proofs.lemmas.List.Elements.{All-weaker}
use Rattle.type_split.specs.declared.split.Node.{Node}
use Rattle.type_split.specs.Elements.{HasElements}
use Rattle.type_split.specs.Nodes.{nodes_of}
use Rattle.type_split.specs.Streams.{PlainSplit, node_view}
use Rattle.type_split.proofs.ElementLemmas.{nodes-have-elements}
use Rattle.split_text.proofs.TextLemmas.{HasPlain}
use Rattle.split_text.proofs.fitting.split_fits.Goals as goal

pub streams_fit-requires : goal.streams_fit-requires
streams_fit-requires c =
    subst (All HasPlain) (sym (ap (λ (l : List Node). map node_view l) c.as_slice.ensures ∙ ap (λ (s : PlainSplit). s.nodes) c.requires.is))
    (All-weaker HasElements HasPlain (λ node is. is.plain) (nodes_of c.requires.ltype) (nodes-have-elements c.requires.ltype c.requires.valid c.requires.few))
