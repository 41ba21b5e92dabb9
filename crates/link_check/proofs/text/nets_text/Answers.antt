use Rattle.std.proofs.Common.{List, map, ap, ◌∙◌, arith}
use Rattle.std.specs.List.{flat_map}
use Rattle.til_resolve.specs.PlainProject.{plain_streamlet}
use Rattle.til_resolve.specs.declared.project.Streamlet.{Streamlet}
use Rattle.link_check.specs.Text.{impl_text, within}
use Rattle.link_check.specs.declared.nets.ImplNets.{ImplNets}
use Rattle.link_check.proofs.TextLemmas.{too-long}
use Rattle.link_check.proofs.text.nets_text.Goals as goal

pub returns-then-len-limit : goal.returns-then-len-limit
returns-then-len-limit c =
    let impls = c.as_slice-one-items.result.now in
    too-long (impl_text (map plain_streamlet c.as_slice-streamlets.result.now)) impls c.impls.one-index c.one-item.result c.impls.text c.write_impl.new.text c.args.limit
    c.impls-test.true c.one-item.is c.impls.invariant.text c.in_ok-write_impl.ensures (omega (arith, c.if-len-limit.true, c.len.ensures))
    ∙ ap (λ (streamlets : List Streamlet). within c.args.limit (flat_map (impl_text (map plain_streamlet streamlets)) impls)) c.as_slice-streamlets.ensures
    ∙ ap (λ (those : List ImplNets). within c.args.limit (flat_map (impl_text (map plain_streamlet c.args.project.now.streamlets)) those)) c.as_slice-one-items.ensures
