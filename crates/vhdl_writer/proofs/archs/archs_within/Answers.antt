use Rattle.std.proofs.Common.{◌-◌, nat_lt, List, length, map, min, refl, sym, ap, ◌∙◌, arith}
use Rattle.tydi_base.specs.Lengths.{most_bytes}
use Rattle.til_resolve.specs.PlainProject.{plain_streamlet}
use Rattle.til_resolve.specs.SoundProject.{instances_inside}
use Rattle.til_resolve.specs.declared.project.Instance.{Instance}
use Rattle.vhdl_text.specs.VerilogText.{text_in}
use Rattle.vhdl_text.specs.declared.arch.Arch.{Arch}
use Rattle.vhdl_writer.specs.Least.{least_of_instances}
use Rattle.vhdl_writer.proofs.ArchLemmas.{made-next, made-then}
use Rattle.vhdl_writer.proofs.LeastLemmas.{least-in-text}
use Rattle.vhdl_writer.proofs.LengthLemmas.{count-over, made-more, made-pushed, next-over, none-over}
use Rattle.vhdl_writer.proofs.archs.archs_within.Goals as goal

pub returns-then-length-limit : goal.returns-then-length-limit
returns-then-length-limit c = none-over c.args.language c.args.limit c.directives_length-length.result _ c.directives_length-length.ensures c.if-length-limit.true

pub returns-then-is_over : goal.returns-then-is_over
returns-then-is_over c =
    next-over c.args.language c.args.limit _ _ _ _ c.streamlets.length _ (least_of_instances c.args.components.now (instances_inside (plain_streamlet c.index-streamlets-number.result).body))
    (made-next c.args.language c.args.limit _ (map plain_streamlet c.args.streamlets.now) c.args.components.now c.args.impls.now c.args.streamlets.now c.streamlets.number c.index-streamlets-number.result _ _
    c.streamlets-test.true c.index-streamlets-number.is c.streamlets.invariant)
    c.requires refl
    (least-in-text c.args.language (map plain_streamlet c.args.streamlets.now) c.args.components.now c.args.impls.now c.streamlets.number (plain_streamlet c.index-streamlets-number.result))
    (ap (λ (instances : List Instance). nat_lt (c.args.limit - c.streamlets.length) (least_of_instances c.args.components.now instances)) (sym c.instances_of.ensures) ∙ sym c.is_over.ensures ∙ c.if-is_over.true)

pub returns-then-length-limit-2 : goal.returns-then-length-limit-2
returns-then-length-limit-2 c =
    count-over c.args.language c.args.limit _ _ _ _ c.streamlets.length c.length_in.result _
    (made-next c.args.language c.args.limit _ (map plain_streamlet c.args.streamlets.now) c.args.components.now c.args.impls.now c.args.streamlets.now c.streamlets.number c.index-streamlets-number.result _ _
    c.streamlets-test.true c.index-streamlets-number.is c.streamlets.invariant)
    c.requires (c.length_in.ensures ∙ ap (λ (arch : Arch). min (length (text_in c.args.language arch)) most_bytes) c.in_ok-arch.ensures) c.saturating_add-length.ensures c.if-length-limit-2.true

pub streamlets-preserved : goal.streamlets-preserved
streamlets-preserved c =
    made-then c.args.language c.args.limit _ (map plain_streamlet c.args.streamlets.now) c.args.components.now c.args.impls.now c.args.streamlets.now c.streamlets.number _ _
    (made-pushed c.args.language c.args.limit _ c.streamlets.archs _ _ c.in_ok-arch.arch _ _ c.in_ok-push.ensures.ok c.in_ok-arch.ensures
    (made-more c.args.language c.args.limit _ _ _ _ c.streamlets.length c.length_in.result c.saturating_add-length.result
    (made-next c.args.language c.args.limit _ (map plain_streamlet c.args.streamlets.now) c.args.components.now c.args.impls.now c.args.streamlets.now c.streamlets.number c.index-streamlets-number.result _ _
    c.streamlets-test.true c.index-streamlets-number.is c.streamlets.invariant)
    (c.length_in.ensures ∙ ap (λ (arch : Arch). min (length (text_in c.args.language arch)) most_bytes) c.in_ok-arch.ensures) c.saturating_add-length.ensures
    (let within = c.if-length-limit-2.false in omega (arith, within))))
