use Rattle.std.proofs.Common.{◌≡◌, List, Err, map, subst, sym}
use Rattle.til_resolve.specs.NumberedTypes.{AreNumbered}
use Rattle.til_resolve.specs.PlainProject.{plain_streamlet}
use Rattle.til_resolve.specs.declared.project.Streamlet.{Streamlet}
use Rattle.link_check.specs.Checked.{AreNets, fault_of_bodies, linked}
use Rattle.link_check.specs.Linking.{IsTold}
use Rattle.link_check.specs.Order.{bodies_in_text}
use Rattle.link_check.specs.declared.fault.LinkFault.TheVariants as faults
use Rattle.link_check.proofs.CheckedLemmas.{checked-err, large-linked, small-linked}
use Rattle.link_check.proofs.checking.check.Goals as goal

pub nets_in_order-requires : goal.nets_in_order-requires
nets_in_order-requires c = subst (λ (streamlets : List Streamlet). ∥ AreNumbered streamlets ∥₁) (sym c.as_slice-streamlets.ensures) c.args.project.now.numbered

pub returns-in_err-impls : goal.returns-in_err-impls
returns-in_err-impls c = checked-err (map plain_streamlet c.args.project.now.streamlets) c.from_residual.result c.in_err-impls.field-0.0 c.from_residual.ensures.1
    (subst (λ (streamlets : List Streamlet). IsTold (fault_of_bodies (map plain_streamlet streamlets) (bodies_in_text (map plain_streamlet streamlets))) c.in_err-impls.field-0.0) c.as_slice-streamlets.ensures c.in_err-impls.ensures)

pub returns-then-branch : goal.returns-then-branch
returns-then-branch c real = subst (λ (streamlets : List Streamlet). linked (map plain_streamlet streamlets) ≡ Err faults.DesignTooLarge) c.as_slice-streamlets.ensures
    (large-linked (map plain_streamlet c.as_slice-streamlets.result.now) c.in_ok-is_too_large.field-0 c.in_ok-impls.ensures.0 c.in_ok-is_too_large.ensures c.if-branch.true)

pub returns : goal.returns
returns c = subst (λ (streamlets : List Streamlet). AreNets (map plain_streamlet streamlets) (record { impls = c.in_ok-impls.impls })) c.as_slice-streamlets.ensures
    (small-linked (map plain_streamlet c.as_slice-streamlets.result.now) c.in_ok-is_too_large.field-0 c.in_ok-impls.impls c.in_ok-impls.ensures.0 c.in_ok-impls.ensures.1 c.in_ok-is_too_large.ensures c.if-branch.false)
