use Rattle.std.proofs.Common.{Option, Some, Bor, sym, subst}
use Rattle.std.specs.Option.{option_copied}
use Rattle.til_resolve.specs.PlainProject.{plain_project}
use Rattle.link_check.specs.declared.leaf.LeafPort.{LeafPort}
use Rattle.tydi_tool.specs.Designs.{AreJoined, HasNoClash, design_words}
use Rattle.tydi_tool.proofs.DesignSteps.{not-joined, not-led, not-true}
use Rattle.tydi_tool.proofs.designs.heads_along.Goals as goal

pub heads_of-requires-clause-apart : goal.heads_of-requires-clause-apart
heads_of-requires-clause-apart c =
    subst (λ (l : Option (Bor LeafPort)). HasNoClash (plain_project c.args.project.now).streamlets (option_copied l)) c.in-Some-Some.is-0 c.requires.apart

pub returns-in-Ok-false : goal.returns-in-Ok-false
returns-in-Ok-false c = λ top from to.
    let streamlets = (plain_project c.args.project.now).streamlets in
    let apart = not-led streamlets c.args.nets.now c.in-Some-Some.source.now c.in-Some-Some.sink.now
    (λ leads. not-true c.in-Ok-false.field-0 c.in-Ok-false.field-0-test (c.in-Ok-false.ensures.1 leads)) in
    not-joined (design_words c.args.words.now) streamlets top c.args.nets.now (option_copied c.args.from) (option_copied c.args.to) from to c.no_path-in-Ok-false.result
    (subst (λ (l : Option (Bor LeafPort)). AreJoined streamlets c.args.nets.now (option_copied l) (option_copied c.args.to) → ⊥) (sym c.in-Some-Some.is-0)
    (subst (λ (l : Option (Bor LeafPort)). AreJoined streamlets c.args.nets.now (option_copied (Some c.in-Some-Some.source)) (option_copied l) → ⊥) (sym c.in-Some-Some.is-1) apart))
    c.no_path-in-Ok-false.ensures
