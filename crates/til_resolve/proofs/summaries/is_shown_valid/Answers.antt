use Rattle.std.proofs.Common.{◌≡◌, false, sym, ap, ◌∙◌}
use Rattle.std.specs.List.{slice_get}
use Rattle.logical_types.specs.Summary.{is_shown_valid, shows}
use Rattle.til_resolve.specs.Scope.{declarations_of}
use Rattle.til_resolve.specs.Written.{ltype_of}
use Rattle.til_resolve.proofs.summaries.is_shown_valid.Goals as goal

pub returns-in-Some : goal.returns-in-Some
returns-in-Some c =
    let ltype = ltype_of (declarations_of c.args.scope.now.declared) c.args.one.now in
    let law = c.valid_types_are_shown.ensures ltype in
    let same : is_shown_valid ltype ≡ c.shows_valid.result = ap shows (sym c.value_of.ensures ∙ c.in-Some.is) ∙ sym c.shows_valid.ensures in
    record {
      shown = (λ shown. law.0 (same ∙ shown), λ is. sym same ∙ law.1 is);
      valid = λ shown. ap (λ l. slice_get l 0) (law.0 (same ∙ shown)).0;
    }

pub returns-in-None-clause-shown : goal.returns-in-None-clause-shown
returns-in-None-clause-shown c =
    let ltype = ltype_of (declarations_of c.args.scope.now.declared) c.args.one.now in
    let law = c.valid_types_are_shown.ensures ltype in
    let same : is_shown_valid ltype ≡ false = ap shows (sym c.value_of.ensures ∙ c.in-None.is) in
    (λ shown. law.0 (same ∙ shown), λ is. sym same ∙ law.1 is)
