-- A text is one value at most, and none that is one is refused.
use Rattle.std.proofs.Common.{◌≡◌, ◌∙◌, ℕ, List, Option, Some, None, Result, Ok, Err, refl, sym, ap}
use Rattle.logical_value.specs.declared.value.PortValue.{PortValue}
use Rattle.logical_value.specs.declared.value.Value.{Value}
use Rattle.type_split.specs.Streams.{PlainSplit}
use Rattle.tydi_base.specs.declared.place.Place.{Place}
use Rattle.value_text.specs.Laws.{ValuesAreReadOnce}
use Rattle.value_text.specs.Reading.{HasTooMany, IsFaulty, IsUnfit, IsValue}
use Rattle.value_text.specs.declared.fault.ValueFault.{ValueFault}
use Rattle.value_text.specs.declared.fault.ValueFault.TheVariants as faults
use Rattle.value_text.specs.declared.fault.Why.{Why}
use Rattle.value_text.specs.declared.fault.Why.TheVariants as whys

same-roots : (one other : List (List Value)) → ◌≡◌ {A = Result (List (List Value)) (Why × ℕ)} (Ok one) (Ok other) → one ≡ other
same-roots one other is = cc

module _ (split : PlainSplit) (text : List ℕ) (value : PortValue) (is : IsValue split text value) where
  fits-always : (why : Why) (place : Place) → IsUnfit split text why place → ⊥
  fits-always why place unfit = let no : ◌≡◌ {A = Result (List (List Value)) (Why × ℕ)} (Ok value.roots) (Err (why, unfit.left)) = sym is.is ∙ unfit.first in cc

  few-always : (place : Place) → HasTooMany text place → ⊥
  few-always place many = let no : ◌≡◌ {A = Option ℕ} None (Some many.left) = sym is.well_formed.few ∙ many.one in cc

  no-fault : (fault : ValueFault) → IsFaulty split text fault → fault ≡ faults.Memory
  no-fault (faults.Syntax place) faulty = absurd (faulty.none is.well_formed.form)
  no-fault (faults.WrongShape place) faulty = absurd (fits-always whys.WrongShape place faulty)
  no-fault (faults.UnknownField place) faulty = absurd (fits-always whys.UnknownField place faulty)
  no-fault (faults.OutOfRange place) faulty = absurd (fits-always whys.OutOfRange place faulty)
  no-fault (faults.TooManyLeaves place) faulty = absurd (few-always place faulty)
  no-fault faults.Memory faulty = refl

pub values_once : ValuesAreReadOnce
values_once split text value is =
    (λ other also. ap (λ (roots : List (List Value)). record { roots = roots }) (same-roots other.roots value.roots (sym also.is ∙ is.is)), no-fault split text value is)
