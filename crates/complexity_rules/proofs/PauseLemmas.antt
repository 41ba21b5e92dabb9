-- The rules on pauses as tests of the kind of the last item.
use Rattle.std.proofs.Common.{◌≡◌, ◌↔◌, IsTrue, Bool, true, false, not, nat_le, List, Option, refl, arith}
use Rattle.std.proofs.lemmas.Bool.{le-leb, leb-true}
use Rattle.std.proofs.lemmas.Bool.Decides.{nat_tests}
use Rattle.tydi_base.specs.Level.{LevelNumbers, number_of}
use Rattle.tydi_base.proofs.PlainWords.{and_parts, both}
use Rattle.physical_stream.specs.Params.{Parameters}
use Rattle.physical_stream.specs.Rules.{Binds, binds_up_to}
use Rattle.physical_stream.specs.declared.rule.Rule.{Rule}
use Rattle.physical_stream.specs.declared.rule.Rule.TheVariants.{InnerPause, OuterPause}
use Rattle.complexity_rules.specs.Lowest.{is_broken}
use Rattle.physical_stream.specs.Shape.{tail_of}
use Rattle.physical_stream.specs.Breaks.{BreaksInnerPause, BreaksOuterPause}
use Rattle.physical_stream.specs.declared.item.Item.{Item}
use Rattle.physical_stream.specs.declared.item.Tail.{Tail}
use Rattle.complexity_rules.specs.Pauses.{PausesAsTested, is_inside_packet, is_inside_sequence}

pub inner_pause_test : (p : Parameters) (done : List Item) (tail : Option Tail) → tail ≡ tail_of done → IsTrue (is_inside_sequence p.dims tail) ↔ BreaksInnerPause p done
inner_pause_test p done tail e = grind (arith, nat_tests)

pub outer_pause_test : (p : Parameters) (done : List Item) (tail : Option Tail) → tail ≡ tail_of done → IsTrue (is_inside_packet p.dims tail) ↔ BreaksOuterPause p done
outer_pause_test p done tail e = grind (arith, nat_tests)

-- ---- both rules at once

not_true : (a : Bool) → not a ≡ true → a ≡ false
not_true true e = absurd cc
not_true false e = refl

-- a rule that is not broken, as a test and as a statement
module _ (level : LevelNumbers) (rule : Rule) (forbidden : Bool) (Forbidden : Type 0) (tells : IsTrue forbidden ↔ Forbidden) where
  kept-to : is_broken level rule forbidden ≡ false → Binds rule level → Forbidden → ⊥
  kept-to clear binds there = let all = both (nat_le (number_of level) (binds_up_to rule)) forbidden (le-leb (number_of level) (binds_up_to rule) binds) (tells.1 there) in cc

  kept-from : (Binds rule level → Forbidden → ⊥) → is_broken level rule forbidden ≡ false
  kept-from never = by_test (is_broken level rule forbidden) refl
    where
      by_test : (broken : Bool) → is_broken level rule forbidden ≡ broken → broken ≡ false
      by_test false is = refl
      by_test true is =
          let parts = and_parts (nat_le (number_of level) (binds_up_to rule)) forbidden is in
          absurd (never (leb-true (number_of level) (binds_up_to rule) parts.0) (tells.0 parts.1))

pub pauses_tested : PausesAsTested
pauses_tested p done =
    let inside = is_inside_sequence p.dims (tail_of done) in
    let outside = is_inside_packet p.dims (tail_of done) in
    let inner = inner_pause_test p done (tail_of done) refl in
    let outer = outer_pause_test p done (tail_of done) refl in (
      λ e.
          let parts = and_parts (not (is_broken p.level InnerPause inside)) (not (is_broken p.level OuterPause outside)) e in
          record {
            inner = kept-to p.level InnerPause inside (BreaksInnerPause p done) inner (not_true (is_broken p.level InnerPause inside) parts.0);
            outer = kept-to p.level OuterPause outside (BreaksOuterPause p done) outer (not_true (is_broken p.level OuterPause outside) parts.1);
          },
      λ may.
          let first = kept-from p.level InnerPause inside (BreaksInnerPause p done) inner may.inner in
          let second = kept-from p.level OuterPause outside (BreaksOuterPause p done) outer may.outer in
          rw (first, second) refl,
    )
