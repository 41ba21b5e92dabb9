use Rattle.std.proofs.Common.{true, false, sym, ◌∙◌}
use Rattle.logical_types.specs.declared.fault.TypeFault.TheVariants as faults
use Rattle.logical_types.proofs.FaultLemmas.{told, passed, first-of, narrow, names_twice, is_empty_union-some}
use Rattle.logical_types.proofs.checking.check_variants.Goals as goal

pub returns-then-has_name_twice : goal.returns-then-has_name_twice
returns-then-has_name_twice c = first-of _ _ faults.NameTwice (passed _ _ _ (narrow _ c.union_width.result c.union_width.ensures c.if-union_width-gt-MOST_BITS.false))
    (told _ _ _ _ (names_twice c.args.parts.now true (sym c.if-has_name_twice.ensures)))

pub returns : goal.returns
returns c = passed _ _ _ (narrow _ c.union_width.result c.union_width.ensures c.if-union_width-gt-MOST_BITS.false)
    ∙ passed _ _ _ (names_twice c.args.parts.now false (sym c.if-has_name_twice.ensures))
    ∙ passed _ _ _ (is_empty_union-some c.args.parts.now c.if-is_empty.ensures)
