use Rattle.std.proofs.Common.{◌≡◌, ◌+◌, ◌-◌, ◌∙◌, ℕ, List, take, drop, ap, sym, subst, arith}
use Rattle.tydi_base.specs.Bits.{number_of_bits}
use Rattle.logical_types.specs.declared.ltype.Part.{Part}
use Rattle.logical_types.specs.Tree.{Ltype, group, union, plain, plain_parts}
use Rattle.logical_types.proofs.PlainLemmas.{plain-Group, plain-Union}
use Rattle.logical_value.specs.Naming.{PassesType}
use Rattle.logical_value.proofs.NamingLemmas.{group-passed, union-bad, union-no_tag, union-passed}
use Rattle.logical_value.proofs.naming.+naming.Goals as goal

tag-width : (offset width begin : ℕ) → begin ≡ offset + width → begin - offset ≡ width
tag-width offset width begin is = omega (arith, is)

pub past_type-returns-in-Group : goal.past_type-returns-in-Group
past_type-returns-in-Group t c =
    let is : plain c.args.ltype.now ≡ group (plain_parts c.as_slice.result.now) =
    ap plain c.in-Group.is ∙ plain-Group c.in-Group.parts ∙ ap (λ (l : List Part). group (plain_parts l)) (sym c.as_slice.ensures) in
    group-passed c.args.word.now c.args.offset (plain c.args.ltype.now) (plain_parts c.as_slice.result.now) c.past_fields.result is c.past_fields.ensures

pub past_type-returns-in-Union : goal.past_type-returns-in-Union
past_type-returns-in-Union t c =
    let is : plain c.args.ltype.now ≡ union (plain_parts c.as_slice-in-Union.result.now) =
    ap plain c.in-Union.is ∙ plain-Union c.in-Union.parts ∙ ap (λ (l : List Part). union (plain_parts l)) (sym c.as_slice-in-Union.ensures) in
    subst (λ (t : Ltype). PassesType c.args.word.now c.args.offset t c.past_union.result) (sym is) c.past_union.ensures

pub past_union-returns-in_err-begin : goal.past_union-returns-in_err-begin
past_union-returns-in_err-begin t c =
    subst (PassesType c.args.word.now c.args.offset (union (plain_parts c.args.parts.now))) (sym c.from_residual.ensures)
    (union-no_tag c.args.word.now c.args.offset c.args.parts.now c.index_width-width.result c.end_of.result c.index_width-width.ensures.value c.in_err-begin.was
    (λ there. c.end_of.ensures.some (omega (arith, there, c.len.ensures))))

pub past_union-returns-then-not-names_variant : goal.past_union-returns-then-not-names_variant
past_union-returns-then-not-names_variant t c =
    union-bad c.args.word.now c.args.offset c.in_ok-begin.begin c.args.parts.now c.index_width-width.result c.number_between-tag.result c.names_variant.result c.index_width-width.ensures.value
    c.in_ok-begin.ensures.end
    (c.number_between-tag.ensures ∙ ap (λ (n : ℕ). number_of_bits (take n (drop c.args.offset c.args.word.now))) (tag-width c.args.offset c.index_width-width.result c.in_ok-begin.begin c.in_ok-begin.ensures.end))
    c.names_variant.ensures c.if-not-names_variant.true

pub past_union-returns : goal.past_union-returns
past_union-returns t c =
    union-passed c.args.word.now c.args.offset c.in_ok-begin.begin c.args.parts.now c.index_width-width.result c.number_between-tag.result c.union_width.result c.names_variant.result
    c.end_of-2.result c.index_width-width.ensures.value c.in_ok-begin.ensures.end
    (c.number_between-tag.ensures ∙ ap (λ (n : ℕ). number_of_bits (take n (drop c.args.offset c.args.word.now))) (tag-width c.args.offset c.index_width-width.result c.in_ok-begin.begin c.in_ok-begin.ensures.end))
    c.names_variant.ensures c.if-not-names_variant.false c.union_width.ensures c.end_of-2.ensures.end (λ there. c.end_of-2.ensures.some (omega (arith, there, c.len-2.ensures)))
