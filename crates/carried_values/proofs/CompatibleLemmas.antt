-- Compatible types are one type, levels aside.
use Rattle.std.proofs.Common.{◌≡◌, ◌∙◌, Bool, refl, ap}
use Rattle.logical_types.specs.Tree.{Ltype, null, bits, group, union, stream, Parts, no_parts, part, Settings}
use Rattle.type_split.specs.Nodes.{turned}
use Rattle.link_check.specs.Compatible.{Agree, AreCompatible, Compatible}
use Rattle.carried_values.specs.Laws.{CompatibleTypesAreOne}
use Rattle.carried_values.specs.WithoutLevels.{parts_without_levels, without_level, without_levels}

one-setting : (reversed : Bool) (source sink : Settings) → Agree reversed source sink → without_level source ≡ without_level sink
one-setting reversed source sink agree =
    let t = agree.throughput in let d = agree.dims in let s = agree.sync in let r = agree.reverse in let k = agree.keep in cc

mutual
  one-type : (reversed : Bool) (source sink : Ltype) → Compatible reversed source sink → without_levels source ≡ without_levels sink
  one-type reversed null null compatible = refl
  one-type reversed (bits width) (bits other) compatible = ap bits compatible
  one-type reversed (group parts) (group others) compatible = ap group (all-one reversed parts others compatible)
  one-type reversed (union parts) (union others) compatible = ap union (all-one reversed parts others compatible)
  one-type reversed (stream element user settings) (stream other_element other_user others) compatible =
      ap (λ (e : Ltype). stream e user (without_level settings)) (one-type (turned reversed settings.reverse) element other_element compatible.2)
      ∙ ap (λ (u : Ltype). stream (without_levels other_element) u (without_level settings)) compatible.1
      ∙ ap (stream (without_levels other_element) other_user) (one-setting (turned reversed settings.reverse) settings others compatible.0)
  one-type reversed null (bits other) compatible = absurd compatible
  one-type reversed null (group others) compatible = absurd compatible
  one-type reversed null (union others) compatible = absurd compatible
  one-type reversed null (stream other_element other_user others) compatible = absurd compatible
  one-type reversed (bits width) null compatible = absurd compatible
  one-type reversed (bits width) (group others) compatible = absurd compatible
  one-type reversed (bits width) (union others) compatible = absurd compatible
  one-type reversed (bits width) (stream other_element other_user others) compatible = absurd compatible
  one-type reversed (group parts) null compatible = absurd compatible
  one-type reversed (group parts) (bits other) compatible = absurd compatible
  one-type reversed (group parts) (union others) compatible = absurd compatible
  one-type reversed (group parts) (stream other_element other_user others) compatible = absurd compatible
  one-type reversed (union parts) null compatible = absurd compatible
  one-type reversed (union parts) (bits other) compatible = absurd compatible
  one-type reversed (union parts) (group others) compatible = absurd compatible
  one-type reversed (union parts) (stream other_element other_user others) compatible = absurd compatible
  one-type reversed (stream element user settings) null compatible = absurd compatible
  one-type reversed (stream element user settings) (bits other) compatible = absurd compatible
  one-type reversed (stream element user settings) (group others) compatible = absurd compatible
  one-type reversed (stream element user settings) (union others) compatible = absurd compatible

  all-one : (reversed : Bool) (parts others : Parts) → AreCompatible reversed parts others → parts_without_levels parts ≡ parts_without_levels others
  all-one reversed no_parts no_parts compatible = refl
  all-one reversed no_parts (part other_name other others) compatible = absurd compatible
  all-one reversed (part name ltype more) no_parts compatible = absurd compatible
  all-one reversed (part name ltype more) (part other_name other others) compatible =
      ap (λ n. part n (without_levels ltype) (parts_without_levels more)) compatible.0
      ∙ ap (λ (l : Ltype). part other_name l (parts_without_levels more)) (one-type reversed ltype other compatible.1)
      ∙ ap (part other_name (without_levels other)) (all-one reversed more others compatible.2)

pub types_are_one : CompatibleTypesAreOne
types_are_one = one-type
