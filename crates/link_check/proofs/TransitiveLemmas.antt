-- Compatible types, one after another.
use Rattle.std.proofs.Common.{◌≡◌, ◌∙◌, Bool, true, false, IsTrue, sym, ap, subst}
use Rattle.tydi_base.specs.Level.{LevelNumbers}
use Rattle.tydi_base.proofs.LevelOrder.{order_is_transitive}
use Rattle.logical_types.specs.Tree.{Ltype, null, bits, group, union, stream, Parts, no_parts, part, Settings}
use Rattle.type_split.specs.Nodes.{turned}
use Rattle.link_check.specs.CarryLaws.{CompatibleIsTransitive}
use Rattle.link_check.specs.Compatible.{Agree, AreCompatible, Compatible, are_in_order}

in-order : (reversed : Bool) (low level high : LevelNumbers) → IsTrue (are_in_order reversed low level) → IsTrue (are_in_order reversed level high) → IsTrue (are_in_order reversed low high)
in-order false low level high one two = order_is_transitive low level high one two
in-order true low level high one two = order_is_transitive high level low two one

agree-on : (reversed : Bool) (source between sink : Settings) → Agree reversed source between → Agree reversed between sink → Agree reversed source sink
agree-on reversed source between sink one two = record {
  throughput = one.throughput ∙ two.throughput;
  dims = one.dims ∙ two.dims;
  sync = one.sync ∙ two.sync;
  level = in-order reversed source.level between.level sink.level one.level two.level;
  reverse = one.reverse ∙ two.reverse;
  keep = one.keep ∙ two.keep;
}

turned-same : (reversed : Bool) {one other : Bool} → one ≡ other → turned reversed other ≡ turned reversed one
turned-same reversed e = ap (turned reversed) (sym e)

mutual
  transitive : (reversed : Bool) (source between sink : Ltype) → Compatible reversed source between → Compatible reversed between sink → Compatible reversed source sink
  transitive reversed null null sink one two = two
  transitive reversed (bits width) (bits middle) sink one two = subst (λ n. Compatible reversed (bits n) sink) (sym one) two
  transitive reversed (group parts) (group middle) (group others) one two = all-transitive reversed parts middle others one two
  transitive reversed (union parts) (union middle) (union others) one two = all-transitive reversed parts middle others one two
  transitive reversed (stream element user settings) (stream middle middle_user middle_settings) (stream other other_user others) one two =
      let way = turned reversed settings.reverse in
      let way_is : turned reversed middle_settings.reverse ≡ way = turned-same reversed one.0.reverse in (
        agree-on way settings middle_settings others one.0 (subst (λ r. Agree r middle_settings others) way_is two.0),
        one.1 ∙ two.1,
        transitive way element middle other one.2 (subst (λ r. Compatible r middle other) way_is two.2),
      )
  transitive reversed null (bits middle) sink one two = absurd one
  transitive reversed null (group middle) sink one two = absurd one
  transitive reversed null (union middle) sink one two = absurd one
  transitive reversed null (stream middle middle_user middle_settings) sink one two = absurd one
  transitive reversed (bits width) null sink one two = absurd one
  transitive reversed (bits width) (group middle) sink one two = absurd one
  transitive reversed (bits width) (union middle) sink one two = absurd one
  transitive reversed (bits width) (stream middle middle_user middle_settings) sink one two = absurd one
  transitive reversed (group parts) null sink one two = absurd one
  transitive reversed (group parts) (bits middle) sink one two = absurd one
  transitive reversed (group parts) (union middle) sink one two = absurd one
  transitive reversed (group parts) (stream middle middle_user middle_settings) sink one two = absurd one
  transitive reversed (union parts) null sink one two = absurd one
  transitive reversed (union parts) (bits middle) sink one two = absurd one
  transitive reversed (union parts) (group middle) sink one two = absurd one
  transitive reversed (union parts) (stream middle middle_user middle_settings) sink one two = absurd one
  transitive reversed (stream element user settings) null sink one two = absurd one
  transitive reversed (stream element user settings) (bits middle) sink one two = absurd one
  transitive reversed (stream element user settings) (group middle) sink one two = absurd one
  transitive reversed (stream element user settings) (union middle) sink one two = absurd one
  transitive reversed (group parts) (group middle) null one two = absurd two
  transitive reversed (group parts) (group middle) (bits other) one two = absurd two
  transitive reversed (group parts) (group middle) (union others) one two = absurd two
  transitive reversed (group parts) (group middle) (stream other other_user others) one two = absurd two
  transitive reversed (union parts) (union middle) null one two = absurd two
  transitive reversed (union parts) (union middle) (bits other) one two = absurd two
  transitive reversed (union parts) (union middle) (group others) one two = absurd two
  transitive reversed (union parts) (union middle) (stream other other_user others) one two = absurd two
  transitive reversed (stream element user settings) (stream middle middle_user middle_settings) null one two = absurd two
  transitive reversed (stream element user settings) (stream middle middle_user middle_settings) (bits other) one two = absurd two
  transitive reversed (stream element user settings) (stream middle middle_user middle_settings) (group others) one two = absurd two
  transitive reversed (stream element user settings) (stream middle middle_user middle_settings) (union others) one two = absurd two

  all-transitive : (reversed : Bool) (parts middle others : Parts) → AreCompatible reversed parts middle → AreCompatible reversed middle others → AreCompatible reversed parts others
  all-transitive reversed no_parts no_parts others one two = two
  all-transitive reversed no_parts (part name ltype more) others one two = absurd one
  all-transitive reversed (part name ltype more) no_parts others one two = absurd one
  all-transitive reversed (part name ltype more) (part middle_name middle rest) no_parts one two = absurd two
  all-transitive reversed (part name ltype more) (part middle_name middle rest) (part other_name other others) one two =
      (one.0 ∙ two.0, transitive reversed ltype middle other one.1 two.1, all-transitive reversed more rest others one.2 two.2)

pub compatible_is_transitive : CompatibleIsTransitive
compatible_is_transitive = transitive
