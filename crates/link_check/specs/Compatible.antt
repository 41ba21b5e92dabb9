-- When two components understand each other: the types of a source and of a sink that are linked are one, but that the levels of
-- complexity may differ. A source of a lower level may drive a sink of a higher one (Tydi specification, complexity). At a node that is
-- reversed the data flows the other way, so there the sink's level is the lower one. This project's own.
use Rattle.std.specs.Prelude.{◌≡◌, Bool, true, false, IsTrue, ⊤}
use Rattle.tydi_base.specs.Level.{LevelNumbers, at_most}
use Rattle.logical_types.specs.Tree.{Ltype, null, bits, group, union, stream, Parts, no_parts, part, Settings}
use Rattle.type_split.specs.Nodes.{turned}

-- the data goes from a lower or equal level to a higher one: from the source to the sink, or back where the node is reversed
abbrev pub are_in_order : (reversed : Bool) (source sink : LevelNumbers) → Bool
are_in_order false source sink = at_most source sink
are_in_order true source sink = at_most sink source

-- the arguments of two Streams are one, but for their levels, which are in order
pub record Agree (reversed : Bool) (source sink : Settings) : Type 0 where
  pub throughput : source.throughput ≡ sink.throughput
  pub dims : source.dims ≡ sink.dims
  pub sync : source.sync ≡ sink.sync
  pub level : IsTrue (are_in_order reversed source.level sink.level)
  pub reverse : source.reverse ≡ sink.reverse
  pub keep : source.keep ≡ sink.keep

-- the types of a source and of a sink are compatible. `reversed` says that an odd number of reversed Streams stands around them.
abbrev mutual
  pub Compatible : (reversed : Bool) (source sink : Ltype) → Type 0
  Compatible reversed null null = ⊤
  Compatible reversed (bits width) (bits other) = width ≡ other
  Compatible reversed (group parts) (group others) = AreCompatible reversed parts others
  Compatible reversed (union parts) (union others) = AreCompatible reversed parts others
  Compatible reversed (stream element user settings) (stream other_element other_user others) =
      Agree (turned reversed settings.reverse) settings others × (user ≡ other_user) × Compatible (turned reversed settings.reverse) element other_element
  Compatible reversed source sink = ⊥

  -- parts of the same names, each compatible with the other
  pub AreCompatible : (reversed : Bool) (parts others : Parts) → Type 0
  AreCompatible reversed no_parts no_parts = ⊤
  AreCompatible reversed (part name ltype more) (part other_name other others) = (name ≡ other_name) × Compatible reversed ltype other × AreCompatible reversed more others
  AreCompatible reversed parts others = ⊥
