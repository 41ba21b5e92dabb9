-- Two types are compatible exactly where they have no first difference.
use Rattle.std.proofs.Common.{◌≡◌, Bool, true, false, not, cond, eqb, ◌∷◌, Option, Some, None, option_map, refl, ap, subst}
use Rattle.std.specs.Bool.{beq}
use Rattle.std.specs.Cmp.{unsigned_Decides, booleans_Decides}
use Rattle.logical_types.specs.Tree.{Ltype, null, bits, group, union, stream, Parts, no_parts, part, PlainStream, names_of}
use Rattle.type_split.specs.Nodes.{turned}
use Rattle.std.specs.Option.{option_or}
use Rattle.link_check.specs.Compatible.{are_in_order, Agree, Compatible, AreCompatible}
use Rattle.link_check.specs.Kinds.{is_same_kind, has_same_shape, stream_in}
use Rattle.link_check.specs.SameTypes.{is_same_fraction, is_same_sync, is_same_type}
use Rattle.link_check.specs.Differences.{why_of_streams, why_of_both, why_at, here, inside_part, difference_inside, difference_in_parts}
use Rattle.link_check.specs.Laws.{NoDifferenceIsCompatible}
use Rattle.link_check.specs.declared.difference.Why.{Why}
use Rattle.link_check.specs.declared.difference.Why.TheVariants as whys
use Rattle.link_check.specs.declared.difference.Difference.{Difference}
use Rattle.link_check.proofs.TestLemmas.{clash, held, searched, neither, none-both, none-mapped, none-map}
use Rattle.link_check.proofs.ShapeLemmas.{shape-parts, shape-whole}
use Rattle.link_check.proofs.SameTypeLemmas.{fractions-are, fraction-itself, syncs-are, sync-itself, same_types-are, same_type-itself, first-name}

-- ---- the arguments of Streams

abbrev AgreeWhole : Bool → PlainStream → PlainStream → Type 0
AgreeWhole reversed source sink = Agree reversed source.settings sink.settings × (source.user ≡ sink.user)

streams-agree : (reversed : Bool) (source sink : PlainStream) → why_of_streams reversed source sink ≡ None → AgreeWhole (turned reversed source.settings.reverse) source sink
unfolding why_of_streams
streams-agree reversed source sink none =
    let way = turned reversed source.settings.reverse in
    let throughput = searched _ whys.Throughput _ none in
    let dims = searched _ whys.Dims _ throughput.1 in
    let sync = searched _ whys.Sync _ dims.1 in
    let level = searched _ whys.Level _ sync.1 in
    let direction = searched _ whys.Direction _ level.1 in
    let user = searched _ whys.User _ direction.1 in
    let keep = searched _ whys.Keep _ user.1 in (
      record {
        throughput = fractions-are _ _ (held _ throughput.0);
        dims = (unsigned_Decides source.settings.dims sink.settings.dims).0 (held _ dims.0);
        sync = syncs-are _ _ (held _ sync.0);
        level = held (are_in_order way source.settings.level sink.settings.level) level.0;
        reverse = (booleans_Decides source.settings.reverse sink.settings.reverse).0 (held _ direction.0);
        keep = (booleans_Decides source.settings.keep sink.settings.keep).0 (held _ keep.0);
      },
      same_types-are _ _ (held _ user.0),
    )

tested : (one other : Bool) → one ≡ other → not one ≡ not other
tested one other e = ap not e

streams-differ_not : (reversed : Bool) (source sink : PlainStream) → AgreeWhole (turned reversed source.settings.reverse) source sink → why_of_streams reversed source sink ≡ None
unfolding why_of_streams
streams-differ_not reversed source sink agree =
    let way = turned reversed source.settings.reverse in
    let throughput : is_same_fraction source.settings.throughput sink.settings.throughput ≡ true =
    subst (λ f. is_same_fraction source.settings.throughput f ≡ true) agree.0.throughput (fraction-itself source.settings.throughput) in
    let dims : eqb source.settings.dims sink.settings.dims ≡ true = (unsigned_Decides source.settings.dims sink.settings.dims).1 agree.0.dims in
    let sync : is_same_sync source.settings.sync sink.settings.sync ≡ true =
    subst (λ s. is_same_sync source.settings.sync s ≡ true) agree.0.sync (sync-itself source.settings.sync) in
    let level : are_in_order way source.settings.level sink.settings.level ≡ true = agree.0.level in
    let direction : beq source.settings.reverse sink.settings.reverse ≡ true = (booleans_Decides source.settings.reverse sink.settings.reverse).1 agree.0.reverse in
    let user : is_same_type source.user sink.user ≡ true = subst (λ t. is_same_type source.user t ≡ true) agree.1 (same_type-itself source.user) in
    let keep : beq source.settings.keep sink.settings.keep ≡ true = (booleans_Decides source.settings.keep sink.settings.keep).1 agree.0.keep in
    go _ _ _ _ _ _ _ throughput dims sync level direction user keep
  where
    go : (a b c d e f g : Bool) → a ≡ true → b ≡ true → c ≡ true → d ≡ true → e ≡ true → f ≡ true → g ≡ true
        → cond (not a) (Some whys.Throughput) (cond (not b) (Some whys.Dims) (cond (not c) (Some whys.Sync) (cond (not d) (Some whys.Level)
        (cond (not e) (Some whys.Direction) (cond (not f) (Some whys.User) (cond (not g) (Some whys.Keep) None)))))) ≡ None
    go a b c d e f g ha hb hc hd he hf hg = rw (ha, hb, hc, hd, he, hf, hg) refl

-- ---- at one node

shape-of : (reversed : Bool) (source sink : Ltype) → why_at reversed source sink ≡ None
    → (has_same_shape source sink ≡ true) × (why_of_both reversed (stream_in source) (stream_in sink) ≡ None)
shape-of reversed source sink none =
    let parts = neither (cond (has_same_shape source sink) None (Some whys.Shape)) _ none in
    (same (has_same_shape source sink) parts.0, parts.1)
  where
    same : (test : Bool) → ◌≡◌ {A = Option Why} (cond test None (Some whys.Shape)) None → test ≡ true
    same true e = refl
    same false e = absurd cc

why_at-none : (reversed : Bool) (source sink : Ltype) → has_same_shape source sink ≡ true → why_of_both reversed (stream_in source) (stream_in sink) ≡ None
    → why_at reversed source sink ≡ None
why_at-none reversed source sink shape none = rw (shape, none) refl

-- ---- types

abbrev whole : (reversed : Bool) (source sink : Ltype) → Option Difference
whole reversed source sink = option_or (option_map here (why_at reversed source sink)) (difference_inside reversed source sink)

split : (reversed : Bool) (source sink : Ltype) → whole reversed source sink ≡ None → (why_at reversed source sink ≡ None) × (difference_inside reversed source sink ≡ None)
split reversed source sink none =
    let parts = neither (option_map here (why_at reversed source sink)) (difference_inside reversed source sink) none in
    (none-mapped here (why_at reversed source sink) parts.0, parts.1)

joined : (reversed : Bool) (source sink : Ltype) → why_at reversed source sink ≡ None → difference_inside reversed source sink ≡ None → whole reversed source sink ≡ None
joined reversed source sink at inside =
    none-both (option_map here (why_at reversed source sink)) (difference_inside reversed source sink) (none-map here (why_at reversed source sink) at) inside

mutual
  unfolding is_same_kind

  compatible : (reversed : Bool) (source sink : Ltype) → why_at reversed source sink ≡ None → difference_inside reversed source sink ≡ None → Compatible reversed source sink
  compatible reversed null null at inside = tt
  compatible reversed (bits width) (bits other) at inside = (shape-parts (bits width) (bits other) (shape-of reversed (bits width) (bits other) at).0).width
  compatible reversed (group parts) (group others) at inside =
      are_compatible reversed parts others (shape-parts (group parts) (group others) (shape-of reversed (group parts) (group others) at).0).names inside
  compatible reversed (union parts) (union others) at inside =
      are_compatible reversed parts others (shape-parts (union parts) (union others) (shape-of reversed (union parts) (union others) at).0).names inside
  compatible reversed (stream element user settings) (stream other_element other_user others) at inside =
      let agree = streams-agree reversed (record { element = element; user = user; settings = settings }) (record { element = other_element; user = other_user; settings = others })
      (shape-of reversed (stream element user settings) (stream other_element other_user others) at).1 in
      let within = split (turned reversed settings.reverse) element other_element inside in
      (agree.0, agree.1, compatible (turned reversed settings.reverse) element other_element within.0 within.1)
  compatible reversed source sink at inside = clash (shape-parts source sink (shape-of reversed source sink at).0).kind

  are_compatible : (reversed : Bool) (parts others : Parts) → names_of parts ≡ names_of others → difference_in_parts reversed parts others ≡ None → AreCompatible reversed parts others
  are_compatible reversed no_parts no_parts names none = tt
  are_compatible reversed no_parts (part name ltype more) names none = absurd cc
  are_compatible reversed (part name ltype more) no_parts names none = absurd cc
  are_compatible reversed (part name ltype more) (part other_name other others) names none =
      let sides = neither (option_map (inside_part name) (whole reversed ltype other)) (difference_in_parts reversed more others) none in
      let within = split reversed ltype other (none-mapped (inside_part name) (whole reversed ltype other) sides.0) in
      let named = first-name name other_name (names_of more) (names_of others) names in
      (named.0, compatible reversed ltype other within.0 within.1, are_compatible reversed more others named.1 sides.1)

same_names : (reversed : Bool) (parts others : Parts) → AreCompatible reversed parts others → names_of parts ≡ names_of others
same_names reversed no_parts no_parts h = refl
same_names reversed no_parts (part name ltype more) h = absurd h
same_names reversed (part name ltype more) no_parts h = absurd h
same_names reversed (part name ltype more) (part other_name other others) h =
    let name_is = h.0 in
    let rest_is = same_names reversed more others h.2 in
    λ i. name_is i ∷ rest_is i

mutual
  unfolding is_same_kind

  none-at : (reversed : Bool) (source sink : Ltype) → Compatible reversed source sink → why_at reversed source sink ≡ None
  none-at reversed null null h = refl
  none-at reversed (bits width) (bits other) h =
      why_at-none reversed (bits width) (bits other) (shape-whole (bits width) (bits other) (record { kind = refl; width = h; names = refl })) refl
  none-at reversed (group parts) (group others) h =
      why_at-none reversed (group parts) (group others) (shape-whole (group parts) (group others) (record { kind = refl; width = refl; names = same_names reversed parts others h })) refl
  none-at reversed (union parts) (union others) h =
      why_at-none reversed (union parts) (union others) (shape-whole (union parts) (union others) (record { kind = refl; width = refl; names = same_names reversed parts others h })) refl
  none-at reversed (stream element user settings) (stream other_element other_user others) h =
      why_at-none reversed (stream element user settings) (stream other_element other_user others)
      (shape-whole (stream element user settings) (stream other_element other_user others) (record { kind = refl; width = refl; names = refl }))
      (streams-differ_not reversed (record { element = element; user = user; settings = settings }) (record { element = other_element; user = other_user; settings = others }) (h.0, h.1))
  none-at reversed source sink h = absurd h

  none-inside : (reversed : Bool) (source sink : Ltype) → Compatible reversed source sink → difference_inside reversed source sink ≡ None
  none-inside reversed null null h = refl
  none-inside reversed (bits width) (bits other) h = refl
  none-inside reversed (group parts) (group others) h = none-in_parts reversed parts others h
  none-inside reversed (union parts) (union others) h = none-in_parts reversed parts others h
  none-inside reversed (stream element user settings) (stream other_element other_user others) h =
      joined (turned reversed settings.reverse) element other_element (none-at (turned reversed settings.reverse) element other_element h.2)
      (none-inside (turned reversed settings.reverse) element other_element h.2)
  none-inside reversed source sink h = absurd h

  none-in_parts : (reversed : Bool) (parts others : Parts) → AreCompatible reversed parts others → difference_in_parts reversed parts others ≡ None
  none-in_parts reversed no_parts others h = refl
  none-in_parts reversed (part name ltype more) no_parts h = refl
  none-in_parts reversed (part name ltype more) (part other_name other others) h =
      none-both (option_map (inside_part name) (whole reversed ltype other)) (difference_in_parts reversed more others)
      (none-map (inside_part name) (whole reversed ltype other) (joined reversed ltype other (none-at reversed ltype other h.1) (none-inside reversed ltype other h.1)))
      (none-in_parts reversed more others h.2)

pub no_difference_is_compatible : NoDifferenceIsCompatible
no_difference_is_compatible reversed source sink = (
  λ none. (let parts = split reversed source sink none in compatible reversed source sink parts.0 parts.1),
  λ h. joined reversed source sink (none-at reversed source sink h) (none-inside reversed source sink h),
)
