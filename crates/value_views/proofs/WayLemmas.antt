-- The way to a node, part after part and Stream after Stream.
use Rattle.std.proofs.Common.{◌≡◌, ◌∙◌, ℕ, zero, suc, ◌+◌, ◌<◌, ◌≤◌, Bool, true, false, List, [], ◌∷◌, ◌++◌, length, drop, get_or, cond, Option, Some, None, refl, sym, ap, subst, arith, length-append}
use Rattle.std.specs.Prelude.{Result}
use Rattle.std.proofs.lemmas.Result.{IfOk-weaker}
use Rattle.logical_types.specs.declared.ltype.Part.{Part}
use Rattle.logical_types.specs.declared.ltype.Sync.{Sync}
use Rattle.logical_types.specs.declared.ltype.Sync.TheVariants as syncs
use Rattle.logical_types.specs.Synchronicity.{is_apart}
use Rattle.logical_types.specs.Tree.{Ltype, Parts, Settings, plain, plain_parts}
use Rattle.logical_types.specs.Tree as types
use Rattle.logical_types.proofs.PlainLemmas.{plain_parts-at, plain_parts-past}
use Rattle.type_split.specs.Nodes.{number_of_streams, streams_in_parts}
use Rattle.logical_value.specs.Tree.{Tree}
use Rattle.value_views.specs.Series.{replaced, leaves, first_part, other_parts, first_series, deep, dims_inside, number_of_roots, roots_of_parts, series_in, series_in_parts}
use Rattle.value_views.specs.Way.{part_of, led, NodeType, root_types, root_types_in_parts, HasNone, HasPassed, HasRoom, Finds, FindsInParts, FindsOrPasses, FindsOrPassesParts, Enters, LeadsTo, LeadsFrom, LeadsFromRoot, IsWay, IsWayInside, IsWayInParts, FoundInPart, FoundInside, with_step, passed_behind, nearest, root_through, way_through, as_root, LeadsInPort}
use Rattle.tydi_base.specs.Level.{whole_level}
use Rattle.value_views.specs.declared.way.Finding.{Finding}
use Rattle.value_views.specs.declared.way.Step.{Step}
use Rattle.value_views.specs.declared.way.Step.TheVariants as steps
use Rattle.value_views.proofs.SeriesLemmas.{replaced-twice, first-at, second-at, series_at-drop, series_in-length, found-front, found-back}

-- ---- how many roots there are

pub apart-counted : (sync : Sync) (roots : ℕ) → cond (is_apart sync) 1 0 + roots ≡ passed_behind sync roots
apart-counted syncs.Sync roots = omega arith
apart-counted syncs.Flatten roots = omega arith
apart-counted syncs.Desync roots = omega arith
apart-counted syncs.FlatDesync roots = omega arith

here_first : (apart : Bool) (root : NodeType) (others : List NodeType) (roots : ℕ) → length others ≡ roots → length (cond apart (root ∷ []) [] ++ others) ≡ cond apart 1 0 + roots
here_first true root others roots is = omega (arith, is)
here_first false root others roots is = omega (arith, is)

mutual
  root_types-length : (dims : ℕ) (ltype : Ltype) → length (root_types dims ltype) ≡ number_of_roots ltype
  root_types-length dims types.null = refl
  root_types-length dims (types.bits width) = refl
  root_types-length dims (types.group parts) = root_types_in_parts-length dims parts
  root_types-length dims (types.union parts) = root_types_in_parts-length dims parts
  root_types-length dims (types.stream element user settings) =
      let inner = dims_inside settings.sync dims settings.dims in
      here_first (is_apart settings.sync) (record { dims = inner; element = element }) (root_types inner element) (number_of_roots element) (root_types-length inner element)

  root_types_in_parts-length : (dims : ℕ) (parts : Parts) → length (root_types_in_parts dims parts) ≡ roots_of_parts parts
  root_types_in_parts-length dims types.no_parts = refl
  root_types_in_parts-length dims (types.part name ltype more) =
      length-append (root_types dims ltype) (root_types_in_parts dims more) ∙ omega (arith, root_types-length dims ltype, root_types_in_parts-length dims more)

-- ---- parts

-- the way into the first of some parts
pub way-first : (name : List ℕ) (ltype : Ltype) (more : Parts) (first number before : ℕ) (root : Option ℕ) (way : List Step) → IsWay ltype number before root way
    → IsWayInParts (types.part name ltype more) first number before root (with_step (steps.Part first) root way)
way-first name ltype more first number before None way is = (
  0,
  (
    omega arith,
    record {
      element = is.element;
      leads = is.leads;
      series = λ dims series roots.
          found-front (series_in dims (replaced first_part dims series) roots ltype)
          (series_in_parts dims (replaced other_parts dims series) (drop (number_of_roots ltype) roots) more) number _ (is.series dims (replaced first_part dims series) roots);
    },
  ),
)
way-first name ltype more first number before (Some root) way is = record {
  at = is.at;
  is = is.is;
  from = λ dims. (
      let from = is.from dims in
      record {
        root = from.root;
        found = found-front (root_types dims ltype) (root_types_in_parts dims more) is.at from.root from.found;
        element = from.element;
        leads = from.leads;
        series = λ series roots.
            found-front (series_in dims (replaced first_part dims series) roots ltype)
            (series_in_parts dims (replaced other_parts dims series) (drop (number_of_roots ltype) roots) more) number _ (from.series (replaced first_part dims series) roots);
      }
      );
}

-- the way into one of the parts behind the first
pub way-others : (name : List ℕ) (ltype : Ltype) (more : Parts) (first number whole before passed : ℕ) (root : Option ℕ) (way : List Step)
    → number + number_of_streams ltype ≡ whole → passed ≡ number_of_roots ltype + before → IsWayInParts more (suc first) number passed root way
    → IsWayInParts (types.part name ltype more) first whole before root way
way-others name ltype more first number whole before passed (Some root) way streams roots is = record {
  at = is.at + number_of_roots ltype;
  is = omega (arith, is.is, roots);
  from = λ dims. (
      let from = is.from dims in
      record {
        root = from.root;
        found = found-back (root_types dims ltype) (root_types_in_parts dims more) is.at (is.at + number_of_roots ltype) from.root
            (omega (arith, root_types-length dims ltype)) from.found;
        element = from.element;
        leads = from.leads;
        series = λ series roots.
            found-back (series_in dims (replaced first_part dims series) roots ltype)
            (series_in_parts dims (replaced other_parts dims series) (drop (number_of_roots ltype) roots) more) number whole _
            (omega (arith, streams, series_in-length dims (replaced first_part dims series) roots ltype))
            (from.series (replaced other_parts dims series) (drop (number_of_roots ltype) roots)
            ∙ ap (λ (l : List Tree). Some (led from.element way from.root.dims l)) (series_at-drop is.at (number_of_roots ltype) (is.at + number_of_roots ltype) roots refl));
      }
      );
}
way-others name ltype more first number whole before passed None [] streams roots is = is
way-others name ltype more first number whole before passed None (steps.Sync own ∷ way) streams roots is = is
way-others name ltype more first number whole before passed None (steps.Flatten own ∷ way) streams roots is = is
way-others name ltype more first number whole before passed None (steps.Part part ∷ way) streams roots is =
    let to = is.1.1 in (
      suc is.0,
      (
        omega (arith, is.1.0),
        record {
          element = to.element;
          leads = to.leads;
          series = λ dims series roots.
              found-back (series_in dims (replaced first_part dims series) roots ltype)
              (series_in_parts dims (replaced other_parts dims series) (drop (number_of_roots ltype) roots) more) number whole _
              (omega (arith, streams, series_in-length dims (replaced first_part dims series) roots ltype))
              (to.series dims (replaced other_parts dims series) (drop (number_of_roots ltype) roots)
              ∙ ap (λ (l : List Tree). Some (led to.element way dims l)) (replaced-twice (part_of is.0) other_parts dims series));
        },
      ),
    )

-- ---- a loop over parts

-- the parts before some of all were passed
pub record HavePassed (old now : Finding) (all rest : Parts) (first : ℕ) : Type 0 where
  pub none : HasNone now
  pub room : HasRoom now (roots_of_parts rest)
  pub way : (root : Option ℕ) (way : List Step) → IsWayInParts rest first now.left now.passed root way → IsWayInParts all 0 old.left old.passed root way
  pub left : now.left + streams_in_parts all ≡ old.left + streams_in_parts rest
  pub passed : now.passed + roots_of_parts rest ≡ old.passed + roots_of_parts all

pub HavePassed-none : (old : Finding) (all : Parts) → HasNone old → HasRoom old (roots_of_parts all) → HavePassed old old all all 0
HavePassed-none old all none room = record { none = none; room = room; way = λ root way is. is; left = refl; passed = refl }

pub HavePassed-step : (told : Bool) (old now new : Finding) (all : Parts) (parts : List Part) (first : ℕ) (one : Part) → first < length parts → one ≡ get_or parts first one
    → HavePassed old now all (plain_parts (drop first parts)) first
    → (HasNone now → HasRoom now (number_of_roots (plain one.ltype)) → FoundInPart first (plain one.ltype) now new told) → told ≡ false
    → HavePassed old new all (plain_parts (drop (first + 1) parts)) (first + 1)
HavePassed-step true old now new all parts first one within is have passes no' = cc
HavePassed-step false old now new all parts first one within is have passes no' =
    let next = plain_parts (drop (first + 1) parts) in
    let t = plain one.ltype in
    let here : HavePassed old now all (types.part one.name t next) first = subst (λ ps. HavePassed old now all ps first) (plain_parts-at parts first one within is) have in
    let passed = passes here.none (omega (arith, here.room)) in
    let behind : suc first ≡ first + 1 = omega arith in
    record {
      none = record { root = passed.root; way = passed.way };
      room = omega (arith, here.room, passed.passed);
      way = λ root way is.
          here.way root way
          (way-others one.name t next first new.left now.left now.passed new.passed root way passed.left passed.passed
          (subst (λ (n : ℕ). IsWayInParts next n new.left new.passed root way) (sym behind) is));
      left = omega (arith, here.left, passed.left);
      passed = omega (arith, here.passed, passed.passed);
    }

pub HavePassed-found : (told : Bool) (old now new : Finding) (all : Parts) (parts : List Part) (first : ℕ) (one : Part) → first < length parts → one ≡ get_or parts first one
    → HavePassed old now all (plain_parts (drop first parts)) first
    → (HasNone now → HasRoom now (number_of_roots (plain one.ltype)) → FoundInPart first (plain one.ltype) now new told) → told ≡ true
    → IsWayInParts all 0 old.left old.passed new.root new.way.items
HavePassed-found false old now new all parts first one within is have finds yes' = cc
HavePassed-found true old now new all parts first one within is have finds yes' =
    let next = plain_parts (drop (first + 1) parts) in
    let t = plain one.ltype in
    let here : HavePassed old now all (types.part one.name t next) first = subst (λ ps. HavePassed old now all ps first) (plain_parts-at parts first one within is) have in
    let found = finds here.none (omega (arith, here.room)) in
    here.way new.root new.way.items
    (subst (IsWayInParts (types.part one.name t next) first now.left now.passed new.root) (sym found.1.1) (way-first one.name t next first now.left now.passed new.root found.0 found.1.0))

pub HavePassed-all : (old now : Finding) (all : Parts) (parts : List Part) (first : ℕ) → length parts ≤ first → HavePassed old now all (plain_parts (drop first parts)) first
    → HasPassed old now (streams_in_parts all) (roots_of_parts all)
HavePassed-all old now all parts first done have =
    let here : HavePassed old now all types.no_parts first = subst (λ ps. HavePassed old now all ps first) (plain_parts-past parts first done) have in
    record { left = omega (arith, here.left); passed = omega (arith, here.passed); root = here.none.root; way = here.none.way }

-- ---- a Group and a Union are looked through as their parts are

pub way-group : (parts : Parts) (number before : ℕ) (root : Option ℕ) (way : List Step) → IsWayInParts parts 0 number before root way → IsWay (types.group parts) number before root way
way-group parts number before (Some root) way is = record {
  at = is.at;
  is = is.is;
  from = λ dims. (let from = is.from dims in record { root = from.root; found = from.found; element = from.element; leads = from.leads; series = from.series });
}
way-group parts number before None [] is = absurd is
way-group parts number before None (steps.Sync own ∷ way) is = absurd is
way-group parts number before None (steps.Flatten own ∷ way) is = absurd is
way-group parts number before None (steps.Part part ∷ way) is =
    let to = is.1.1 in
    let same : is.0 ≡ part = omega (arith, is.1.0) in
    subst (λ (n : ℕ). LeadsTo (types.group parts) number (steps.Part n ∷ way)) same (record { element = to.element; leads = to.leads; series = to.series })

pub way-union : (parts : Parts) (number before : ℕ) (root : Option ℕ) (way : List Step) → IsWayInParts parts 0 number before root way → IsWay (types.union parts) number before root way
way-union parts number before (Some root) way is = record {
  at = is.at;
  is = is.is;
  from = λ dims. (let from = is.from dims in record { root = from.root; found = from.found; element = from.element; leads = from.leads; series = from.series });
}
way-union parts number before None [] is = absurd is
way-union parts number before None (steps.Sync own ∷ way) is = absurd is
way-union parts number before None (steps.Flatten own ∷ way) is = absurd is
way-union parts number before None (steps.Part part ∷ way) is =
    let to = is.1.1 in
    let same : is.0 ≡ part = omega (arith, is.1.0) in
    subst (λ (n : ℕ). LeadsTo (types.union parts) number (steps.Part n ∷ way)) same (record { element = to.element; leads = to.leads; series = to.series })

found-group : (parts : Parts) (old new : Finding) (found : Bool) → FindsOrPassesParts parts 0 old new found → FindsOrPasses (types.group parts) old new found
found-group parts old new true is = way-group parts old.left old.passed new.root new.way.items is
found-group parts old new false is = is

found-union : (parts : Parts) (old new : Finding) (found : Bool) → FindsOrPassesParts parts 0 old new found → FindsOrPasses (types.union parts) old new found
found-union parts old new true is = way-union parts old.left old.passed new.root new.way.items is
found-union parts old new false is = is

pub Finds-group : {E : Type 0} (parts : Parts) (old new : Finding) (result : Result Bool E) → FindsInParts 0 old new result parts → Finds old new result (types.group parts)
Finds-group parts old new result finds = λ none room. IfOk-weaker result _ _ (found-group parts old new) (finds none room)

pub Finds-union : {E : Type 0} (parts : Parts) (old new : Finding) (result : Result Bool E) → FindsInParts 0 old new result parts → Finds old new result (types.union parts)
Finds-union parts old new result finds = λ none room. IfOk-weaker result _ _ (found-union parts old new) (finds none room)

-- ---- Streams

-- settings with this synchronicity and dimensionality
abbrev with_sync : Settings → Sync → ℕ → Settings
with_sync settings sync own = record {
  throughput = settings.throughput;
  dims = own;
  sync = sync;
  level = settings.level;
  reverse = settings.reverse;
  keep = settings.keep;
}

-- the way to a Stream itself
way-here : (element user : Ltype) (settings : Settings) (sync : Sync) (own before : ℕ)
    → IsWay (types.stream element user (with_sync settings sync own)) 0 before (root_through sync before None) (way_through sync own None [])
way-here element user settings syncs.Sync own before = record { element = element; leads = (refl, (refl, refl)); series = λ dims series roots. refl }
way-here element user settings syncs.Flatten own before = record { element = element; leads = (refl, (refl, refl)); series = λ dims series roots. refl }
way-here element user settings syncs.Desync own before = record {
  at = 0;
  is = omega arith;
  from = λ dims. record {
    root = record { dims = deep dims own; element = element };
    found = refl;
    element = element;
    leads = refl;
    series = λ series roots. ap (λ (l : List Tree). Some (led element [] (deep dims own) l)) (first-at roots);
  };
}
way-here element user settings syncs.FlatDesync own before = record {
  at = 0;
  is = omega arith;
  from = λ dims. record {
    root = record { dims = own; element = element };
    found = refl;
    element = element;
    leads = refl;
    series = λ series roots. ap (λ (l : List Tree). Some (led element [] own l)) (first-at roots);
  };
}

-- the way to a Stream among the elements of another
way-deeper : (element user : Ltype) (settings : Settings) (sync : Sync) (own number before : ℕ) (root : Option ℕ) (way : List Step)
    → IsWay element number (passed_behind sync before) root way
    → IsWay (types.stream element user (with_sync settings sync own)) (suc number) before (root_through sync before root) (way_through sync own root way)
way-deeper element user settings syncs.Sync own number before None way is = record {
  element = is.element;
  leads = (refl, (refl, is.leads));
  series = λ dims series roots. is.series (deep dims own) series roots;
}
way-deeper element user settings syncs.Flatten own number before None way is = record {
  element = is.element;
  leads = (refl, (refl, is.leads));
  series = λ dims series roots. is.series own (leaves dims series) roots;
}
way-deeper element user settings syncs.Desync own number before None way is = record {
  at = 0;
  is = omega arith;
  from = λ dims. record {
    root = record { dims = deep dims own; element = element };
    found = refl;
    element = is.element;
    leads = is.leads;
    series = λ series roots.
        is.series (deep dims own) (first_series roots) (drop 1 roots) ∙ ap (λ (l : List Tree). Some (led is.element way (deep dims own) l)) (first-at roots);
  };
}
way-deeper element user settings syncs.FlatDesync own number before None way is = record {
  at = 0;
  is = omega arith;
  from = λ dims. record {
    root = record { dims = own; element = element };
    found = refl;
    element = is.element;
    leads = is.leads;
    series = λ series roots. is.series own (first_series roots) (drop 1 roots) ∙ ap (λ (l : List Tree). Some (led is.element way own l)) (first-at roots);
  };
}
way-deeper element user settings syncs.Sync own number before (Some root) way is = record {
  at = is.at;
  is = is.is;
  from = λ dims. (
      let from = is.from (deep dims own) in
      record { root = from.root; found = from.found; element = from.element; leads = from.leads; series = λ series roots. from.series series roots }
      );
}
way-deeper element user settings syncs.Flatten own number before (Some root) way is = record {
  at = is.at;
  is = is.is;
  from = λ dims. (
      let from = is.from own in
      record { root = from.root; found = from.found; element = from.element; leads = from.leads; series = λ series roots. from.series (leaves dims series) roots }
      );
}
way-deeper element user settings syncs.Desync own number before (Some root) way is = record {
  at = suc is.at;
  is = omega (arith, is.is);
  from = λ dims. (
      let from = is.from (deep dims own) in
      record {
        root = from.root;
        found = from.found;
        element = from.element;
        leads = from.leads;
        series = λ series roots.
            from.series (first_series roots) (drop 1 roots) ∙ ap (λ (l : List Tree). Some (led from.element way from.root.dims l)) (second-at is.at roots);
      }
      );
}
way-deeper element user settings syncs.FlatDesync own number before (Some root) way is = record {
  at = suc is.at;
  is = omega (arith, is.is);
  from = λ dims. (
      let from = is.from own in
      record {
        root = from.root;
        found = from.found;
        element = from.element;
        leads = from.leads;
        series = λ series roots.
            from.series (first_series roots) (drop 1 roots) ∙ ap (λ (l : List Tree). Some (led from.element way from.root.dims l)) (second-at is.at roots);
      }
      );
}

pub way-stream : (element user : Ltype) (settings : Settings) (number before : ℕ) (root : Option ℕ) (way : List Step)
    → IsWayInside element number (passed_behind settings.sync before) root way
    → IsWay (types.stream element user settings) number before (root_through settings.sync before root) (way_through settings.sync settings.dims root way)
way-stream element user settings zero before root way is =
    subst (λ (r : Option ℕ). IsWay (types.stream element user settings) 0 before (root_through settings.sync before r) (way_through settings.sync settings.dims r way)) (sym is.0)
    (subst (λ (w : List Step). IsWay (types.stream element user settings) 0 before (root_through settings.sync before None) (way_through settings.sync settings.dims None w)) (sym is.1)
    (way-here element user settings settings.sync settings.dims before))
way-stream element user settings (suc number) before root way is = way-deeper element user settings settings.sync settings.dims number before root way is

-- the way through a Stream, as it was entered
pub way-entered : (told : Bool) (element user : Ltype) (settings : Settings) (old inside new : Finding) → HasNone old → HasRoom old (cond (is_apart settings.sync) 1 0 + number_of_roots element)
    → (HasNone old → HasRoom old (passed_behind settings.sync (number_of_roots element)) → FoundInside settings.sync element old inside told) → told ≡ true
    → Enters settings.sync settings.dims old.passed inside new → IsWay (types.stream element user settings) old.left old.passed new.root new.way.items
way-entered false element user settings old inside new none room finds yes' enters = cc
way-entered true element user settings old inside new none room finds yes' enters =
    let is = finds none (omega (arith, room, apart-counted settings.sync (number_of_roots element))) in
    subst (λ (r : Option ℕ). IsWay (types.stream element user settings) old.left old.passed r new.way.items) (sym enters.root)
    (subst (IsWay (types.stream element user settings) old.left old.passed (root_through settings.sync old.passed inside.root)) (sym enters.way)
    (way-stream element user settings old.left old.passed inside.root inside.way.items is))

-- the way from the outermost Stream
pub way-port : (told : Bool) (element : Ltype) (old inside new : Finding) → HasNone old → old.passed ≡ 0 → suc (number_of_roots element) ≤ 65536
    → (HasNone old → HasRoom old (suc (number_of_roots element)) → FoundInside syncs.Desync element old inside told) → told ≡ true
    → new.root ≡ nearest inside.root 0 → new.way ≡ inside.way → LeadsInPort element old.left new.root new.way.items
way-port false element old inside new none start room finds yes' root way = cc
way-port true element old inside new none start room finds yes' root way =
    let is = finds none (omega (arith, room, start)) in
    let inner = ap (λ w. w.items) way in
    subst (LeadsInPort element old.left new.root) (sym inner)
    (subst (λ (r : Option ℕ). LeadsInPort element old.left r inside.way.items) (sym root)
    (from_root inside.root (λ dims. way-stream element types.null (as_settings dims) old.left 0 inside.root inside.way.items
    (subst (λ (n : ℕ). IsWayInside element old.left (suc n) inside.root inside.way.items) start is))))
  where
    as_settings : ℕ → Settings
    as_settings dims = record { throughput = record { num = 1; den = 1 }; dims = dims; sync = syncs.Desync; level = whole_level 1; reverse = false; keep = false }

    at_root : (number root : ℕ) (way : List Step) (dims : ℕ) → LeadsFromRoot (as_root element dims) number 0 root way → LeadsFrom (as_root element dims) number root way 0
    at_root number root way dims leads =
        (let same : leads.at ≡ root = omega (arith, leads.is) in subst (λ (n : ℕ). LeadsFrom (as_root element dims) number n way 0) same (leads.from 0))

    from_root : (root : Option ℕ) → ((dims : ℕ) → IsWay (as_root element dims) old.left 0 (nearest root 0) inside.way.items)
        → LeadsInPort element old.left (nearest root 0) inside.way.items
    from_root None leads = record { root = 0; is = refl; from = λ dims. at_root old.left 0 inside.way.items dims (leads dims) }
    from_root (Some root) leads = record { root = root; is = refl; from = λ dims. at_root old.left root inside.way.items dims (leads dims) }
