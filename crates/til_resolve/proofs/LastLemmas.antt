-- The faults that are looked for last, and what a tree without faults shows of its ports.
use Rattle.std.proofs.Common.{◌≡◌, ◌≢◌, ℕ, ◌<◌, ◌≤◌, ◌⊎◌, inl, inr, Bool, true, false, not, List, length, Some, None, Result, Ok, Err, IfOk, IfErr, Contains, IsTrue, refl, sym, ap, subst, arith}
use Rattle.std.proofs.lemmas.Bool.{cases_lt}
use Rattle.tydi_base.specs.declared.place.Place.{Place}
use Rattle.til_parser.specs.declared.tree.Ast.{Ast}
use Rattle.til_parser.specs.declared.tree.AstPort.{AstPort}
use Rattle.til_parser.specs.Tree.{plain}
use Rattle.logical_types.specs.Size.{depth_of}
use Rattle.til_resolve.specs.declared.fault.ResolveFault.{ResolveFault}
use Rattle.til_resolve.specs.declared.fault.ResolveFault.TheVariants as faults
use Rattle.til_resolve.specs.declared.misshapen.Sort.TheVariants as sorts
use Rattle.til_resolve.specs.Declarations.{Declaration, declarations}
use Rattle.til_resolve.specs.Earliest.{IsEarliest, IsBelow}
use Rattle.til_resolve.specs.Faults.{IsChosen, HasFault, HasTypeAt, IsCyclicAtTarget, IsToldBefore, IsToldUpTo, IsToldOf, IsSound, order_of, written_types}
use Rattle.til_resolve.specs.Making.{type_of_port}
use Rattle.til_resolve.specs.declared.project.Project.{Project}
use Rattle.til_resolve.specs.Project.{IsProjectOf, IsStreamletOf, Pairwise, streamlet_numbers, tests_in}
use Rattle.til_resolve.specs.Shapes.{IsMisshapen}
use Rattle.til_resolve.specs.Types.{type_of, is_stream}

-- ---- ports whose type is no Stream

pub told-no_stream : (all : List Declaration) (place : Place) → IsToldUpTo all 5 None → IsEarliest (HasTypeAt (IsMisshapen sorts.PortNotStream) (written_types all)) (Some place)
    → IsToldUpTo all 7 (Some (faults.PortNotStream place))
told-no_stream all place none is = record { told = (record { one = is.told.there.one; written = is.told.there.written; at = is.told.there.at; is = is.told.there.is }, first); chosen = tt }
  where
    first : (other : ResolveFault) → HasFault all other → IsToldBefore (faults.PortNotStream place) other
    first (faults.DeclaredTwice q) there = absurd (none.told (faults.DeclaredTwice q) (omega arith) there)
    first (faults.UnknownName q) there = absurd (none.told (faults.UnknownName q) (omega arith) there)
    first (faults.WrongKind q) there = absurd (none.told (faults.WrongKind q) (omega arith) there)
    first (faults.CyclicType q) there = absurd (none.told (faults.CyclicType q) (omega arith) there)
    first (faults.TypeTooLarge q) there = absurd (none.told (faults.TypeTooLarge q) (omega arith) there)
    first (faults.BadType q fault) there = absurd (none.told (faults.BadType q fault) (omega arith) there)
    first (faults.PortNotStream q) there = inr (refl, is.told.first q (record { one = there.one; written = there.written; at = there.at; is = there.is }))
    first (faults.CyclicInstance q) there = inl (omega arith)
    first faults.Memory there = absurd there

-- nothing is wrong but, if anything, that streamlets contain themselves
no_stream-never : (all : List Declaration) → IsEarliest (HasTypeAt (IsMisshapen sorts.PortNotStream) (written_types all)) None → (q : Place) → ¬ HasFault all (faults.PortNotStream q)
no_stream-never all is q there = is.told q (record { one = there.one; written = there.written; at = there.at; is = there.is })

-- ---- streamlets that contain themselves

pub told-contained : (all : List Declaration) (place : Place) → IsToldUpTo all 5 None → IsEarliest (HasTypeAt (IsMisshapen sorts.PortNotStream) (written_types all)) None
    → IsEarliest (IsBelow (IsCyclicAtTarget all) (length all)) (Some place) → IsToldUpTo all 7 (Some (faults.CyclicInstance place))
told-contained all place none streams is = record { told = (is.told.there, first); chosen = tt }
  where
    first : (other : ResolveFault) → HasFault all other → IsToldBefore (faults.CyclicInstance place) other
    first (faults.DeclaredTwice q) there = absurd (none.told (faults.DeclaredTwice q) (omega arith) there)
    first (faults.UnknownName q) there = absurd (none.told (faults.UnknownName q) (omega arith) there)
    first (faults.WrongKind q) there = absurd (none.told (faults.WrongKind q) (omega arith) there)
    first (faults.CyclicType q) there = absurd (none.told (faults.CyclicType q) (omega arith) there)
    first (faults.TypeTooLarge q) there = absurd (none.told (faults.TypeTooLarge q) (omega arith) there)
    first (faults.BadType q fault) there = absurd (none.told (faults.BadType q fault) (omega arith) there)
    first (faults.PortNotStream q) there = absurd (no_stream-never all streams q there)
    first (faults.CyclicInstance q) there = inr (refl, is.told.first q there)
    first faults.Memory there = absurd there

pub told-none_last : (all : List Declaration) → IsToldUpTo all 5 None → IsEarliest (HasTypeAt (IsMisshapen sorts.PortNotStream) (written_types all)) None
    → IsEarliest (IsBelow (IsCyclicAtTarget all) (length all)) None → IsToldUpTo all 7 None
told-none_last all none streams is = record { told = never; chosen = tt }
  where
    never : (fault : ResolveFault) → order_of fault ≤ 7 → ¬ HasFault all fault
    never (faults.DeclaredTwice q) low there = none.told (faults.DeclaredTwice q) (omega arith) there
    never (faults.UnknownName q) low there = none.told (faults.UnknownName q) (omega arith) there
    never (faults.WrongKind q) low there = none.told (faults.WrongKind q) (omega arith) there
    never (faults.CyclicType q) low there = none.told (faults.CyclicType q) (omega arith) there
    never (faults.TypeTooLarge q) low there = none.told (faults.TypeTooLarge q) (omega arith) there
    never (faults.BadType q fault) low there = none.told (faults.BadType q fault) (omega arith) there
    never (faults.PortNotStream q) low there = no_stream-never all streams q there
    never (faults.CyclicInstance q) low there = is.told q there
    never faults.Memory low there = there

-- ---- all faults

sound : (ast : Ast) (all : List Declaration) → all ≡ declarations ast → IsToldUpTo all 7 None → IsSound ast
sound ast all same none = λ fault. subst (λ (l : List Declaration). ¬ HasFault l fault) same (never fault)
  where
    never : (fault : ResolveFault) → ¬ HasFault all fault
    never (faults.DeclaredTwice q) there = none.told (faults.DeclaredTwice q) (omega arith) there
    never (faults.UnknownName q) there = none.told (faults.UnknownName q) (omega arith) there
    never (faults.WrongKind q) there = none.told (faults.WrongKind q) (omega arith) there
    never (faults.CyclicType q) there = none.told (faults.CyclicType q) (omega arith) there
    never (faults.TypeTooLarge q) there = none.told (faults.TypeTooLarge q) (omega arith) there
    never (faults.BadType q fault) there = none.told (faults.BadType q fault) (omega arith) there
    never (faults.PortNotStream q) there = none.told (faults.PortNotStream q) (omega arith) there
    never (faults.CyclicInstance q) there = none.told (faults.CyclicInstance q) (omega arith) there
    never faults.Memory there = there

told_of : (ast : Ast) (all : List Declaration) (fault : ResolveFault) → all ≡ declarations ast → IsToldUpTo all 7 (Some fault) → IsToldOf ast fault
told_of ast all fault same is = record {
  there = subst (λ (l : List Declaration). HasFault l fault) same is.told.0;
  first = λ other there. is.told.1 other (subst (λ (l : List Declaration). HasFault l other) (sym same) there);
  chosen = subst (λ (l : List Declaration). IsChosen l fault) same is.chosen;
}

-- ---- the types of ports

module _ (all : List Declaration) (space : List (List ℕ)) (port : AstPort) (none : IsToldUpTo all 7 None) (written : Contains (written_types all) (type_of_port all space port)) where
  pub port-stream : IsTrue (is_stream (type_of all space (plain port.ltype)))
  port-stream = by (is_stream (type_of all space (plain port.ltype))) refl
    where
      by : (b : Bool) → is_stream (type_of all space (plain port.ltype)) ≡ b → b ≡ true
      by true is = refl
      by false is = absurd (none.told (faults.PortNotStream port.name.place) (omega arith)
          (record { one = type_of_port all space port; written = written; at = refl; is = (refl, ap not is) }))

  pub port-depth : depth_of (type_of all space (plain port.ltype)) ≤ 64
  port-depth = by (cases_lt 64 (depth_of (type_of all space (plain port.ltype))))
    where
      by : (64 < depth_of (type_of all space (plain port.ltype))) ⊎ (depth_of (type_of all space (plain port.ltype)) ≤ 64) → depth_of (type_of all space (plain port.ltype)) ≤ 64
      by (inl deep) = absurd (none.told (faults.TypeTooLarge port.name.place) (omega arith)
          (record { one = type_of_port all space port; written = written; at = refl; is = inr deep }))
      by (inr within) = within

-- ---- projects

module _ (ast : Ast) (all : List Declaration) (same : all ≡ declarations ast) where
  pub sound_result : (result : Result Project ResolveFault) → IfOk result (λ project. IsToldUpTo all 7 None) → IfOk result (λ project. IsSound ast)
  sound_result (Ok project) none = sound ast all same none
  sound_result (Err fault) none = tt

  pub project_result : (result : Result Project ResolveFault) → IfOk result (λ project. Pairwise (IsStreamletOf all) (streamlet_numbers all) project.streamlets)
      → IfOk result (λ project. project.tests ≡ tests_in all all) → IfOk result (IsProjectOf ast)
  project_result (Ok project) streamlets tests = record {
    streamlets_are = subst (λ (l : List Declaration). Pairwise (IsStreamletOf l) (streamlet_numbers l) project.streamlets) same streamlets;
    tests_are = subst (λ (l : List Declaration). project.tests ≡ tests_in l l) same tests;
  }
  project_result (Err fault) streamlets tests = tt

  pub fault_result : (result : Result Project ResolveFault) → IfErr result (λ fault. fault ≢ faults.Memory → IsToldUpTo all 7 (Some fault))
      → IfErr result (λ fault. fault ≢ faults.Memory → IsToldOf ast fault)
  fault_result (Ok project) told = tt
  fault_result (Err fault) told = λ other. told_of ast all fault same (told other)
