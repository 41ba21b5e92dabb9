-- Ends whose ports name one declaration have one type, and a type does not differ from itself.
use Rattle.std.proofs.Common.{◌≡◌, ℕ, zero, suc, Bool, true, false, cond, List, [], ◌∷◌, All, Option, Some, None, is_none, IfSome, IsTrue, refl, sym, ap, subst, ◌∙◌, arith}
use Rattle.std.proofs.Math.Logic.{∥∥₁_elim}
use Rattle.std.proofs.Props.{props}
use Rattle.std.specs.Borrow.{Bor}
use Rattle.std.specs.List.{find, slice_get}
use Rattle.std.specs.Str.{bytes_eq}
use Rattle.tydi_base.specs.Level.{LevelNumbers}
use Rattle.tydi_base.proofs.LevelOrder.{order_is_reflexive}
use Rattle.logical_types.specs.Tree.{Ltype, null, bits, group, union, stream, Parts, no_parts, part, plain_of_stream}
use Rattle.type_split.specs.Nodes.{turned}
use Rattle.til_resolve.specs.NumberedTypes.{AreNumbered, HasTypeBy, HaveTypesBy}
use Rattle.til_resolve.specs.declared.project.Port.{Port}
use Rattle.til_resolve.specs.declared.project.Streamlet.{Streamlet}
use Rattle.link_check.specs.Compatible.{Agree, Compatible, AreCompatible, are_in_order}
use Rattle.link_check.specs.Differences.{first_difference}
use Rattle.link_check.specs.Ends as ends
use Rattle.link_check.specs.Links.{difference_of}
use Rattle.link_check.specs.Tables.{lent_port, port_in, ports_there}
use Rattle.link_check.specs.Wirings.{AreAlike, HasTypeIn, IsTypedBy, IsTypedIn, NameOneType, side_lent}
use Rattle.link_check.specs.declared.difference.Difference.{Difference}
use Rattle.link_check.specs.declared.ends.Side.{Side}
use Rattle.link_check.proofs.CompatibleLemmas.{no_difference_is_compatible}

-- ---- a type and itself

in_order-itself : (reversed : Bool) (level : LevelNumbers) → IsTrue (are_in_order reversed level level)
in_order-itself false level = order_is_reflexive level
in_order-itself true level = order_is_reflexive level

mutual
  pub compatible-itself : (reversed : Bool) (one : Ltype) → Compatible reversed one one
  compatible-itself reversed null = tt
  compatible-itself reversed (bits width) = refl
  compatible-itself reversed (group parts) = are_compatible-itself reversed parts
  compatible-itself reversed (union parts) = are_compatible-itself reversed parts
  compatible-itself reversed (stream element user settings) = (
    record { throughput = refl; dims = refl; sync = refl; level = in_order-itself (turned reversed settings.reverse) settings.level; reverse = refl; keep = refl },
    refl,
    compatible-itself (turned reversed settings.reverse) element,
  )

  are_compatible-itself : (reversed : Bool) (parts : Parts) → AreCompatible reversed parts parts
  are_compatible-itself reversed no_parts = tt
  are_compatible-itself reversed (part name ltype more) = (refl, compatible-itself reversed ltype, are_compatible-itself reversed more)

pub no_difference-itself : (reversed : Bool) (one : Ltype) → first_difference reversed one one ≡ None
no_difference-itself reversed one = (no_difference_is_compatible reversed one one).1 (compatible-itself reversed one)

-- ---- ports in a project

found-holds : {A : Type 0} (Holds : A → Type 0) (test : A → Bool) (xs : List A) (x : A) → All Holds xs → find test xs ≡ Some x → Holds x
found-holds Holds test [] x all is = absurd cc
found-holds {A} Holds test (y ∷ ys) x all is = by (test y) is (found-holds Holds test ys x (λ k d within. all (suc k) d (omega (arith, within))))
  where
    by : (b : Bool) → cond b (Some y) (find test ys) ≡ Some x → (find test ys ≡ Some x → Holds x) → Holds x
    by true same more = subst Holds (first same) (all 0 y (omega arith))
      where
        first : ◌≡◌ {A = Option A} (Some y) (Some x) → y ≡ x
        first e = cc
    by false rest more = more rest

got-holds : {A : Type 0} (Holds : A → Type 0) (xs : List A) (i : ℕ) (x : A) → All Holds xs → slice_get xs i ≡ Some x → Holds x
got-holds Holds [] zero x all is = absurd cc
got-holds Holds [] (suc i) x all is = absurd cc
got-holds {A} Holds (y ∷ ys) zero x all is = subst Holds (first is) (all 0 y (omega arith))
  where
    first : ◌≡◌ {A = Option A} (Some y) (Some x) → y ≡ x
    first e = cc
got-holds Holds (y ∷ ys) (suc i) x all is = got-holds Holds ys i x (λ k d within. all (suc k) d (omega (arith, within))) is

port-typed : (types : ℕ → Ltype) (streamlets : List Streamlet) (home : ℕ) (name : List ℕ) (port : Port) → HaveTypesBy types streamlets
    → port_in (ports_there (slice_get streamlets home)) name ≡ Some port → HasTypeBy types port
port-typed types streamlets home name port all is = by (slice_get streamlets home) refl is
  where
    by : (there : Option Streamlet) → slice_get streamlets home ≡ there → port_in (ports_there there) name ≡ Some port → HasTypeBy types port
    by None at none = absurd cc
    by (Some streamlet) at found = found-holds (HasTypeBy types) (λ (one : Port). bytes_eq one.name name) streamlet.ports port
        (got-holds (λ (one : Streamlet). All (HasTypeBy types) one.ports) streamlets home streamlet all at) found

pub found-typed : (streamlets : List Streamlet) (home : ℕ) (name : List ℕ) (found : Option (Bor Port))
    → lent_port found ≡ port_in (ports_there (slice_get streamlets home)) name → IfSome found (λ port. HasTypeIn streamlets port.now)
found-typed streamlets home name None is = tt
found-typed streamlets home name (Some port) is = λ types all. port-typed types streamlets home name port.now all (sym is)

-- ---- ends

pub side-typed : (types : ℕ → Ltype) (port : Port) (side : Side) (lent : ends.Side) → HasTypeBy types port → side_lent side ≡ lent → lent.ltype ≡ plain_of_stream port.ltype.value
    → side.declared ≡ port.declared → IsTypedBy types side
side-typed types port side lent has is has_type declared =
    subst (λ (o : Option ℕ). IfSome o (λ number. (side_lent side).ltype ≡ types number)) (sym declared) (by port.declared has)
  where
    by : (o : Option ℕ) → IfSome o (λ number. plain_of_stream port.ltype.value ≡ types number) → IfSome o (λ number. (side_lent side).ltype ≡ types number)
    by None so = tt
    by (Some number) so = ap (λ (s : ends.Side). s.ltype) is ∙ has_type ∙ so

typed-at : (types : ℕ → Ltype) (side : Side) (number : ℕ) → IsTypedBy types side → side.declared ≡ Some number → (side_lent side).ltype ≡ types number
typed-at types side number typed is = subst (λ (o : Option ℕ). IfSome o (λ n. (side_lent side).ltype ≡ types n)) is typed

-- two types that are one do not differ
same-none : (one other : ends.Side) → one.ltype ≡ other.ltype → difference_of one other ≡ None
same-none one other same = by one.is_source
  where
    by : (b : Bool) → cond b (first_difference false one.ltype other.ltype) (first_difference false other.ltype one.ltype) ≡ None
    by true = ap (λ (t : Ltype). first_difference false t other.ltype) same ∙ no_difference-itself false other.ltype
    by false = ap (λ (t : Ltype). first_difference false other.ltype t) same ∙ no_difference-itself false other.ltype

pub typed-alike : (streamlets : List Streamlet) (one other : Side) → ∥ AreNumbered streamlets ∥₁ → IsTypedIn streamlets one → IsTypedIn streamlets other → AreAlike one other
typed-alike streamlets one other numbered first second number is at =
    ∥∥₁_elim numbered (Prim.hlevel props) (λ all. ap is_none (same-none (side_lent one) (side_lent other)
    (typed-at all.0 one number (first all.0 all.1) is ∙ sym (typed-at all.0 other number (second all.0 all.1) at))))

pub alike-none : (one other : Side) → AreAlike one other → NameOneType one other → None ≡ difference_of (side_lent one) (side_lent other)
alike-none one other alike shared = by (difference_of (side_lent one) (side_lent other)) (alike shared.0 shared.1 shared.2)
  where
    by : (o : Option Difference) → is_none o ≡ true → None ≡ o
    by None so = refl
    by (Some difference) so = absurd cc
