-- The types that a tree writes, added one after another.
use Rattle.std.proofs.Common.{◌≡◌, ℕ, ◌+◌, ◌<◌, ◌≤◌, ◌⊎◌, inl, inr, false, List, [], ◌∷◌, ◌++◌, length, map, get_or, take, Contains, refl, sym, ap, subst, ◌∙◌, append_assoc}
use Rattle.std.specs.List.{flat_map}
use Rattle.std.proofs.lemmas.Grind.{flat_map-append}
use Rattle.std.proofs.lemmas.List.{take_more, take_all, map-append}
use Rattle.std.proofs.lemmas.List.Elements.{Contains-append_left, Contains-append_right, Contains-append_cases, Contains-get_or, Contains-push}
use Rattle.til_parser.specs.declared.ltype.AstType.{AstType}
use Rattle.til_parser.specs.declared.tree.AstKind.{AstKind}
use Rattle.til_parser.specs.declared.tree.AstKind.TheVariants as decls
use Rattle.til_parser.specs.declared.tree.AstName.{AstName}
use Rattle.til_parser.specs.declared.tree.AstPort.{AstPort}
use Rattle.til_parser.specs.declared.tree.AstPorts.TheVariants as ports
use Rattle.logical_types.specs.Tree.{Ltype}
use Rattle.til_resolve.specs.declared.written.Written.{Written}
use Rattle.til_resolve.specs.declared.written.Written.TheVariants.{Declared}
use Rattle.til_resolve.specs.Declarations.{Declaration, declaration, is_type_kind, own_ports}
use Rattle.til_resolve.specs.Faults.{WrittenType, port_types, types_in, types_of_kind}
use Rattle.til_resolve.specs.Written.{IsWithin, written_type, AddsWritten, AreWritten}
use Rattle.til_resolve.proofs.AgainLemmas.{append_nil}
use Rattle.til_resolve.proofs.MeaningLemmas.{declared-is}
use Rattle.til_resolve.proofs.EarliestLemmas.{Contains-nil, Contains-one}

-- the element at an index is one of the list
pub Contains-at : {A : Type 0} (xs : List A) (i : ℕ) (x : A) → i < length xs → x ≡ get_or xs i x → Contains xs x
Contains-at xs i x within is = subst (Contains xs) (sym is) (Contains-get_or xs i x within)

pub Contains-map : {A B : Type 0} (f : A → B) (xs : List A) (x : A) → Contains xs x → Contains (map f xs) (f x)
Contains-map f [] x there = absurd (Contains-nil x there)
Contains-map {A} {B} f (first ∷ more) x there = by (Contains-append_cases (first ∷ []) more x there) (Contains-map f more x)
  where
    by : Contains (first ∷ []) x ⊎ Contains more x → (Contains more x → Contains (map f more) (f x)) → Contains (f first ∷ map f more) (f x)
    by (inl here) rest = Contains-append_left (f first ∷ []) (map f more) (f x) (subst (λ (y : B). Contains (f first ∷ []) y) (ap f (Contains-one first x here)) (Contains-push [] (f first)))
    by (inr further) rest = Contains-append_right (f first ∷ []) (map f more) (f x) (rest further)

module _ (all : List Declaration) where
  pub AddsWritten-none : (old : List Written) → AddsWritten all old old []
  AddsWritten-none old = record { types = sym (append_nil (map (written_type all) old)); within = λ before. before }

  pub AddsWritten-then : (old mid new : List Written) (one other : List WrittenType) → AddsWritten all old mid one → AddsWritten all mid new other → AddsWritten all old new (one ++ other)
  AddsWritten-then old mid new one other first second = record {
    types = second.types ∙ ap (λ (l : List WrittenType). l ++ other) first.types ∙ append_assoc (map (written_type all) old) one other;
    within = λ before. second.within (first.within before);
  }

  pub AddsWritten-push : (old new : List Written) (one : Written) → new ≡ old ++ one ∷ [] → IsWithin all one → AddsWritten all old new (written_type all one ∷ [])
  AddsWritten-push old new one is within = record {
    types = ap (map (written_type all)) is ∙ map-append (written_type all) old (one ∷ []);
    within = λ before other there. by before other (Contains-append_cases old (one ∷ []) other (subst (λ (l : List Written). Contains l other) is there));
  }
    where
      by : ((x : Written) → Contains old x → IsWithin all x) → (other : Written) → Contains old other ⊎ Contains (one ∷ []) other → IsWithin all other
      by before other (inl there) = before other there
      by before other (inr here) = subst (IsWithin all) (Contains-one one other here) within

  pub AddsWritten-same : (old new : List Written) (one other : List WrittenType) → one ≡ other → AddsWritten all old new one → AddsWritten all old new other
  AddsWritten-same old new one other same so = subst (AddsWritten all old new) same so

  -- the types of one port more
  pub AddsWritten-port : (space : List (List ℕ)) (ports : List AstPort) (i : ℕ) (port : AstPort) (old mid new : List Written) (one : Written) → i < length ports → port ≡ get_or ports i port
      → new ≡ mid ++ one ∷ [] → IsWithin all one → written_type all one ∷ [] ≡ port_types all space (port ∷ [])
      → AddsWritten all old mid (port_types all space (take i ports)) → AddsWritten all old new (port_types all space (take (i + 1) ports))
  AddsWritten-port space ports i port old mid new one within is pushes inside same so =
      AddsWritten-same old new (port_types all space (take i ports) ++ written_type all one ∷ []) (port_types all space (take (i + 1) ports)) (sym grown)
      (AddsWritten-then old mid new (port_types all space (take i ports)) (written_type all one ∷ []) so (AddsWritten-push mid new one pushes inside))
    where
      splits : (front back : List AstPort) → port_types all space (front ++ back) ≡ port_types all space front ++ port_types all space back
      splits [] back = refl
      splits (first ∷ more) back = ap (λ (l : List WrittenType). port_types all space (first ∷ []) ++ l) (splits more back)

      grown : port_types all space (take (i + 1) ports) ≡ port_types all space (take i ports) ++ written_type all one ∷ []
      grown = ap (port_types all space) (take_more ports i port within ∙ ap (λ (p : AstPort). take i ports ++ p ∷ []) (sym is))
          ∙ splits (take i ports) (port ∷ []) ∙ ap (λ (l : List WrittenType). port_types all space (take i ports) ++ l) (sym same)

  -- the types of one declaration more
  pub AddsWritten-declaration : (i : ℕ) (mid new : List Written) → i < length all → AddsWritten all [] mid (flat_map (types_in all) (take i all))
      → AddsWritten all mid new (types_in all (declaration all i)) → AddsWritten all [] new (flat_map (types_in all) (take (i + 1) all))
  AddsWritten-declaration i mid new within so here =
      AddsWritten-same [] new (flat_map (types_in all) (take i all) ++ types_in all (declaration all i)) (flat_map (types_in all) (take (i + 1) all)) (sym grown)
      (AddsWritten-then [] mid new (flat_map (types_in all) (take i all)) (types_in all (declaration all i)) so here)
    where
      grown : flat_map (types_in all) (take (i + 1) all) ≡ flat_map (types_in all) (take i all) ++ types_in all (declaration all i)
      grown = ap (flat_map (types_in all)) (take_more all i (declaration [] 0) within) ∙ flat_map-append (types_in all) (take i all) (declaration all i ∷ [])
          ∙ ap (λ (l : List WrittenType). flat_map (types_in all) (take i all) ++ l) (append_nil (types_in all (declaration all i)))

  -- all of them
  pub AreWritten-all : (i : ℕ) (written : List Written) → length all ≤ i → AddsWritten all [] written (flat_map (types_in all) (take i all)) → AreWritten all written
  AreWritten-all i written done so = record {
    types = so.types ∙ ap (flat_map (types_in all)) (take_all i all done);
    within = so.within (λ one there. absurd (Contains-nil one there));
  }

-- ---- the types of one declaration

pub types-declared : (all : List Declaration) (number : ℕ) (ltype : AstType) → (declaration all number).kind ≡ decls.Alias ltype
    → written_type all (Declared number) ∷ [] ≡ types_in all (declaration all number)
types-declared all number ltype is =
    let d = declaration all number in
    ap (λ (t : Ltype). record { place = d.name.place; ltype = t; in_port = false } ∷ []) (declared-is all (length all) number ltype is)
    ∙ ap (λ (kind : AstKind). types_of_kind all d.space d.name kind) (sym is)

pub types-ports : (all : List Declaration) (space : List (List ℕ)) (name : AstName) (kind : AstKind) → is_type_kind kind ≡ false
    → port_types all space (own_ports kind) ≡ types_of_kind all space name kind
types-ports all space name (decls.Alias ltype) is = cc
types-ports all space name (decls.Interface listed) is = refl
types-ports all space name (decls.Streamlet (ports.Own listed)) is = refl
types-ports all space name (decls.Streamlet (ports.Named path)) is = refl
types-ports all space name (decls.Impl target body) is = refl
types-ports all space name (decls.Test target port value plan) is = refl
