-- Where no port has two physical streams of one path, the streams of each have paths apart.
use Rattle.std.proofs.Common.{◌≡◌, ℕ, ◌⊎◌, inl, inr, Bool, true, false, cond, ◌&&◌, ◌||◌, List, [], ◌∷◌, Option, Some, None, Contains, bytes_eq, refl, sym, ap, ◌∙◌, subst, if◌then◌else◌}
use Rattle.std.specs.Cmp.Lexicographic.{pointwise}
use Rattle.std.specs.List.{list_any}
use Rattle.std.specs.Option.{option_or}
use Rattle.std.proofs.lemmas.Slice.Eq.{bytes_eq-Decides}
use Rattle.type_split.specs.Streams.{clash_from, clash_of, is_same_path, streams_of}
use Rattle.type_split.specs.declared.split.Phys.{Phys}
use Rattle.til_resolve.specs.PlainProject.{PlainPort, PlainStreamlet}
use Rattle.link_check.proofs.NetLemmas.{Contains-cons, Contains-none}
use Rattle.vhdl_writer.specs.Clashes.{clash_in, first_clash}
use Rattle.vhdl_writer.proofs.ApartLemmas.{AreApart, Contains-first, Contains-later}

same-itself : (path : List (List ℕ)) → is_same_path path path ≡ true
same-itself [] = refl
same-itself (name ∷ names) = by (bytes_eq name name) ((bytes_eq-Decides name name).1 refl) (same-itself names)
  where
    by : (b : Bool) → b ≡ true → is_same_path names names ≡ true → (b && is_same_path names names) ≡ true
    by true is rest = rest
    by false is rest = absurd cc

any-of : {A : Type 0} (test : A → Bool) (xs : List A) (x : A) → Contains xs x → test x ≡ true → list_any test xs ≡ true
any-of test [] x there is = absurd (Contains-none x there)
any-of {A} test (y ∷ xs) x there is = by (Contains-cons y xs x there) (any-of test xs x)
  where
    first : (b : Bool) → b ≡ true → (b || list_any test xs) ≡ true
    first true e = refl
    first false e = absurd cc

    second : (b : Bool) → list_any test xs ≡ true → (b || list_any test xs) ≡ true
    second true e = refl
    second false e = e

    by : (y ≡ x) ⊎ Contains xs x → (Contains xs x → test x ≡ true → list_any test xs ≡ true) → (test y || list_any test xs) ≡ true
    by (inl same) rest = first (test y) (ap test same ∙ is)
    by (inr later) rest = second (test y) (rest later is)

-- no stream has a path of these, and their paths are apart
record ArePathsApart (before : List (List (List ℕ))) (streams : List Phys) : Type 0 where
  fresh : (one : Phys) → Contains streams one → Contains before one.path → ⊥
  apart : AreApart (λ (one : Phys). one.path) streams

no-clash : (before : List (List (List ℕ))) (streams : List Phys) → clash_from before streams ≡ None → ArePathsApart before streams
no-clash before [] none = record { fresh = λ one there old. Contains-none one there; apart = tt }
no-clash before (one ∷ more) none = by (list_any (is_same_path one.path) before) refl none (no-clash (one.path ∷ before) more)
  where
    new : list_any (is_same_path one.path) before ≡ false → Contains before one.path → ⊥
    new none old = let some : list_any (is_same_path one.path) before ≡ true = any-of (is_same_path one.path) before one.path old (same-itself one.path) in
        let clash : true ≡ false = sym some ∙ none in absurd cc

    fresh-in : list_any (is_same_path one.path) before ≡ false → ArePathsApart (one.path ∷ before) more → (other : Phys) → (one ≡ other) ⊎ Contains more other → Contains before other.path → ⊥
    fresh-in known rest other (inl same) old = new known (subst (λ (stream : Phys). Contains before stream.path) (sym same) old)
    fresh-in known rest other (inr later) old = rest.fresh other later (Contains-later one.path before other.path old)

    by : (known : Bool) → list_any (is_same_path one.path) before ≡ known → (if known then Some one.path else clash_from (one.path ∷ before) more) ≡ None
        → (clash_from (one.path ∷ before) more ≡ None → ArePathsApart (one.path ∷ before) more) → ArePathsApart before (one ∷ more)
    by true known none later = absurd cc
    by false known none later =
        let rest = later none in
        record {
          fresh = λ other there old. fresh-in known rest other (Contains-cons one more other there) old;
          apart = (
            λ other there same. rest.fresh other there (subst (λ (path : List (List ℕ)). Contains (one.path ∷ before) path) same (Contains-first one.path before)),
            rest.apart,
          );
        }

-- ---- the ports of a project

neither-clashes : (one other : Option (List (List ℕ))) → option_or one other ≡ None → (one ≡ None) × (other ≡ None)
neither-clashes None other none = (refl, none)
neither-clashes (Some path) other none = absurd cc

port-apart : (ports : List PlainPort) (port : PlainPort) → clash_in ports ≡ None → Contains ports port → clash_of port.ltype ≡ None
port-apart [] port none there = absurd (Contains-none port there)
port-apart (first ∷ more) port none there = by (Contains-cons first more port there) (port-apart more port)
  where
    parts : (clash_of first.ltype ≡ None) × (clash_in more ≡ None)
    parts = neither-clashes (clash_of first.ltype) (clash_in more) none

    by : (first ≡ port) ⊎ Contains more port → (clash_in more ≡ None → Contains more port → clash_of port.ltype ≡ None) → clash_of port.ltype ≡ None
    by (inl same) rest = subst (λ (one : PlainPort). clash_of one.ltype ≡ None) same parts.0
    by (inr later) rest = rest parts.1 later

streamlet-apart : (streamlets : List PlainStreamlet) (one : PlainStreamlet) → first_clash streamlets ≡ None → Contains streamlets one → clash_in one.ports ≡ None
streamlet-apart [] one none there = absurd (Contains-none one there)
streamlet-apart (first ∷ more) one none there = by (Contains-cons first more one there) (streamlet-apart more one)
  where
    parts : (clash_in first.ports ≡ None) × (first_clash more ≡ None)
    parts = neither-clashes (clash_in first.ports) (first_clash more) none

    by : (first ≡ one) ⊎ Contains more one → (first_clash more ≡ None → Contains more one → clash_in one.ports ≡ None) → clash_in one.ports ≡ None
    by (inl same) rest = subst (λ (streamlet : PlainStreamlet). clash_in streamlet.ports ≡ None) same parts.0
    by (inr later) rest = rest parts.1 later

pub paths-apart : (streamlets : List PlainStreamlet) (one : PlainStreamlet) (port : PlainPort) → first_clash streamlets ≡ None → Contains streamlets one → Contains one.ports port
    → AreApart (λ (stream : Phys). stream.path) (streams_of port.ltype)
paths-apart streamlets one port none there inside = (no-clash [] (streams_of port.ltype) (port-apart one.ports port (streamlet-apart streamlets one none there) inside)).apart
