-- The result of a look-up, by the names at the end of a path.
use Rattle.std.proofs.Common.{◌≡◌, ℕ, ◌+◌, ◌-◌, ◌<◌, ◌≤◌, Bool, true, false, not, cond, ◌&&◌, List, [], ◌∷◌, ◌++◌, length, get_or, take, drop, Option, None, Some, refl, sym, ap, ◌∙◌, arith}
use Rattle.std.specs.List.{find}
use Rattle.std.specs.Str.{bytes_eq}
use Rattle.std.proofs.lemmas.List.{take_more, take_all, drop_more}
use Rattle.til_resolve.specs.declared.project.Streamlet.{Streamlet}
use Rattle.til_resolve.specs.Paths.{is_same_path}
use Rattle.til_resolve.specs.Lookups.{port_path, port_in, or_else, port_at}
use Rattle.til_resolve.proofs.PathLemmas.{is_same_path-none, is_same_path-ends}

find-none : {X : Type 0} (test : X → Bool) (xs : List X) → ((x : X) → test x ≡ false) → find test xs ≡ None
find-none test [] never = refl
find-none test (x ∷ xs) never = ap (λ b. cond b (Some x) (find test xs)) (never x) ∙ find-none test xs never

find-same : {X : Type 0} (test other : X → Bool) (xs : List X) → ((x : X) → test x ≡ other x) → find test xs ≡ find other xs
find-same test other [] same = refl
find-same {X = X} test other (x ∷ xs) same = ap (λ b. cond b (Some x) (find test xs)) (same x) ∙ ap (λ (o : Option X). cond (other x) (Some x) o) (find-same test other xs same)

-- a list with an element at its end
pub ends : {X : Type 0} (xs : List X) (last : X) → 1 ≤ length xs → last ≡ get_or xs (length xs - 1) last → xs ≡ take (length xs - 1) xs ++ last ∷ []
ends {X} xs last some is =
    let whole : length xs - 1 + 1 ≡ length xs = omega arith in
    sym (take_all (length xs) xs (omega arith)) ∙ ap (λ (n : ℕ). take n xs) (sym whole) ∙ take_more xs (length xs - 1) last (omega arith)
    ∙ ap (λ (x : X). take (length xs - 1) xs ++ x ∷ []) (sym is)

pub empty_from : {X : Type 0} (xs : List X) → length xs < 1 → xs ≡ []
empty_from [] none = refl
empty_from (x ∷ xs) none = absurd (omega arith)

-- no port has the empty path
pub port_in-none : (one : Streamlet) (path names : List (List ℕ)) → names ≡ path → length names < 1 → None ≡ port_in one path
port_in-none one path names same none =
    let empty : path ≡ [] = sym same ∙ empty_from names none in
    sym (ap (port_in one) empty ∙ find-none (λ port. is_same_path (port_path one port) []) one.ports (λ port. is_same_path-none one.path port.name))

-- a port by the names before its own, and by its own
port_in-ends : (one : Streamlet) (front : List (List ℕ)) (last : List ℕ) → port_in one (front ++ last ∷ []) ≡ find (λ port. is_same_path one.path front && bytes_eq port.name last) one.ports
port_in-ends one front last = find-same (λ port. is_same_path (port_path one port) (front ++ last ∷ [])) (λ port. is_same_path one.path front && bytes_eq port.name last) one.ports
    (λ port. is_same_path-ends one.path front port.name last)

-- the names before are not those of the streamlet
pub port_in-apart : (one : Streamlet) (path names : List (List ℕ)) (last : List ℕ) → names ≡ path → 1 ≤ length names → last ≡ get_or names (length names - 1) last
    → is_same_path one.path (take (length names - 1) names) ≡ false → None ≡ port_in one path
port_in-apart one path names last same some is apart =
    let front = take (length names - 1) names in
    sym (ap (port_in one) (sym same ∙ ends names last some is) ∙ port_in-ends one front last
    ∙ find-none (λ port. is_same_path one.path front && bytes_eq port.name last) one.ports (λ port. ap (λ b. b && bytes_eq port.name last) apart))

-- the names before are those of the streamlet
pub port_in-named : (one : Streamlet) (path names : List (List ℕ)) (last : List ℕ) → names ≡ path → 1 ≤ length names → last ≡ get_or names (length names - 1) last
    → is_same_path one.path (take (length names - 1) names) ≡ true → find (λ port. bytes_eq port.name last) one.ports ≡ port_in one path
port_in-named one path names last same some is here =
    let front = take (length names - 1) names in
    sym (ap (port_in one) (sym same ∙ ends names last some is) ∙ port_in-ends one front last
    ∙ find-same (λ port. is_same_path one.path front && bytes_eq port.name last) (λ port. bytes_eq port.name last) one.ports (λ port. ap (λ b. b && bytes_eq port.name last) here))

pub not_true : (b : Bool) → true ≡ not b → b ≡ false
not_true true e = cc
not_true false e = refl

pub not_false : (b : Bool) → false ≡ not b → b ≡ true
not_false true e = refl
not_false false e = cc

-- ---- over all streamlets

-- the port of the streamlets from an index on
pub port_at-at : (all : List Streamlet) (at : ℕ) (one : Streamlet) (path : List (List ℕ)) → at < length all → one ≡ get_or all at one
    → port_at (drop at all) path ≡ or_else (port_in one path) (port_at (drop (at + 1) all) path)
port_at-at all at one path within is = ap (λ some. port_at some path) (drop_more all at one within ∙ ap (λ (x : Streamlet). x ∷ drop (at + 1) all) (sym is))
