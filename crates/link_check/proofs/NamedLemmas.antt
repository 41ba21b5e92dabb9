-- Things by their names: the first of a list that grows, and the plain data of a port that was found.
use Rattle.std.proofs.Common.{◌≡◌, ℕ, zero, suc, add-one, arith, ◌+◌, ◌<◌, Bool, true, false, cond, ◌&&◌, nat_eq, List, [], ◌∷◌, ◌++◌, map, length, get_or}
use Rattle.std.proofs.Common.{take, Option, Some, None, option_and_then, option_copied, option_map, refl, sym, ap, ◌∙◌}
use Rattle.std.specs.Borrow.{Bor}
use Rattle.std.specs.List.{find, slice_get}
use Rattle.std.specs.Option.{option_or}
use Rattle.std.specs.Str.{bytes_eq}
use Rattle.std.proofs.lemmas.Bool.{eqb-true, eq-eqb}
use Rattle.std.proofs.lemmas.List.{take_more}
use Rattle.std.proofs.lemmas.List.Folds.{find-append}
use Rattle.std.proofs.lemmas.Option.{slice_get-map}
use Rattle.til_resolve.specs.PlainProject.{PlainPort, plain_port, plain_streamlet}
use Rattle.til_resolve.specs.declared.project.Port.{Port}
use Rattle.til_resolve.specs.declared.project.Streamlet.{Streamlet}
use Rattle.link_check.proofs.TestLemmas.{clash}
use Rattle.link_check.specs.Ends.{ports_found, ports_at, port_named}
use Rattle.link_check.specs.CarryLaws.{port_at}
use Rattle.link_check.specs.Chains.{streamlet_under}
use Rattle.link_check.specs.Steps.{inward_at}
use Rattle.link_check.specs.declared.leaf.LeafPort.{LeafPort}
use Rattle.til_resolve.specs.Ordered.{Key}
use Rattle.link_check.specs.Tables.{lent_port, port_in, ports_there, port_at_home}

-- ---- the first of a list that grows

-- the first of a list so far, with one thing more
pub find-more : {A : Type 0} (test : A → Bool) (xs : List A) (i : ℕ) (x : A) → i < length xs → x ≡ get_or xs i x
    → find test (take (i + 1) xs) ≡ option_or (find test (take i xs)) (cond (test x) (Some x) None)
find-more test xs i x within is = ap (find test) (take_more xs i x within) ∙ ap (λ y. find test (take i xs ++ y ∷ [])) (sym is) ∙ find-append test (take i xs) (x ∷ [])

pub mapped-or : {A B : Type 0} (change : A → B) (one other : Option A) → option_map change (option_or one other) ≡ option_or (option_map change one) (option_map change other)
mapped-or change None other = refl
mapped-or change (Some one) other = refl

pub mapped-if : {A B : Type 0} (change : A → B) (test : Bool) (one : A) → option_map change (cond test (Some one) None) ≡ cond test (Some (change one)) None
mapped-if change true one = refl
mapped-if change false one = refl

-- one thing more in a table
pub lent-more : {A : Type 0} (found before : Option (Bor A)) (test : Bool) (one : Bor A) → found ≡ option_or before (cond test (Some one) None)
    → option_map (λ (x : Bor A). x.now) found ≡ option_or (option_map (λ (x : Bor A). x.now) before) (cond test (Some one.now) None)
lent-more {A} found before test one is = ap (option_map (λ (x : Bor A). x.now)) is ∙ mapped-or (λ (x : Bor A). x.now) before (cond test (Some one) None)
    ∙ ap (option_or (option_map (λ (x : Bor A). x.now) before)) (mapped-if (λ (x : Bor A). x.now) test one)

-- ---- plain data

find-plain : (name : List ℕ) (ports : List Port)
    → find (λ (port : PlainPort). bytes_eq port.name name) (map plain_port ports) ≡ option_map plain_port (find (λ (port : Port). bytes_eq port.name name) ports)
find-plain name [] = refl
find-plain name (port ∷ more) = by (bytes_eq port.name name) (find-plain name more)
  where
    by : (b : Bool) → find (λ (port : PlainPort). bytes_eq port.name name) (map plain_port more) ≡ option_map plain_port (find (λ (port : Port). bytes_eq port.name name) more)
        → cond b (Some (plain_port port)) (find (λ (port : PlainPort). bytes_eq port.name name) (map plain_port more))
        ≡ option_map plain_port (cond b (Some port) (find (λ (port : Port). bytes_eq port.name name) more))
    by true rest = refl
    by false rest = rest

ports-plain : (found : Option Streamlet) → ports_found (option_map plain_streamlet found) ≡ map plain_port (ports_there found)
ports-plain None = refl
ports-plain (Some streamlet) = refl

pub ports_at-plain : (streamlets : List Streamlet) (home : ℕ) → ports_at (map plain_streamlet streamlets) home ≡ map plain_port (ports_there (slice_get streamlets home))
ports_at-plain streamlets home = ap ports_found (slice_get-map plain_streamlet streamlets home) ∙ ports-plain (slice_get streamlets home)

-- the plain data of the port of a name
pub port_named-plain : (streamlets : List Streamlet) (home : ℕ) (name : List ℕ)
    → port_named (ports_at (map plain_streamlet streamlets) home) name ≡ option_map plain_port (port_in (ports_there (slice_get streamlets home)) name)
port_named-plain streamlets home name = ap (λ (ports : List PlainPort). port_named ports name) (ports_at-plain streamlets home) ∙ find-plain name (ports_there (slice_get streamlets home))

-- and of one that was found by name
pub side-found : (streamlets : List Streamlet) (home : ℕ) (name : List ℕ) (found : Option (Bor Port)) → lent_port found ≡ port_in (ports_there (slice_get streamlets home)) name
    → port_named (ports_at (map plain_streamlet streamlets) home) name ≡ option_map (λ (port : Bor Port). plain_port port.now) found
side-found streamlets home name found is = port_named-plain streamlets home name ∙ ap (option_map plain_port) (sym is) ∙ twice found
  where
    twice : (found : Option (Bor Port)) → option_map plain_port (lent_port found) ≡ option_map (λ (port : Bor Port). plain_port port.now) found
    twice None = refl
    twice (Some port) = refl

-- the direction of a port that was found by name
pub inward-found : (streamlets : List Streamlet) (number : ℕ) (name : List ℕ) (ports : List Port) (found : Option (Bor Port)) → ports ≡ ports_there (slice_get streamlets number) → option_copied found ≡ port_in ports name
    → option_map (λ (port : Bor Port). port.now.inward) found ≡ inward_at (map plain_streamlet streamlets) number name
inward-found streamlets number name ports found those is =
    twice found ∙ sym (ap (option_map (λ (port : PlainPort). port.inward)) (side-found streamlets number name found (lent found ∙ is ∙ ap (λ (l : List Port). port_in l name) those)))
  where
    lent : (o : Option (Bor Port)) → lent_port o ≡ option_copied o
    lent None = refl
    lent (Some port) = refl

    twice : (o : Option (Bor Port)) → option_map (λ (port : Bor Port). port.now.inward) o ≡ option_map (λ (port : PlainPort). port.inward) (option_map (λ (port : Bor Port). plain_port port.now) o)
    twice None = refl
    twice (Some port) = refl

-- the port at a leaf port, by the number of its streamlet and its name
pub port-at-found : (streamlets lent : List Streamlet) (leaf : LeafPort) (names : List (List ℕ)) (under : Option ℕ) (number : ℕ) (ports : List Port)
    (found : Option (Bor Port)) → lent ≡ streamlets
    → names ≡ leaf.instances → under ≡ streamlet_under (map plain_streamlet lent) leaf.top names → under ≡ Some number
    → ports ≡ ports_there (slice_get lent number) → option_copied found ≡ port_in ports leaf.port
    → option_map plain_port (option_copied found) ≡ port_at (map plain_streamlet streamlets) leaf
port-at-found streamlets lent leaf names under number ports found all inner is some those named =
    ap (option_map plain_port) (named ∙ ap (λ (l : List Port). port_in l leaf.port) (those ∙ ap (λ (l : List Streamlet). ports_there (slice_get l number)) all))
    ∙ sym (port_named-plain streamlets number leaf.port)
    ∙ sym (ap (option_and_then (λ n. port_named (ports_at (map plain_streamlet streamlets) n) leaf.port)) at)
  where
    at : streamlet_under (map plain_streamlet streamlets) leaf.top leaf.instances ≡ Some number
    at = ap (λ (l : List (List ℕ)). streamlet_under (map plain_streamlet streamlets) leaf.top l) (sym inner)
        ∙ ap (λ (l : List Streamlet). streamlet_under (map plain_streamlet l) leaf.top names) (sym all) ∙ sym is ∙ some

-- ---- ports in tables

or-assoc : {A : Type 0} (one other last : Option A) → option_or (option_or one other) last ≡ option_or one (option_or other last)
or-assoc None other last = refl
or-assoc (Some one) other last = refl

-- one port more of a streamlet
pub home-more : (before : Option Port) (ports : List Port) (i : ℕ) (port : Port) (home : ℕ) (key : Key) → i < length ports → port ≡ get_or ports i port
    → option_or (option_or before (port_at_home (take i ports) home key)) (cond (nat_eq home key.0 && bytes_eq port.name key.1) (Some port) None)
    ≡ option_or before (port_at_home (take (i + 1) ports) home key)
home-more before ports i port home key within is = or-assoc before (port_at_home (take i ports) home key) _ ∙ ap (option_or before) (by (nat_eq home key.0))
  where
    by : (b : Bool) → option_or (cond b (port_in (take i ports) key.1) None) (cond (b && bytes_eq port.name key.1) (Some port) None) ≡ cond b (port_in (take (i + 1) ports) key.1) None
    by true = sym (find-more (λ (p : Port). bytes_eq p.name key.1) ports i port within is)
    by false = refl

-- ---- one streamlet more

at-same : {A : Type 0} (xs : List A) (n : ℕ) (x : A) → n < length xs → x ≡ get_or xs n x → slice_get (take (suc n) xs) n ≡ Some x
at-same [] n x within is = absurd (omega (arith, within))
at-same (y ∷ xs) zero x within is = ap (λ z. Some z) (sym is)
at-same (y ∷ xs) (suc n) x within is = at-same xs n x (omega (arith, within)) is

at-none : {A : Type 0} (xs : List A) (n : ℕ) → slice_get (take n xs) n ≡ None
at-none [] zero = refl
at-none [] (suc n) = refl
at-none (y ∷ xs) zero = refl
at-none (y ∷ xs) (suc n) = at-none xs n

at-other : {A : Type 0} (xs : List A) (n k : ℕ) → (n ≡ k → ⊥) → slice_get (take (suc n) xs) k ≡ slice_get (take n xs) k
at-other [] zero k apart = refl
at-other [] (suc n) k apart = refl
at-other (y ∷ xs) zero zero apart = absurd (apart refl)
at-other (y ∷ xs) zero (suc k) apart = refl
at-other (y ∷ xs) (suc n) zero apart = refl
at-other (y ∷ xs) (suc n) (suc k) apart = at-other xs n k (λ e. apart (ap (λ (m : ℕ). suc m) e))

pub streamlets-more : (streamlets : List Streamlet) (home : ℕ) (one : Streamlet) (key : Key) → home < length streamlets → one ≡ get_or streamlets home one
    → option_or (port_in (ports_there (slice_get (take home streamlets) key.0)) key.1) (port_at_home one.ports home key)
    ≡ port_in (ports_there (slice_get (take (home + 1) streamlets) key.0)) key.1
streamlets-more streamlets home one key within is = by (nat_eq home key.0) refl ∙ ap (λ n. found (slice_get (take n streamlets) key.0)) (sym (add-one home))
  where
    found : Option Streamlet → Option Port
    found there = port_in (ports_there there) key.1

    or-none : (one : Option Port) → option_or one None ≡ one
    or-none None = refl
    or-none (Some port) = refl

    by : (b : Bool) → nat_eq home key.0 ≡ b
        → option_or (port_in (ports_there (slice_get (take home streamlets) key.0)) key.1) (cond b (port_in one.ports key.1) None) ≡ port_in (ports_there (slice_get (take (suc home) streamlets) key.0)) key.1
    by true same =
        let at : home ≡ key.0 = eqb-true home key.0 same in
        ap (λ (there : Option Streamlet). option_or (port_in (ports_there there) key.1) (port_in one.ports key.1))
        (ap (λ n. slice_get (take home streamlets) n) (sym at) ∙ at-none streamlets home)
        ∙ sym (ap (λ (there : Option Streamlet). port_in (ports_there there) key.1) (ap (λ n. slice_get (take (suc home) streamlets) n) (sym at) ∙ at-same streamlets home one within is))
    by false apart =
        or-none _ ∙ sym (ap (λ (there : Option Streamlet). port_in (ports_there there) key.1)
        (at-other streamlets home key.0 (λ e. clash (sym apart ∙ eq-eqb home key.0 e))))

-- the ports of the streamlet at a number
pub ports_at-is : (streamlets : List Streamlet) (number : ℕ) (one : Streamlet) → number < length streamlets → one ≡ get_or streamlets number one
    → ports_at (map plain_streamlet streamlets) number ≡ map plain_port one.ports
ports_at-is streamlets number one within is = ports_at-plain streamlets number ∙ ap (λ (there : Option Streamlet). map plain_port (ports_there there)) (at-whole streamlets number one within is)
  where
    at-whole : (xs : List Streamlet) (n : ℕ) (x : Streamlet) → n < length xs → x ≡ get_or xs n x → slice_get xs n ≡ Some x
    at-whole [] n x within is = absurd (omega (arith, within))
    at-whole (y ∷ xs) zero x within is = ap (λ z. Some z) (sym is)
    at-whole (y ∷ xs) (suc n) x within is = at-whole xs n x (omega (arith, within)) is
