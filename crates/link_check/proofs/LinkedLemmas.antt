-- Links one after another, and the ends that stand in them.
use Rattle.std.proofs.Common.{◌≡◌, ℕ, ◌+◌, ◌<◌, ◌≤◌, Bool, true, false, ◌&&◌, ◌||◌, List, [], ◌∷◌, ◌++◌, map, length, get_or, take, drop, Option, Some, None, Result, Ok, Err, refl, sym, ap, ◌∙◌, subst}
use Rattle.std.specs.List.{list_all, flat_map, slice_get}
use Rattle.std.specs.Option.{option_or}
use Rattle.std.specs.Result.{IsErrAnd}
use Rattle.std.proofs.lemmas.List.{take_more, drop_more, drop_all}
use Rattle.std.proofs.lemmas.List.Concat.{flat_map-cons}
use Rattle.std.proofs.lemmas.List.Folds.{list_any-append, list_all-append}
use Rattle.til_resolve.specs.PlainProject.{PlainPort, PlainStreamlet, plain_port, plain_streamlet}
use Rattle.til_resolve.specs.declared.project.Instance.{Instance}
use Rattle.til_resolve.specs.declared.project.Port.{Port}
use Rattle.til_resolve.specs.declared.project.Streamlet.{Streamlet}
use Rattle.til_resolve.specs.declared.project.Link.{Link}
use Rattle.til_resolve.specs.declared.project.LinkEnd.{LinkEnd}
use Rattle.link_check.specs.Ends.{Inside, side_of, is_same_end, own_end, ends_of, ends_of_instance, ports_at}
use Rattle.link_check.specs.Linked.{EndKey, AreLinked, AddsLink, Sees, end_of_key, instance_linked}
use Rattle.link_check.specs.Linking.{IsTold, Judges}
use Rattle.link_check.specs.Links.{is_linked, net_of, fault_of_sides, fault_of_link, fault_of_links}
use Rattle.link_check.specs.declared.fault.LinkFault.{LinkFault}
use Rattle.link_check.specs.declared.fault.LinkFault.TheVariants as faults
use Rattle.link_check.specs.Tables.{ports_there}
use Rattle.link_check.specs.declared.nets.Net.{Net}
use Rattle.link_check.proofs.NamedLemmas.{ports_at-plain}
use Rattle.link_check.proofs.TestLemmas.{clash}

-- ---- a test of all of a list

pub all-step : {A : Type 0} (test : A → Bool) (xs : List A) (i : ℕ) (x : A) (all : Bool) → i < length xs → x ≡ get_or xs i x → test x ≡ true
    → list_all test (drop i xs) ≡ all → list_all test (drop (i + 1) xs) ≡ all
all-step test xs i x all within is holds rest =
    ap (λ b. b && list_all test (drop (i + 1) xs)) (sym holds)
    ∙ ap (list_all test) (sym (drop_more xs i x within ∙ ap (λ y. y ∷ drop (i + 1) xs) (sym is))) ∙ rest

pub all-fails : {A : Type 0} (test : A → Bool) (xs : List A) (i : ℕ) (x : A) (all : Bool) → i < length xs → x ≡ get_or xs i x → test x ≡ false
    → list_all test (drop i xs) ≡ all → false ≡ all
all-fails test xs i x all within is fails rest =
    ap (λ b. b && list_all test (drop (i + 1) xs)) (sym fails)
    ∙ ap (list_all test) (sym (drop_more xs i x within ∙ ap (λ y. y ∷ drop (i + 1) xs) (sym is))) ∙ rest

pub all-none : {A : Type 0} (test : A → Bool) (xs : List A) (i : ℕ) (all : Bool) → length xs ≤ i → list_all test (drop i xs) ≡ all → true ≡ all
all-none test xs i all done rest = ap (list_all test) (sym (drop_all i xs done)) ∙ rest

-- ---- faults

pub IsTold-first : (one other : Option LinkFault) (fault : LinkFault) → IsTold one fault → IsTold (option_or one other) fault
IsTold-first one other (faults.UnknownEnd place) is = ap (λ o. option_or o other) is
IsTold-first one other (faults.SameSide place) is = ap (λ o. option_or o other) is
IsTold-first one other (faults.NotCompatible place difference) is = ap (λ o. option_or o other) is
IsTold-first one other (faults.LinkedTwice place) is = ap (λ o. option_or o other) is
IsTold-first one other (faults.Unlinked place) is = ap (λ o. option_or o other) is
IsTold-first one other faults.DesignTooLarge is = is
IsTold-first one other faults.Memory is = tt

-- ---- one link more

module _ (streamlets : List PlainStreamlet) (inside : Inside) (links : List Link) where
  first-is : (i : ℕ) (link : Link) → i < length links → link ≡ get_or links i link → drop i links ≡ link ∷ drop (i + 1) links
  first-is i link within is = drop_more links i link within ∙ ap (λ l. l ∷ drop (i + 1) links) (sym is)

  so_far-is : (i : ℕ) (link : Link) → i < length links → link ≡ get_or links i link → take (i + 1) links ≡ take i links ++ link ∷ []
  so_far-is i link within is = take_more links i link within ∙ ap (λ l. take i links ++ l ∷ []) (sym is)

  -- a link with a fault is the first with one
  pub linked-fault : (i : ℕ) (link : Link) (nets : List Net) (has : EndKey → Bool) (fault : LinkFault) → i < length links → link ≡ get_or links i link
      → AreLinked streamlets inside links (take i links) (drop i links) nets has
      → IsTold (fault_of_link streamlets inside (take i links) link) fault → IsTold (fault_of_links streamlets inside [] links) fault
  linked-fault i link nets has fault within is are told =
      subst (λ first. IsTold first fault)
      (ap (fault_of_links streamlets inside (take i links)) (sym (first-is i link within is)) ∙ are.faults)
      (IsTold-first (fault_of_link streamlets inside (take i links) link) (fault_of_links streamlets inside (take i links ++ link ∷ []) (drop (i + 1) links)) fault told)

  -- a link without one is among those so far from then on
  pub linked-more : (i : ℕ) (link : Link) (old new : List Net) (has has_new : EndKey → Bool) → i < length links → link ≡ get_or links i link
      → AreLinked streamlets inside links (take i links) (drop i links) old has
      → fault_of_link streamlets inside (take i links) link ≡ None → AddsLink streamlets inside (take i links) link old new has_new
      → AreLinked streamlets inside links (take (i + 1) links) (drop (i + 1) links) new has_new
  linked-more i link old new has has_new within is are none adds =
      let more = so_far-is i link within is in
      record {
        faults = ap (λ (so_far : List Link). fault_of_links streamlets inside so_far (drop (i + 1) links)) more
            ∙ ap (λ o. option_or o (fault_of_links streamlets inside (take i links ++ link ∷ []) (drop (i + 1) links))) (sym none)
            ∙ ap (fault_of_links streamlets inside (take i links)) (sym (first-is i link within is)) ∙ are.faults;
        nets_are = adds.nets_are ∙ ap (λ (nets : List Net). nets ++ net_of streamlets inside link ∷ []) are.nets_are
            ∙ sym (mapped (take i links)) ∙ ap (map (net_of streamlets inside)) (sym more);
        seen = subst (Sees has_new) (sym more) adds.seen;
      }
    where
      mapped : (so_far : List Link) → map (net_of streamlets inside) (so_far ++ link ∷ []) ≡ map (net_of streamlets inside) so_far ++ net_of streamlets inside link ∷ []
      mapped [] = refl
      mapped (first ∷ more) = ap (λ (nets : List Net). net_of streamlets inside first ∷ nets) (mapped more)

-- the ends of one link more
pub sees-more : (old middle new : EndKey → Bool) (earlier : List Link) (link : Link) → Sees old earlier
    → ((key : EndKey) → middle key ≡ (old key || is_same_end link.first (end_of_key key)))
    → ((key : EndKey) → new key ≡ (middle key || is_same_end link.second (end_of_key key)))
    → Sees new (earlier ++ link ∷ [])
sees-more old middle new earlier link sees first second = λ key.
    second key ∙ ap (λ b. b || is_same_end link.second (end_of_key key)) (first key ∙ ap (λ b. b || is_same_end link.first (end_of_key key)) (sees key))
    ∙ three (is_linked earlier (end_of_key key)) (is_same_end link.first (end_of_key key)) (is_same_end link.second (end_of_key key))
    ∙ sym (list_any-append (λ (l : Link). is_same_end l.first (end_of_key key) || is_same_end l.second (end_of_key key)) earlier (link ∷ []))
  where
    three : (a b c : Bool) → ((a || b) || c) ≡ (a || ((b || c) || false))
    three true b c = refl
    three false true c = refl
    three false false true = refl
    three false false false = refl

-- a link has the same fault, whether its ends stand in earlier links was asked of a set or of the links
pub linked-either : (streamlets : List PlainStreamlet) (inside : Inside) (earlier : List Link) (link : Link) (one other : Bool)
    → one ≡ is_linked earlier link.first → other ≡ is_linked earlier link.second
    → fault_of_link streamlets inside earlier link ≡ fault_of_sides link.place (side_of streamlets inside link.first) (side_of streamlets inside link.second) (one || other)
linked-either streamlets inside earlier link one other first second =
    ap (fault_of_sides link.place (side_of streamlets inside link.first) (side_of streamlets inside link.second))
    (sym (ap (λ b. b || other) first ∙ ap (λ b. is_linked earlier link.first || b) second))

-- ---- all ends

list_all-flat_map : {A B : Type 0} (test : B → Bool) (f : A → List B) (xs : List A) → list_all test (flat_map f xs) ≡ list_all (λ x. list_all test (f x)) xs
list_all-flat_map test f [] = refl
list_all-flat_map test f (x ∷ xs) = ap (list_all test) (flat_map-cons f x xs) ∙ list_all-append test (f x) (flat_map f xs) ∙ ap (λ b. list_all test (f x) && b) (list_all-flat_map test f xs)

-- the ends of ports that are found, all of one instance or all own
ports-linked : (links : List Link) (make : List ℕ → LinkEnd) (ports : List Port)
    → list_all (λ (port : Port). is_linked links (make port.name)) ports ≡ list_all (is_linked links) (map (λ (port : PlainPort). make port.name) (map plain_port ports))
ports-linked links make [] = refl
ports-linked links make (port ∷ more) = ap (λ b. is_linked links (make port.name) && b) (ports-linked links make more)

pub instance-linked : (streamlets : List Streamlet) (links : List Link) (one : Instance) (ports : List Port) → ports ≡ ports_there (slice_get streamlets one.streamlet)
    → list_all (λ (port : Port). is_linked links (record { instance = Some one.name; port = port.name })) ports ≡ instance_linked (map plain_streamlet streamlets) links one
instance-linked streamlets links one ports is =
    ports-linked links (λ name. record { instance = Some one.name; port = name }) ports
    ∙ ap (λ (all : List PlainPort). list_all (is_linked links) (map (λ (port : PlainPort). record { instance = Some one.name; port = port.name }) all))
    (ap (map plain_port) is ∙ sym (ports_at-plain streamlets one.streamlet))

pub all-linked : (streamlets : List Streamlet) (home : ℕ) (instances : List Instance) (links : List Link) (ports : List Port) (own : Bool)
    → ports ≡ ports_there (slice_get streamlets home)
    → own ≡ list_all (λ (port : Port). is_linked links (record { instance = None; port = port.name })) ports
    → (own && list_all (instance_linked (map plain_streamlet streamlets) links) instances)
    ≡ list_all (is_linked links) (ends_of (map plain_streamlet streamlets) (record { own = ports_at (map plain_streamlet streamlets) home; instances = instances }))
all-linked streamlets home instances links ports own is own_is =
    let all = map plain_streamlet streamlets in
    ap (λ b. b && list_all (instance_linked all links) instances) (own_is ∙ ports-linked links (λ name. record { instance = None; port = name }) ports
    ∙ ap (λ (those : List PlainPort). list_all (is_linked links) (map own_end those)) (ap (map plain_port) is ∙ sym (ports_at-plain streamlets home)))
    ∙ ap (λ b. list_all (is_linked links) (map own_end (ports_at all home)) && b) (sym (list_all-flat_map (is_linked links) (ends_of_instance all) instances))
    ∙ sym (list_all-append (is_linked links) (map own_end (ports_at all home)) (flat_map (ends_of_instance all) instances))

pub short : (one other : Bool) → one ≡ false → one ≡ (one && other)
short true other fails = clash (sym fails)
short false other fails = refl

-- ---- a fault that is handed on

pub judged-err : {A : Type 0} (first : Option LinkFault) (Good : A → Type 0) (result : Result A LinkFault) (fault : LinkFault) → IsErrAnd result (λ e. e ≡ fault)
    → IsTold first fault → Judges first Good result
judged-err first Good (Ok value) fault is told = absurd is
judged-err first Good (Err e) fault is told = subst (IsTold first) (sym is) told
