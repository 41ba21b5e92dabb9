-- In a valid type two Streams have one path only where one of them stands inside the other.
use Rattle.std.proofs.Common.{◌≡◌, ℕ, suc, ◌+◌, Bool, true, false, ◌||◌, ◌&&◌, cond, if◌then◌else◌, List, [], ◌∷◌, ◌++◌, map, Option, Some, None, bytes_eq, refl, sym, ap, ◌∙◌, subst, append_assoc}
use Rattle.std.specs.List.{list_any}
use Rattle.std.specs.Option.{option_or}
use Rattle.std.specs.Str.{str_to_ascii_lowercase}
use Rattle.std.proofs.lemmas.Grind.{flat_map-append}
use Rattle.std.proofs.lemmas.List.{append-nil, append_cancel_left}
use Rattle.std.proofs.lemmas.Slice.Eq.{bytes_eq-Decides}
use Rattle.logical_types.specs.Faults.{faults_at, faults_of_parts, faults_within, nodes, nodes_of_parts, IsValid, outermost, TypeNode, has_fault}
use Rattle.logical_types.specs.Names.{has_name_twice, is_same_name}
use Rattle.logical_types.specs.Tree.{Ltype, null, bits, group, union, stream, Parts, no_parts, part, names_of}
use Rattle.logical_types.specs.declared.fault.TypeFault.TheVariants as faults
use Rattle.logical_types.specs.declared.streams.Around.{Around}
use Rattle.logical_types.proofs.PlainTypes.{apart, none_of}
use Rattle.type_split.specs.Nodes.{StreamNode, is_physical, node_at, nodes_in, nodes_in_parts, number_of_streams, number_of_physical, outermost_place, place_inside}
use Rattle.type_split.specs.Splitting.{clash_within, clash_in_parts}
use Rattle.type_split.specs.Streams.{clash_from, clash_of, gathered, is_same_path, stream_at, stream_in}
use Rattle.type_split.specs.declared.place.Place.{Place}
use Rattle.type_split.specs.declared.split.Phys.{Phys}
use Rattle.type_split.proofs.StandingLemmas.{gathered-part}
use Rattle.type_split.proofs.ValidLemmas.{valid-stream}

abbrev Names : Type 0
Names = List (List ℕ)

-- ---- lists of paths

-- it holds of each of these paths
abbrev Each : (Names → Type 0) → List Names → Type 0
Each Holds [] = Unit {0}
Each Holds (path ∷ more) = Holds path × Each Holds more

each-append : (Holds : Names → Type 0) (front back : List Names) → Each Holds front → Each Holds back → Each Holds (front ++ back)
each-append Holds [] back first second = second
each-append Holds (path ∷ more) back first second = (first.0, each-append Holds more back first.1 second)

-- ---- paths that begin with names

-- the path begins with the names
abbrev Begins : Names → Names → Type 0
Begins names path = (rest : Names) × (path ≡ names ++ rest)

-- the path does not begin with the names
abbrev IsOff : Names → Names → Type 0
IsOff names path = (rest : Names) → path ≡ names ++ rest → ⊥

-- the path is the names where it begins with them
abbrev EndsAt : Names → Names → Type 0
EndsAt names path = (rest : Names) → path ≡ names ++ rest → rest ≡ []

same-itself : (path : Names) → is_same_path path path ≡ true
same-itself [] = refl
same-itself (name ∷ names) = by (bytes_eq name name) ((bytes_eq-Decides name name).1 refl) (same-itself names)
  where
    by : (b : Bool) → b ≡ true → is_same_path names names ≡ true → (b && is_same_path names names) ≡ true
    by true is rest = rest
    by false is rest = absurd cc

same-is : (one other : Names) → is_same_path one other ≡ true → one ≡ other
same-is [] [] same = refl
same-is [] (name ∷ names) same = absurd cc
same-is (name ∷ names) [] same = absurd cc
same-is (name ∷ names) (other ∷ others) same = by (bytes_eq name other) refl same (same-is names others)
  where
    by : (b : Bool) → bytes_eq name other ≡ b → (b && is_same_path names others) ≡ true → (is_same_path names others ≡ true → names ≡ others) → name ∷ names ≡ other ∷ others
    by true known is rest = ap (λ (first : List ℕ). first ∷ names) ((bytes_eq-Decides name other).0 known) ∙ ap (λ (behind : Names). other ∷ behind) (rest is)
    by false known is rest = absurd cc

-- a path that does not begin with the names is another one
off-other : (names path : Names) → IsOff names path → is_same_path names path ≡ false
off-other names path off = by (is_same_path names path) refl
  where
    by : (b : Bool) → is_same_path names path ≡ b → b ≡ false
    by false known = refl
    by true known = absurd (off [] (sym (same-is names path known) ∙ sym (append-nil names)))

all-off : (names : Names) (before : List Names) → Each (IsOff names) before → list_any (is_same_path names) before ≡ false
all-off names [] each = refl
all-off names (path ∷ more) each = ap (λ b. b || list_any (is_same_path names) more) (off-other names path each.0) ∙ all-off names more each.1

behind-name : (names : Names) (name : List ℕ) (rest : Names) → (names ++ name ∷ []) ++ rest ≡ names ++ name ∷ rest
behind-name names name rest = append_assoc names (name ∷ []) rest

-- a path that ends at the names does not begin with longer ones
ends-off : (names path : Names) (name : List ℕ) → EndsAt names path → IsOff (names ++ name ∷ []) path
ends-off names path name ends rest is = none (ends (name ∷ rest) (is ∙ behind-name names name rest))
  where
    none : name ∷ rest ≡ [] → ⊥
    none empty = cc

all-ends-off : (names : Names) (name : List ℕ) (before : List Names) → Each (EndsAt names) before → Each (IsOff (names ++ name ∷ [])) before
all-ends-off names name [] each = tt
all-ends-off names name (path ∷ more) each = (ends-off names path name each.0, all-ends-off names name more each.1)

all-off-ends : (names : Names) (before : List Names) → Each (IsOff names) before → Each (EndsAt names) before
all-off-ends names [] each = tt
all-off-ends names (path ∷ more) each = (λ rest is. absurd (each.0 rest is), all-off-ends names more each.1)

same-name : (name : List ℕ) → is_same_name name name ≡ true
same-name name = (bytes_eq-Decides (str_to_ascii_lowercase name) (str_to_ascii_lowercase name)).1 refl

-- a path that begins with names and one name more does not begin with another name behind them
begins-off : (names path : Names) (one other : List ℕ) → is_same_name one other ≡ false → Begins (names ++ one ∷ []) path → IsOff (names ++ other ∷ []) path
begins-off names path one other differ begins rest is = clash (append_cancel_left names (one ∷ begins.0) (other ∷ rest) (sym (begins.1 ∙ behind-name names one begins.0) ∙ is ∙ behind-name names other rest))
  where
    clash : one ∷ begins.0 ≡ other ∷ rest → ⊥
    clash same = let first : one ≡ other = cc in
        let holds : true ≡ false = sym (same-name one) ∙ ap (is_same_name one) first ∙ differ in cc

all-begins-off : (names : Names) (one other : List ℕ) (paths : List Names) → is_same_name one other ≡ false → Each (Begins (names ++ one ∷ [])) paths → Each (IsOff (names ++ other ∷ [])) paths
all-begins-off names one other [] differ each = tt
all-begins-off names one other (path ∷ more) differ each = (begins-off names path one other differ each.0, all-begins-off names one other more differ each.1)

-- ---- the paths of the streams of a type

abbrev paths_of : List Phys → List Names
paths_of streams = map (λ stream. stream.path) streams

paths-append : (front back : List Phys) → paths_of (front ++ back) ≡ paths_of front ++ paths_of back
paths-append [] back = refl
paths-append (one ∷ more) back = ap (λ (paths : List Names). one.path ∷ paths) (paths-append more back)

-- the streams of both lists have such paths where those of each have
both : (Holds : Names → Type 0) (front back all : List Phys) → all ≡ front ++ back → Each Holds (paths_of front) → Each Holds (paths_of back) → Each Holds (paths_of all)
both Holds front back all is first second =
    subst (λ (paths : List Names). Each Holds paths) (sym (ap paths_of is ∙ paths-append front back)) (each-append Holds (paths_of front) (paths_of back) first second)

begins-more : (names : Names) (name : List ℕ) (paths : List Names) → Each (Begins (names ++ name ∷ [])) paths → Each (Begins names) paths
begins-more names name [] each = tt
begins-more names name (path ∷ more) each = ((name ∷ each.0.0, each.0.1 ∙ behind-name names name each.0.0), begins-more names name more each.1)

own-path : (names : Names) (number : ℕ) (node : StreamNode) (phys : Option ℕ) → node.path ≡ names → Each (Begins names) (paths_of (stream_in number node phys))
own-path names number node None is = tt
own-path names number node (Some phys) is = (([], is ∙ sym (append-nil names)), tt)

mutual
  begin : (names : Names) (place : Place) (number physical : ℕ) (ltype : Ltype) → Each (Begins names) (paths_of (gathered stream_at number (nodes_in names place number physical ltype)))
  begin names place number physical null = tt
  begin names place number physical (bits width) = tt
  begin names place number physical (group parts) = begin_parts names place number physical parts
  begin names place number physical (union parts) = begin_parts names place number physical parts
  begin names place number physical (stream element user settings) =
      let node = node_at names place number physical element user settings in
      let inner = nodes_in names (place_inside place number settings) (suc number) ((if is_physical element user settings then 1 else 0) + physical) element in
      both (Begins names) (stream_at number node) (gathered stream_at (suc number) inner) (gathered stream_at number (node ∷ inner)) refl
      (own-path names number node node.phys refl) (begin names (place_inside place number settings) (suc number) ((if is_physical element user settings then 1 else 0) + physical) element)

  begin_parts : (names : Names) (place : Place) (number physical : ℕ) (parts : Parts) → Each (Begins names) (paths_of (gathered stream_at number (nodes_in_parts names place number physical parts)))
  begin_parts names place number physical no_parts = tt
  begin_parts names place number physical (part name ltype more) =
      both (Begins names) _ _ _ (gathered-part stream_at names place number physical name ltype more)
      (begins-more names name _ (begin (names ++ name ∷ []) place number physical ltype))
      (begin_parts names place (number_of_streams ltype + number) (number_of_physical ltype + physical) more)

-- ---- clashes, part after part

-- the paths before, once those of streams joined them
abbrev seen_after : List Names → List Phys → List Names
seen_after before [] = before
seen_after before (one ∷ more) = seen_after (one.path ∷ before) more

seen-all : (Holds : Names → Type 0) (before : List Names) (streams : List Phys) → Each Holds before → Each Holds (paths_of streams) → Each Holds (seen_after before streams)
seen-all Holds before [] each new = each
seen-all Holds before (one ∷ more) each new = seen-all Holds (one.path ∷ before) more (new.0, each) new.1

clash-append : (before : List Names) (front back : List Phys) → clash_from before (front ++ back) ≡ option_or (clash_from before front) (clash_from (seen_after before front) back)
clash-append before [] back = refl
clash-append before (one ∷ more) back = by (list_any (is_same_path one.path) before) (clash-append (one.path ∷ before) more back)
  where
    by : (known : Bool) → clash_from (one.path ∷ before) (more ++ back) ≡ option_or (clash_from (one.path ∷ before) more) (clash_from (seen_after (one.path ∷ before) more) back)
        → (if known then Some one.path else clash_from (one.path ∷ before) (more ++ back))
        ≡ option_or (if known then Some one.path else clash_from (one.path ∷ before) more) (clash_from (seen_after (one.path ∷ before) more) back)
    by true rest = refl
    by false rest = rest

-- no path begins with the names and the name of one of these parts
abbrev AreOff : Names → Parts → List Names → Type 0
AreOff names no_parts before = Unit {0}
AreOff names (part name ltype more) before = Each (IsOff (names ++ name ∷ [])) before × AreOff names more before

ends-parts : (names : Names) (parts : Parts) (before : List Names) → Each (EndsAt names) before → AreOff names parts before
ends-parts names no_parts before each = tt
ends-parts names (part name ltype more) before each = (all-ends-off names name before each, ends-parts names more before each)

either : (a b : Bool) → (a || b) ≡ false → (a ≡ false) × (b ≡ false)
either true b none = absurd cc
either false b none = (refl, none)

-- the parts behind one whose streams joined the paths
off-more : (names : Names) (name : List ℕ) (parts : Parts) (before : List Names) (streams : List Phys) → list_any (is_same_name name) (names_of parts) ≡ false
    → Each (Begins (names ++ name ∷ [])) (paths_of streams) → AreOff names parts before → AreOff names parts (seen_after before streams)
off-more names name no_parts before streams apart new off = tt
off-more names name (part other ltype more) before streams apart new off =
    let names_apart = either (is_same_name name other) (list_any (is_same_name name) (names_of more)) apart in (
      seen-all (IsOff (names ++ other ∷ [])) before streams off.0 (all-begins-off names name other (paths_of streams) names_apart.0 new),
      off-more names name more before streams names_apart.1 new off.1,
    )

-- ---- valid types

-- the names of the parts of a Group or a Union without faults are apart
names-apart : (node : TypeNode) → faults_at node ≡ [] → has_fault node faults.NameTwice ≡ false
names-apart node empty =
    let zero_bits = none_of (has_fault node faults.ZeroBits) faults.ZeroBits _ empty in
    let wide = none_of (has_fault node faults.ElementTooWide) faults.ElementTooWide _ zero_bits.1 in
    let throughput = none_of (has_fault node faults.BadThroughput) faults.BadThroughput _ wide.1 in
    let lanes = none_of (has_fault node faults.TooManyLanes) faults.TooManyLanes _ throughput.1 in
    let dims = none_of (has_fault node faults.TooManyDims) faults.TooManyDims _ lanes.1 in
    let user = none_of (has_fault node faults.UserHasStream) faults.UserHasStream _ dims.1 in
    (none_of (has_fault node faults.NameTwice) faults.NameTwice _ user.1).0

mutual
  clash-in : (names : Names) (taken : Bool) (before : List Names) (around : Around) (place : Place) (number physical : ℕ) (ltype : Ltype) → faults_within around ltype ≡ []
      → Each (EndsAt names) before → list_any (is_same_path names) before ≡ taken
      → clash_from before (gathered stream_at number (nodes_in names place number physical ltype)) ≡ clash_within names taken ltype
  clash-in names taken before around place number physical null valid each is = refl
  clash-in names taken before around place number physical (bits width) valid each is = refl
  clash-in names taken before around place number physical (group parts) valid each is =
      let fine = apart (faults_at (record { around = around; ltype = group parts })) (faults_of_parts around parts) valid in
      clash-parts names before around place number physical parts fine.1 (names-apart (record { around = around; ltype = group parts }) fine.0) (ends-parts names parts before each)
  clash-in names taken before around place number physical (union parts) valid each is =
      let fine = apart (faults_at (record { around = around; ltype = union parts })) (faults_of_parts around parts) valid in
      clash-parts names before around place number physical parts fine.1 (names-apart (record { around = around; ltype = union parts }) fine.0) (ends-parts names parts before each)
  clash-in names taken before around place number physical (stream element user settings) valid each is =
      by (is_physical element user settings) taken is
      (λ now paths ends known. clash-in names now paths _ (place_inside place number settings) (suc number) ((if is_physical element user settings then 1 else 0) + physical) element
      (valid-stream around element user settings valid).element_valid ends known)
    where
      node : StreamNode
      node = node_at names place number physical element user settings

      rest : List Phys
      rest = gathered stream_at (suc number) (nodes_in names (place_inside place number settings) (suc number) ((if is_physical element user settings then 1 else 0) + physical) element)

      itself : EndsAt names names
      itself more same = append_cancel_left names more [] (sym same ∙ sym (append-nil names))

      by : (physical_there now : Bool) → list_any (is_same_path names) before ≡ now
          → ((now : Bool) (paths : List Names) → Each (EndsAt names) paths → list_any (is_same_path names) paths ≡ now → clash_from paths rest ≡ clash_within names now element)
          → clash_from before (stream_in number node (if physical_there then Some physical else None) ++ rest)
          ≡ (if physical_there && now then Some names else clash_within names (physical_there || now) element)
      by false now known inner = inner now before each known
      by true true known inner = ap (λ b. cond b (Some names) (clash_from (names ∷ before) rest)) known
      by true false known inner = ap (λ b. cond b (Some names) (clash_from (names ∷ before) rest)) known
          ∙ inner true (names ∷ before) (itself, each) (ap (λ b. b || list_any (is_same_path names) before) (same-itself names))

  clash-parts : (names : Names) (before : List Names) (around : Around) (place : Place) (number physical : ℕ) (parts : Parts) → faults_of_parts around parts ≡ []
      → has_name_twice (names_of parts) ≡ false → AreOff names parts before
      → clash_from before (gathered stream_at number (nodes_in_parts names place number physical parts)) ≡ clash_in_parts names parts
  clash-parts names before around place number physical no_parts valid distinct off = refl
  clash-parts names before around place number physical (part name ltype more) valid distinct off =
      let fine = apart (faults_within around ltype) (faults_of_parts around more) (sym (flat_map-append faults_at (nodes around ltype) (nodes_of_parts around more)) ∙ valid) in
      let names_apart = either (list_any (is_same_name name) (names_of more)) (has_name_twice (names_of more)) distinct in
      let first = gathered stream_at number (nodes_in (names ++ name ∷ []) place number physical ltype) in
      let next = number_of_streams ltype + number in
      let later = gathered stream_at next (nodes_in_parts names place next (number_of_physical ltype + physical) more) in
      ap (clash_from before) (gathered-part stream_at names place number physical name ltype more)
      ∙ clash-append before first later
      ∙ ap (λ (found : Option Names). option_or found (clash_from (seen_after before first) later))
      (clash-in (names ++ name ∷ []) false before around place number physical ltype fine.0 (all-off-ends (names ++ name ∷ []) before off.0) (all-off (names ++ name ∷ []) before off.0))
      ∙ ap (option_or (clash_within (names ++ name ∷ []) false ltype))
      (clash-parts names (seen_after before first) around place next (number_of_physical ltype + physical) more fine.1 names_apart.1
      (off-more names name more before first names_apart.0 (begin (names ++ name ∷ []) place number physical ltype) off.1))

-- the walk down a valid type finds the path on which its streams clash
pub clash-found : (ltype : Ltype) → IsValid ltype → clash_of ltype ≡ clash_within [] false ltype
clash-found ltype valid = clash-in [] false [] outermost outermost_place 0 0 ltype valid tt refl
