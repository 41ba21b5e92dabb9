-- Streams by their paths.
use Rattle.std.proofs.Common.{◌≡◌, ◌∙◌, ◌<◌, ℕ, suc, ◌+◌, Bool, true, false, cond, List, [], ◌∷◌, length, get_or, drop, drop-cons, Option, Some, refl, ap, sym, subst, arith}
use Rattle.std.specs.Prelude.{option_map}
use Rattle.std.specs.BTreeMap.{BTreeMap, get, is_at}
use Rattle.std.specs.Cmp.Lexicographic.{slice_cmp, lists_ties, texts_ties}
use Rattle.std.specs.Ordering.{nat_cmp}
use Rattle.physical_stream.specs.Params.{Parameters}
use Rattle.type_split.specs.Streams.{is_same_path}
use Rattle.type_split.specs.declared.split.Phys.{Phys}
use Rattle.plan_text.specs.Blocks.{find_stream}
use Rattle.plan_text.specs.Numbers.{FindsFirst}

abbrev pub Path : Type 0
Path = List (List ℕ)

abbrev pub Numbers : Type 0
Numbers = BTreeMap Path ℕ

-- the number of the first stream of a path
abbrev pub number_of : Path → ℕ → List Phys → Option ℕ
number_of path start streams = option_map (λ stream. stream.0) (find_stream path start streams)

-- one stream more, before those that are there
pub FindsFirst-more : (old new : Numbers) (start next : ℕ) (streams : List Phys) (stream : Phys) (key : Path) → FindsFirst old next (drop next streams) → next ≡ suc start → start < length streams → stream ≡ get_or streams start stream → key ≡ stream.path
    → ((path : Path) → get (slice_cmp (slice_cmp nat_cmp)) new path ≡ cond (is_at (slice_cmp (slice_cmp nat_cmp) key) path) (Some start) (get (slice_cmp (slice_cmp nat_cmp)) old path))
    → FindsFirst new start (drop start streams)
FindsFirst-more old new start next streams stream key finds is within there same updates =
    let front : drop start streams ≡ stream ∷ drop (suc start) streams = drop-cons streams start stream within ∙ ap (λ (s : Phys). s ∷ drop (suc start) streams) (sym there) in
    let rest : FindsFirst old (suc start) (drop (suc start) streams) = subst (λ n. FindsFirst old n (drop n streams)) is finds in
    rw front (record {
      first = λ path.
          let test : is_same_path stream.path path ≡ is_at (slice_cmp (slice_cmp nat_cmp) stream.path) path = lists_ties (slice_cmp nat_cmp) texts_ties stream.path path in
          updates path ∙ rw (same, ← test) (by_test path rest (is_same_path stream.path path));
    })
  where
    by_test : (path : Path) → FindsFirst old (suc start) (drop (suc start) streams) → (one : Bool)
        → cond one (Some start) (get (slice_cmp (slice_cmp nat_cmp)) old path) ≡ option_map (λ (s : ℕ × Parameters). s.0) (cond one (Some (start, stream.params)) (find_stream path (suc start) (drop (suc start) streams)))
    by_test path rest true = refl
    by_test path rest false = rest.first path

-- where a stream is found
pub found-at : (path : Path) (start : ℕ) (streams : List Phys) (number : ℕ) → number_of path start streams ≡ Some number
    → (k : ℕ) × (number ≡ start + k) × (k < length streams) × ((other : Phys) → Some (number, (get_or streams k other).params) ≡ find_stream path start streams)
found-at path start [] number e = absurd cc
found-at path start (stream ∷ streams) number e = by_test (is_same_path stream.path path) e (found-at path (suc start) streams number)
  where
    by_test : (same : Bool) → option_map (λ (s : ℕ × Parameters). s.0) (cond same (Some (start, stream.params)) (find_stream path (suc start) streams)) ≡ Some number
        → (number_of path (suc start) streams ≡ Some number → (k : ℕ) × (number ≡ suc start + k) × (k < length streams) × ((other : Phys) → Some (number, (get_or streams k other).params) ≡ find_stream path (suc start) streams))
        → (k : ℕ) × (number ≡ start + k) × (k < length (stream ∷ streams)) × ((other : Phys) → Some (number, (get_or (stream ∷ streams) k other).params) ≡ cond same (Some (start, stream.params)) (find_stream path (suc start) streams))
    by_test true found later =
        let same : start ≡ number = cc in
        (0, omega (arith, same), omega arith, λ other. rw (← same) refl)
    by_test false found later =
        let (k, is, within, first) = later found in
        (suc k, omega (arith, is), omega (arith, within), first)

pub found : (path : Path) (streams : List Phys) (number : ℕ) → number_of path 0 streams ≡ Some number → (number < length streams) × ((other : Phys) → Some (number, (get_or streams number other).params) ≡ find_stream path 0 streams)
found path streams number e =
    let (k, is, within, first) = found-at path 0 streams number e in
    let same : k ≡ number = omega (arith, is) in
    (omega (arith, same, within), λ other. subst (λ i. Some (number, (get_or streams i other).params) ≡ find_stream path 0 streams) same (first other))

-- the number that is found at a path
pub number_of-found : (numbers : Numbers) (streams : List Phys) (path : Path) (number : ℕ) → FindsFirst numbers 0 streams → get (slice_cmp (slice_cmp nat_cmp)) numbers path ≡ Some number → number_of path 0 streams ≡ Some number
number_of-found numbers streams path number finds is = sym (finds.first path) ∙ is
