-- Streams, found by their paths.
use Rattle.std.proofs.Common.{◌≡◌, ℕ, suc, ◌+◌, ◌<◌, ◌≤◌, true, false, nat_lt, List, ◌∷◌, length, drop, get_or, slice_get, Option, Some, None, option_map, refl, sym, ap, ◌∙◌, arith}
use Rattle.std.specs.Str.{bytes_eq}
use Rattle.std.proofs.Math.Seq.{drop-cons}
use Rattle.std.proofs.lemmas.Bool.{ltb-true}
use Rattle.std.proofs.lemmas.List.{drop_all}
use Rattle.std.proofs.lemmas.Option.{slice_get-get_or}
use Rattle.std.proofs.lemmas.Slice.Eq.{bytes_eq-Decides}
use Rattle.physical_stream.specs.declared.head.Head.{Head}
use Rattle.vhdl_text.specs.Lines.{number_of, paths_of}
use Rattle.vhdl_text.specs.WellFormed.{AreApart}
use Rattle.vhdl_text.proofs.LineLemmas.{number_of-apart, path-head}

-- a place, counted from another
abbrev pub counted_from : ℕ → Option ℕ → Option ℕ
counted_from count None = None
counted_from count (Some place) = Some (count + place)

counted_from-none : (found : Option ℕ) → found ≡ counted_from 0 found
counted_from-none None = refl
counted_from-none (Some place) = ap Some (omega arith)

counted-next : (count : ℕ) (found : Option ℕ) → counted_from count (option_map suc found) ≡ counted_from (count + 1) found
counted-next count None = refl
counted-next count (Some place) = ap Some (omega arith)

pub search-start : (paths : List (List ℕ)) (path : List ℕ) → number_of paths path ≡ counted_from 0 (number_of (drop 0 paths) path)
search-start paths path = counted_from-none (number_of paths path)

pub search-next : (paths : List (List ℕ)) (path other : List ℕ) (i number : ℕ) → i < length paths → other ≡ get_or paths i other → bytes_eq path other ≡ false → number_of paths path ≡ counted_from number (number_of (drop i paths) path)
    → number_of paths path ≡ counted_from (number + 1) (number_of (drop (i + 1) paths) path)
search-next paths path other i number within is isnt so_far =
    let next : suc i ≡ i + 1 = omega arith in
    let rest = drop-cons paths i other within ∙ ap (λ (p : List ℕ). p ∷ drop (suc i) paths) (sym is) in
    so_far ∙ ap (λ (l : List (List ℕ)). counted_from number (number_of l path)) rest ∙ rw isnt (counted-next number (number_of (drop (suc i) paths) path)) ∙ ap (λ (n : ℕ). counted_from (number + 1) (number_of (drop n paths) path)) next

pub search-found : (paths : List (List ℕ)) (path other : List ℕ) (i number : ℕ) → i < length paths → other ≡ get_or paths i other → bytes_eq path other ≡ true → number_of paths path ≡ counted_from number (number_of (drop i paths) path)
    → Some number ≡ number_of paths path
search-found paths path other i number within is same so_far =
    let rest = drop-cons paths i other within ∙ ap (λ (p : List ℕ). p ∷ drop (suc i) paths) (sym is) in
    sym (so_far ∙ ap (λ (l : List (List ℕ)). counted_from number (number_of l path)) rest ∙ rw same (ap Some (omega arith)))

pub search-end : (paths : List (List ℕ)) (path : List ℕ) (i number : ℕ) → length paths ≤ i → number_of paths path ≡ counted_from number (number_of (drop i paths) path) → None ≡ number_of paths path
search-end paths path i number past so_far = sym (so_far ∙ ap (λ (l : List (List ℕ)). counted_from number (number_of l path)) (drop_all i paths past))

-- a path that stands somewhere stands nowhere else
pub number-is : (heads : List Head) (path : List ℕ) (i : ℕ) → AreApart heads → slice_get (paths_of heads) i ≡ Some path → number_of (paths_of heads) path ≡ Some i
number-is heads path i apart there =
    let here = path-head heads i path there in
    number_of-apart (paths_of heads) path i there (λ j e. (let found = path-head heads j path e in apart j i found.0 here.0 found.1 here.1 (found.2 ∙ sym here.2)))

-- a path that is found at its place
pub stands-at : (paths : List (List ℕ)) (path other : List ℕ) (place : ℕ) → true ≡ nat_lt place (length paths) → other ≡ get_or paths place other → bytes_eq path other ≡ true → slice_get paths place ≡ Some path
stands-at paths path other place within is same =
    slice_get-get_or paths place other (ltb-true place (length paths) (sym within)) ∙ ap Some (sym is ∙ sym ((bytes_eq-Decides path other).0 same))
