-- The first packet at which two series differ, counted and compared list by list.
use Rattle.std.proofs.Common.{◌≡◌, ◌∙◌, ◌<◌, ◌≤◌, ℕ, zero, suc, ◌+◌, ◌-◌, Bool, true, false, List, [], ◌∷◌, length, map, drop, get_or, Option, Some, None, refl, sym, ap, arith, length-append}
use Rattle.std.specs.Prelude.{if◌then◌else◌, ◌&&◌, is_none, is_some}
use Rattle.std.specs.List.{filter_map}
use Rattle.std.proofs.lemmas.List.Elements.{filter_map-append}
use Rattle.logical_types.specs.declared.ltype.Sync.{Sync}
use Rattle.logical_types.specs.declared.ltype.Sync.TheVariants as syncs
use Rattle.logical_value.specs.Tree.{Tree, members, plain}
use Rattle.logical_value.specs.declared.value.Value.{Value}
use Rattle.value_views.specs.Along.{along, selecting}
use Rattle.value_views.specs.Comparing.{first_difference, packet_of, pass_both, same_shape}
use Rattle.value_views.specs.Series.{leaves, replaced}
use Rattle.value_views.proofs.ListLemmas.{map_from-at, map_from-past}
use Rattle.value_views.proofs.NestLemmas.{leaves-replaced}
use Rattle.value_views.proofs.SeriesLemmas.{leaves-append, leaves-nil, members-listed}

-- ---- how many leaves select

selecting-cons : (way : List ℕ) (depth : ℕ) (value : Tree) (values : List Tree) → selecting way depth (value ∷ values) ≡ selecting way depth (value ∷ []) + selecting way depth values
selecting-cons way depth value values =
    ap (λ (l : List Tree). length (filter_map (along way) l)) (leaves-append depth (value ∷ []) values)
    ∙ ap length (filter_map-append (along way) (leaves depth (value ∷ [])) (leaves depth values))
    ∙ length-append (filter_map (along way) (leaves depth (value ∷ []))) (filter_map (along way) (leaves depth values))

selecting-at : (way : List ℕ) (depth : ℕ) (l : List Value) (at : ℕ) (x : Value) → at < length l → x ≡ get_or l at x
    → selecting way depth (map plain (drop at l)) ≡ selecting way depth (plain x ∷ []) + selecting way depth (map plain (drop (at + 1) l))
selecting-at way depth l at x less is = ap (selecting way depth) (map_from-at plain l at x less is) ∙ selecting-cons way depth (plain x) (map plain (drop (at + 1) l))

selecting-past : (way : List ℕ) (depth : ℕ) (l : List Value) (at : ℕ) → length l ≤ at → selecting way depth (map plain (drop at l)) ≡ 0
selecting-past way depth l at past =
    ap (selecting way depth) (map_from-past plain l at past) ∙ ap (λ (m : List Tree). length (filter_map (along way) m)) (leaves-nil depth)

pub count-next : (way : List ℕ) (depth : ℕ) (l : List Value) (at : ℕ) (x : Value) (left rest count : ℕ) → at < length l → x ≡ get_or l at x
    → left + selecting way depth (map plain l) ≡ count + selecting way depth (map plain (drop at l)) → rest + selecting way depth (plain x ∷ []) ≡ left
    → rest + selecting way depth (map plain l) ≡ count + selecting way depth (map plain (drop (at + 1) l))
count-next way depth l at x left rest count less is all one = (let here = selecting-at way depth l at x less is in omega (arith, here, all, one))

pub count-none : (way : List ℕ) (depth : ℕ) (l : List Value) (at : ℕ) (x : Value) (left count : ℕ) → at < length l → x ≡ get_or l at x
    → left + selecting way depth (map plain l) ≡ count + selecting way depth (map plain (drop at l)) → left < selecting way depth (plain x ∷ [])
    → count < selecting way depth (map plain l)
count-none way depth l at x left count less is all one = (let here = selecting-at way depth l at x less is in omega (arith, here, all, one))

pub count-done : (way : List ℕ) (depth : ℕ) (l : List Value) (at left count : ℕ) → length l ≤ at
    → left + selecting way depth (map plain l) ≡ count + selecting way depth (map plain (drop at l)) → left + selecting way depth (map plain l) ≡ count
count-done way depth l at left count past all = (let none = selecting-past way depth l at past in omega (arith, none, all))

-- ---- members whose lists are not compared

pub flat-same : (number : ℕ) (one other : List Tree) → length one ≡ length other → first_difference (same_shape 0) number one other ≡ None
flat-same number [] [] same = refl
flat-same number [] (w ∷ other) same = absurd (omega (arith, same))
flat-same number (v ∷ one) [] same = absurd (omega (arith, same))
flat-same number (v ∷ one) (w ∷ other) same = flat-same (suc number) one other (omega (arith, same))

pub flat-more : (number : ℕ) (one other : List Tree) → length other < length one → first_difference (same_shape 0) number one other ≡ Some (number + length other)
flat-more number [] other less = absurd (omega (arith, less))
flat-more number (v ∷ one) [] less = (let same : number ≡ number + 0 = omega arith in ap (λ (n : ℕ). Some n) same)
flat-more number (v ∷ one) (w ∷ other) less =
    flat-more (suc number) one other (omega (arith, less)) ∙ (let same : suc number + length other ≡ number + suc (length other) = omega arith in ap (λ (n : ℕ). Some n) same)

pub flat-fewer : (number : ℕ) (one other : List Tree) → length one < length other → first_difference (same_shape 0) number one other ≡ Some (number + length one)
flat-fewer number one [] less = absurd (omega (arith, less))
flat-fewer number [] (w ∷ other) less = (let same : number ≡ number + 0 = omega arith in ap (λ (n : ℕ). Some n) same)
flat-fewer number (v ∷ one) (w ∷ other) less =
    flat-fewer (suc number) one other (omega (arith, less)) ∙ (let same : suc number + length one ≡ number + suc (length one) = omega arith in ap (λ (n : ℕ). Some n) same)

pub lesser-none : (one series : List Tree) (count left : ℕ) → length series ≡ count → left ≡ 0 → left + length one ≡ count → None ≡ first_difference (same_shape 0) 0 one series
lesser-none one series count left long none is = sym (flat-same 0 one series (omega (arith, long, none, is)))

pub lesser-some : (one series : List Tree) (count left : ℕ) → length series ≡ count → 1 ≤ left → left + length one ≡ count → Some (count - left) ≡ first_difference (same_shape 0) 0 one series
lesser-some one series count left long some is =
    (let same : count - left ≡ 0 + length one = omega (arith, is) in ap (λ (n : ℕ). Some n) same) ∙ sym (flat-fewer 0 one series (omega (arith, long, some, is)))

pub lesser-most : (one series : List Tree) (count : ℕ) → length series ≡ count → count < length one → Some count ≡ first_difference (same_shape 0) 0 one series
lesser-most one series count long less =
    (let same : count ≡ 0 + length series = omega (arith, long) in ap (λ (n : ℕ). Some n) same) ∙ sym (flat-more 0 one series (omega (arith, long, less)))

-- ---- members whose lists are compared

pub pass-none : (test : Tree → Tree → Bool) (number : ℕ) (one other : List Tree) → pass_both test one other ≡ is_none (first_difference test number one other)
pass-none test number [] [] = refl
pass-none test number [] (w ∷ other) = refl
pass-none test number (v ∷ one) [] = refl
pass-none test number (v ∷ one) (w ∷ other) = here (test v w) (pass-none test (suc number) one other)
  where
    here : (b : Bool) → pass_both test one other ≡ is_none (first_difference test (suc number) one other)
        → (b && pass_both test one other) ≡ is_none (if b then first_difference test (suc number) one other else Some number)
    here true rest = rest
    here false rest = refl

-- the first of members that are left, and the others
members-at : (way : List ℕ) (depth number : ℕ) (around series : List Value) (one other : Value) → number < length around → number < length series → one ≡ get_or around number one
    → other ≡ get_or series number other → (test : Bool) → test ≡ is_none (first_difference (same_shape depth) 0 (replaced (along way) depth (members (plain one))) (members (plain other)))
    → first_difference (same_shape (suc depth)) number (replaced (along way) (suc depth) (map plain (drop number around))) (map plain (drop number series))
    ≡ (if test then first_difference (same_shape (suc depth)) (suc number) (replaced (along way) (suc depth) (map plain (drop (number + 1) around))) (map plain (drop (number + 1) series))
    else Some number)
members-at way depth number around series one other less less' is is' test same =
    let inner = replaced (along way) depth (members (plain one)) in
    let rest = first_difference (same_shape (suc depth)) (suc number) (replaced (along way) (suc depth) (map plain (drop (number + 1) around))) (map plain (drop (number + 1) series)) in
    ap (λ (l : List Tree). first_difference (same_shape (suc depth)) number (replaced (along way) (suc depth) l) (map plain (drop number series))) (map_from-at plain around number one less is)
    ∙ ap (λ (l : List Tree). first_difference (same_shape (suc depth)) number (replaced (along way) (suc depth) (plain one ∷ map plain (drop (number + 1) around))) l)
    (map_from-at plain series number other less' is')
    ∙ ap (λ (l : List Tree). if pass_both (same_shape depth) l (members (plain other)) then rest else Some number) (members-listed inner)
    ∙ ap (λ (b : Bool). if b then rest else Some number) (pass-none (same_shape depth) 0 inner (members (plain other)) ∙ sym same)

-- the depth below, and the members there
pub record IsBelow (way : List ℕ) (depth : ℕ) (one other : Value) (ones others : List Value) (found : Option ℕ) : Type 0 where
  pub some : 1 ≤ depth
  pub ones_are : map plain ones ≡ members (plain one)
  pub others_are : map plain others ≡ members (plain other)
  pub found_is : found ≡ first_difference (same_shape (depth - 1)) 0 (replaced (along way) (depth - 1) (map plain ones)) (map plain others)

below-test : (way : List ℕ) (depth : ℕ) (one other : Value) (ones others : List Value) (found : Option ℕ) → IsBelow way (suc depth) one other ones others found
    → is_none found ≡ is_none (first_difference (same_shape depth) 0 (replaced (along way) depth (members (plain one))) (members (plain other)))
below-test way depth one other ones others found is =
    let same : suc depth - 1 ≡ depth = omega arith in
    ap is_none (is.found_is
    ∙ ap (λ (d : ℕ). first_difference (same_shape d) 0 (replaced (along way) d (map plain ones)) (map plain others)) same
    ∙ ap (λ (l : List Tree). first_difference (same_shape depth) 0 (replaced (along way) depth l) (map plain others)) is.ones_are
    ∙ ap (λ (l : List Tree). first_difference (same_shape depth) 0 (replaced (along way) depth (members (plain one))) l) is.others_are)

pub members-differ : (way : List ℕ) (depth number : ℕ) (around series : List Value) (one other : Value) (ones others : List Value) (found : Option ℕ) (all : Option ℕ)
    → number < length around → number < length series → one ≡ get_or around number one → other ≡ get_or series number other → IsBelow way depth one other ones others found
    → is_none found ≡ false → first_difference (same_shape depth) number (replaced (along way) depth (map plain (drop number around))) (map plain (drop number series)) ≡ all
    → Some number ≡ all
members-differ way zero number around series one other ones others found all less less' is is' below differ rest = (let some = below.some in absurd (omega (arith, some)))
members-differ way (suc depth) number around series one other ones others found all less less' is is' below differ rest =
    sym (members-at way depth number around series one other less less' is is' false (sym differ ∙ below-test way depth one other ones others found below)) ∙ rest

pub members-agree : (way : List ℕ) (depth number : ℕ) (around series : List Value) (one other : Value) (ones others : List Value) (found : Option ℕ) (all : Option ℕ)
    → number < length around → number < length series → one ≡ get_or around number one → other ≡ get_or series number other → IsBelow way depth one other ones others found
    → is_none found ≡ true → first_difference (same_shape depth) number (replaced (along way) depth (map plain (drop number around))) (map plain (drop number series)) ≡ all
    → first_difference (same_shape depth) (number + 1) (replaced (along way) depth (map plain (drop (number + 1) around))) (map plain (drop (number + 1) series)) ≡ all
members-agree way zero number around series one other ones others found all less less' is is' below agree rest = (let some = below.some in absurd (omega (arith, some)))
members-agree way (suc depth) number around series one other ones others found all less less' is is' below agree rest =
    let next : number + 1 ≡ suc number = omega arith in
    ap (λ (n : ℕ). first_difference (same_shape (suc depth)) n (replaced (along way) (suc depth) (map plain (drop (number + 1) around))) (map plain (drop (number + 1) series))) next
    ∙ sym (members-at way depth number around series one other less less' is is' true (sym agree ∙ below-test way depth one other ones others found below)) ∙ rest

-- no member is left, or one of one series alone
pub members-past : (way : List ℕ) (depth number : ℕ) (around series : List Value) (all : Option ℕ) → 1 ≤ depth → length around ≤ number → length series ≤ number
    → first_difference (same_shape depth) number (replaced (along way) depth (map plain (drop number around))) (map plain (drop number series)) ≡ all → None ≡ all
members-past way zero number around series all some past past' rest = absurd (omega (arith, some))
members-past way (suc depth) number around series all some past past' rest =
    sym (ap (λ (l : List Tree). first_difference (same_shape (suc depth)) number (replaced (along way) (suc depth) l) (map plain (drop number series))) (map_from-past plain around number past)
    ∙ ap (λ (l : List Tree). first_difference (same_shape (suc depth)) number [] l) (map_from-past plain series number past')) ∙ rest

pub members-fewer : (way : List ℕ) (depth number : ℕ) (around series : List Value) (all : Option ℕ) → 1 ≤ depth → length around ≤ number → number < length series
    → first_difference (same_shape depth) number (replaced (along way) depth (map plain (drop number around))) (map plain (drop number series)) ≡ all → Some number ≡ all
members-fewer way zero number around series all some past less rest = absurd (omega (arith, some))
members-fewer way (suc depth) number around series all some past less rest =
    sym (ap (λ (l : List Tree). first_difference (same_shape (suc depth)) number (replaced (along way) (suc depth) l) (map plain (drop number series))) (map_from-past plain around number past)
    ∙ one_left (map plain (drop number series)) (left-over series number less)) ∙ rest
  where
    one_left : (l : List Tree) → 1 ≤ length l → first_difference (same_shape (suc depth)) number [] l ≡ Some number
    one_left [] some = absurd (omega (arith, some))
    one_left (x ∷ l) some = refl

    left-over : (l : List Value) (at : ℕ) → at < length l → 1 ≤ length (map plain (drop at l))
    left-over [] at less = absurd (omega (arith, less))
    left-over (x ∷ l) zero less = omega arith
    left-over (x ∷ l) (suc at) less = left-over l at (omega (arith, less))

pub members-more : (way : List ℕ) (depth number : ℕ) (around series : List Value) (all : Option ℕ) → 1 ≤ depth → number < length around → length series ≤ number
    → first_difference (same_shape depth) number (replaced (along way) depth (map plain (drop number around))) (map plain (drop number series)) ≡ all → Some number ≡ all
members-more way zero number around series all some less past rest = absurd (omega (arith, some))
members-more way (suc depth) number around series all some less past rest =
    sym (ap (λ (l : List Tree). first_difference (same_shape (suc depth)) number (replaced (along way) (suc depth) (map plain (drop number around))) l) (map_from-past plain series number past)
    ∙ one_left (map plain (drop number around)) (left-over around number less)) ∙ rest
  where
    one_left : (l : List Tree) → 1 ≤ length l → first_difference (same_shape (suc depth)) number (replaced (along way) (suc depth) l) [] ≡ Some number
    one_left [] some = absurd (omega (arith, some))
    one_left (x ∷ l) some = refl

    left-over : (l : List Value) (at : ℕ) → at < length l → 1 ≤ length (map plain (drop at l))
    left-over [] at less = absurd (omega (arith, less))
    left-over (x ∷ l) zero less = omega arith
    left-over (x ∷ l) (suc at) less = left-over l at (omega (arith, less))

-- ---- Streams whose nests stand one after another

pub flat-packet : (way : List ℕ) (dims : ℕ) (kind : Sync) (around series : List Value) (found : Option ℕ) → kind ≡ syncs.Flatten
    → found ≡ first_difference (same_shape 0) 0 (filter_map (along way) (leaves dims (map plain around))) (map plain series)
    → found ≡ packet_of kind dims (replaced (along way) dims (map plain around)) (map plain series)
flat-packet way dims kind around series found is same =
    same ∙ ap (λ (l : List Tree). first_difference (same_shape 0) 0 l (map plain series)) (sym (leaves-replaced (along way) dims (map plain around)))
    ∙ ap (λ (s : Sync). packet_of s dims (replaced (along way) dims (map plain around)) (map plain series)) (sym is)

pub flat_apart-packet : (way : List ℕ) (dims : ℕ) (kind : Sync) (around series : List Value) (found : Option ℕ) → kind ≡ syncs.FlatDesync
    → found ≡ first_difference (same_shape 0) 0 (filter_map (along way) (leaves dims (map plain around))) (map plain series)
    → found ≡ packet_of kind dims (replaced (along way) dims (map plain around)) (map plain series)
flat_apart-packet way dims kind around series found is same =
    same ∙ ap (λ (l : List Tree). first_difference (same_shape 0) 0 l (map plain series)) (sym (leaves-replaced (along way) dims (map plain around)))
    ∙ ap (λ (s : Sync). packet_of s dims (replaced (along way) dims (map plain around)) (map plain series)) (sym is)

pub is-some : (found : Option ℕ) (test : Bool) → test ≡ is_some found → test ≡ true → is_none found ≡ false
is-some None test is t = (let no' : false ≡ true = sym is ∙ t in cc)
is-some (Some n) test is t = refl

pub is-none : (found : Option ℕ) (test : Bool) → test ≡ is_some found → test ≡ false → is_none found ≡ true
is-none None test is f = refl
is-none (Some n) test is f = (let no' : true ≡ false = sym is ∙ f in cc)
