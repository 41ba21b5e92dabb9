-- Queues of nests, the next one last.
use Rattle.std.proofs.Common.{◌≡◌, ◌∙◌, ◌≤◌, ◌-◌, ℕ, zero, suc, List, [], ◌∷◌, ◌++◌, map, reverse, Option, Some, None, refl, sym, ap, arith, append_assoc}
use Rattle.std.specs.Prelude.{MatchOption}
use Rattle.std.proofs.lemmas.List.{append-nil, map-append}
use Rattle.logical_value.specs.Tree.{Tree, members, plain}
use Rattle.logical_value.specs.declared.value.Value.{Value}
use Rattle.value_views.specs.Series.{leaves}
use Rattle.value_views.proofs.SeriesLemmas.{leaves-append, leaves-nil}

pub push-next : (depth : ℕ) (rest new : List Value) (value : Value) (inner queue pushed : List Value) (all : List Tree) → 1 ≤ depth → rest ≡ new ++ value ∷ []
    → map plain inner ≡ members (plain value) → map plain (reverse pushed) ≡ leaves (depth - 1) (map plain inner) ++ map plain (reverse queue)
    → leaves depth (map plain rest) ++ map plain (reverse queue) ≡ all → leaves depth (map plain new) ++ map plain (reverse pushed) ≡ all
push-next zero rest new value inner queue pushed all some is are added done = absurd (omega (arith, some))
push-next (suc depth) rest new value inner queue pushed all some is are added done =
    let less : suc depth - 1 ≡ depth = omega arith in
    let q = map plain (reverse queue) in
    let last : leaves (suc depth) (plain value ∷ []) ≡ leaves depth (members (plain value)) = ap (leaves depth) (append-nil (members (plain value))) in
    ap (λ (l : List Tree). leaves (suc depth) (map plain new) ++ l)
    (added ∙ ap (λ (d : ℕ). leaves d (map plain inner) ++ q) less ∙ ap (λ (l : List Tree). leaves depth l ++ q) are ∙ ap (λ (l : List Tree). l ++ q) (sym last))
    ∙ sym (append_assoc (leaves (suc depth) (map plain new)) (leaves (suc depth) (plain value ∷ [])) q)
    ∙ ap (λ (l : List Tree). l ++ q) (sym (leaves-append (suc depth) (map plain new) (plain value ∷ [])))
    ∙ ap (λ (l : List Tree). leaves (suc depth) l ++ q) (sym (map-append plain new (value ∷ [])))
    ∙ ap (λ (l : List Value). leaves (suc depth) (map plain l) ++ q) (sym is) ∙ done

pub none-left : (popped : Option Value) (rest new : List Value) → MatchOption popped ((rest ≡ []) × (new ≡ [])) (λ last. rest ≡ new ++ last ∷ []) → ((x : Value) → popped ≡ Some x → ⊥) → rest ≡ []
none-left None rest new is not = is.0
none-left (Some x) rest new is not = absurd (not x refl)

pub push-done : (depth : ℕ) (rest queue : List Value) (all : List Tree) → rest ≡ [] → leaves depth (map plain rest) ++ map plain (reverse queue) ≡ all → map plain (reverse queue) ≡ all
push-done depth rest queue all none done =
    ap (λ (l : List Tree). l ++ map plain (reverse queue)) (sym (leaves-nil depth))
    ∙ ap (λ (l : List Value). leaves depth (map plain l) ++ map plain (reverse queue)) (sym none) ∙ done
