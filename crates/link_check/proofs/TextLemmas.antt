-- A text that is longer than a limit as soon as its front is.
use Rattle.std.proofs.Common.{◌≡◌, ℕ, ◌+◌, ◌<◌, Bool, cond, List, ◌∷◌, ◌++◌, length, get_or, take, drop, Some, None, sym, ap, ◌∙◌, arith, length-append}
use Rattle.std.specs.List.{flat_map}
use Rattle.std.proofs.lemmas.Bool.{lt-ltb}
use Rattle.std.proofs.lemmas.Grind.{flat_map-append}
use Rattle.std.proofs.lemmas.List.{drop_more, take-append-drop}
use Rattle.std.proofs.lemmas.List.Concat.{flat_map-cons}
use Rattle.link_check.specs.Text.{within}

pub too-long : {A : Type 0} (text : A → List ℕ) (all : List A) (i : ℕ) (one : A) (old new : List ℕ) (limit : ℕ) → i < length all → one ≡ get_or all i one
    → old ≡ flat_map text (take i all) → new ≡ old ++ text one → limit < length new → None ≡ within limit (flat_map text all)
too-long text all i one old new limit inside is before added over =
    let first : drop i all ≡ one ∷ drop (i + 1) all = drop_more all i one inside ∙ ap (λ x. x ∷ drop (i + 1) all) (sym is) in
    let whole : flat_map text all ≡ flat_map text (take i all) ++ (text one ++ flat_map text (drop (i + 1) all)) =
    ap (flat_map text) (sym (take-append-drop i all)) ∙ flat_map-append text (take i all) (drop i all)
    ∙ ap (λ l. flat_map text (take i all) ++ l) (ap (flat_map text) first ∙ flat_map-cons text one (drop (i + 1) all)) in
    let long : limit < length (flat_map text all) =
    omega (
      arith,
      ap length whole,
      length-append (flat_map text (take i all)) (text one ++ flat_map text (drop (i + 1) all)),
      length-append (text one) (flat_map text (drop (i + 1) all)),
      ap length before,
      ap length added,
      length-append old (text one),
      over,
    ) in
    sym (ap (λ (b : Bool). cond b None (Some (flat_map text all))) (lt-ltb limit (length (flat_map text all)) long))
