-- The leaves among the tokens that are left.
use Rattle.std.proofs.Common.{◌≡◌, ◌∙◌, ◌⊎◌, inl, inr, ℕ, zero, suc, ◌-◌, Bool, true, false, cond, List, [], ◌∷◌, map, Some, None, refl, sym, ap, arith}
use Rattle.std.specs.List.{filter}
use Rattle.tydi_reading.specs.Reading.{first, rest_of}
use Rattle.value_text.specs.declared.token.Token.{Token}
use Rattle.value_text.specs.Leaves.{begins_leaf, behind, leaves_of, surplus}
use Rattle.value_text.specs.Tokens.{PlainToken, token_view}

abbrev with_leaf : Bool → PlainToken → List PlainToken → List ℕ
with_leaf counts t ts = map (λ (token : PlainToken). token.left) (cond counts (t ∷ filter begins_leaf ts) (filter begins_leaf ts))

passed-leaf : (room : ℕ) (t : PlainToken) (ts : List PlainToken) → (room ≡ 0 → ⊥) → behind (room - 1) (leaves_of ts) ≡ behind room (with_leaf true t ts)
passed-leaf zero t ts some = absurd (some refl)
passed-leaf (suc room) t ts some = let less : suc room - 1 ≡ room = omega arith in ap (λ (n : ℕ). behind n (leaves_of ts)) less

-- a token that is passed leaves the leaf that is looked for among those that follow
pub surplus-step : (room next : ℕ) (ts rest : List PlainToken) (token : Token) (counts : Bool) → Some (token_view token) ≡ first ts → rest ≡ rest_of ts
    → counts ≡ begins_leaf (token_view token) → next ≡ room - cond counts 1 0 → ((counts ≡ true) × (room ≡ 0 → ⊥)) ⊎ (counts ≡ false)
    → surplus next rest ≡ surplus room ts
surplus-step room next [] rest token counts is left tells less either = absurd (let no : Some (token_view token) ≡ None = is in cc)
surplus-step room next (t ∷ ts) rest token counts is left tells less (inl passes) =
    let same : token_view token ≡ t = cc in
    let counted : begins_leaf t ≡ true = sym (ap begins_leaf same) ∙ sym tells ∙ passes.0 in
    let one : next ≡ room - 1 = less ∙ ap (λ (b : Bool). room - cond b 1 0) passes.0 in
    ap (surplus next) left ∙ ap (λ (n : ℕ). surplus n ts) one ∙ passed-leaf room t ts passes.1 ∙ ap (λ (b : Bool). behind room (with_leaf b t ts)) (sym counted)
surplus-step room next (t ∷ ts) rest token counts is left tells less (inr none) =
    let same : token_view token ≡ t = cc in
    let counted : begins_leaf t ≡ false = sym (ap begins_leaf same) ∙ sym tells ∙ none in
    let one : next ≡ room = less ∙ ap (λ (b : Bool). room - cond b 1 0) none ∙ omega arith in
    ap (surplus next) left ∙ ap (λ (n : ℕ). surplus n ts) one ∙ ap (λ (b : Bool). behind room (with_leaf b t ts)) (sym counted)
