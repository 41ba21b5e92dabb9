-- The line of a fault.
use Rattle.std.proofs.Common.{◌≡◌, ℕ, List, [], ◌∷◌, ◌++◌, map, codes, refl, sym, ap, ◌∙◌, append_assoc}
use Rattle.std.specs.List.{flat_map}
use Rattle.tydi_tool.specs.declared.refusal.Detail.{Detail}
use Rattle.tydi_tool.specs.Refusals.{said_by, detail_text, details_text, refusal_line}

-- details, as they are written one after another
details_text-said : (details : List Detail) → flat_map (λ detail. detail_text (said_by detail)) details ≡ details_text (map said_by details)
details_text-said [] = refl
details_text-said (detail ∷ more) = ap (λ (l : List ℕ). detail_text (said_by detail) ++ l) (details_text-said more)

pub refusal_line-written : (name : List ℕ) (details : List Detail) (written empty : List ℕ) → empty ≡ [] →
    written ≡ empty ++ (codes "tydi: " ++ (name ++ (flat_map (λ detail. detail_text (said_by detail)) details ++ codes "\n"))) →
    written ≡ refusal_line (record { name = name; details = map said_by details })
refusal_line-written name details written empty none e =
    e ∙ ap (λ (l : List ℕ). l ++ (codes "tydi: " ++ (name ++ (flat_map (λ detail. detail_text (said_by detail)) details ++ codes "\n")))) none
    ∙ ap (λ (l : List ℕ). codes "tydi: " ++ (name ++ (l ++ codes "\n"))) (details_text-said details)
    ∙ ap (λ (l : List ℕ). codes "tydi: " ++ l) (sym (append_assoc name (details_text (map said_by details)) (codes "\n")))
