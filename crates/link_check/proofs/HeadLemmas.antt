-- Heads that are compared.
use Rattle.std.proofs.Common.{◌≡◌, ◌∙◌, ◌==◌, ◌&&◌, ℕ, ◌≤◌, Decides, eqb, List, length, take, refl, ap}
use Rattle.std.proofs.Math.Bool.{beq}
use Rattle.std.proofs.lemmas.Bool.Decides.{Decides-eqb, Decides-and, Decides-like}
use Rattle.std.proofs.lemmas.Slice.Eq.{bytes_eq-Decides, slice_eq-Decides}
use Rattle.std.specs.Cmp.{booleans_Decides}
use Rattle.std.specs.Cmp.Lexicographic.{pointwise}
use Rattle.tydi_base.specs.Level.{LevelNumbers}
use Rattle.physical_stream.specs.Params.{Parameters}
use Rattle.physical_stream.specs.declared.head.Head.{Head}

-- ---- two heads

abbrev SameNumbers : LevelNumbers → LevelNumbers → Type 0
SameNumbers a b = (a.first ≡ b.first) × ((a.second ≡ b.second) × ((a.third ≡ b.third) × (a.fourth ≡ b.fourth)))

same-level : (a b : LevelNumbers) → SameNumbers a b → a ≡ b
same-level a b s =
    ap (λ n. record { first = n; second = a.second; third = a.third; fourth = a.fourth }) s.0 ∙ ap (λ n. record { first = b.first; second = n; third = a.third; fourth = a.fourth }) s.1.0
    ∙ ap (λ n. record { first = b.first; second = b.second; third = n; fourth = a.fourth }) s.1.1.0
    ∙ ap (λ n. record { first = b.first; second = b.second; third = b.third; fourth = n }) s.1.1.1

numbers-same : (a b : LevelNumbers) → a ≡ b → SameNumbers a b
numbers-same a b e = (ap (λ (l : LevelNumbers). l.first) e, (ap (λ (l : LevelNumbers). l.second) e, (ap (λ (l : LevelNumbers). l.third) e, ap (λ (l : LevelNumbers). l.fourth) e)))

Level-Decides : (a b : LevelNumbers) → Decides ((a.first == b.first) && ((a.second == b.second) && ((a.third == b.third) && (a.fourth == b.fourth)))) (a ≡ b)
Level-Decides a b = Decides-like _ (same-level a b) (numbers-same a b)
    (Decides-and _ _ (Decides-eqb a.first b.first) (Decides-and _ _ (Decides-eqb a.second b.second) (Decides-and _ _ (Decides-eqb a.third b.third) (Decides-eqb a.fourth b.fourth))))

abbrev SameParams : Parameters → Parameters → Type 0
SameParams a b = (a.lanes ≡ b.lanes) × ((a.dims ≡ b.dims) × ((a.level ≡ b.level) × ((a.element ≡ b.element) × (a.user ≡ b.user))))

same-params : (a b : Parameters) → SameParams a b → a ≡ b
same-params a b s =
    ap (λ n. record { lanes = n; dims = a.dims; level = a.level; element = a.element; user = a.user }) s.0 ∙ ap (λ n. record { lanes = b.lanes; dims = n; level = a.level; element = a.element; user = a.user }) s.1.0
    ∙ ap (λ (l : LevelNumbers). record { lanes = b.lanes; dims = b.dims; level = l; element = a.element; user = a.user }) s.1.1.0
    ∙ ap (λ n. record { lanes = b.lanes; dims = b.dims; level = b.level; element = n; user = a.user }) s.1.1.1.0
    ∙ ap (λ n. record { lanes = b.lanes; dims = b.dims; level = b.level; element = b.element; user = n }) s.1.1.1.1

params-same : (a b : Parameters) → a ≡ b → SameParams a b
params-same a b e = (
  ap (λ (p : Parameters). p.lanes) e,
  (ap (λ (p : Parameters). p.dims) e, (ap (λ (p : Parameters). p.level) e, (ap (λ (p : Parameters). p.element) e, ap (λ (p : Parameters). p.user) e))),
)

Params-Decides : (a b : Parameters) → Decides ((a.lanes == b.lanes) && ((a.dims == b.dims)
    && (((a.level.first == b.level.first) && ((a.level.second == b.level.second) && ((a.level.third == b.level.third) && (a.level.fourth == b.level.fourth)))) && ((a.element == b.element) && (a.user == b.user))))) (a ≡ b)
Params-Decides a b = Decides-like _ (same-params a b) (params-same a b)
    (Decides-and _ _ (Decides-eqb a.lanes b.lanes) (Decides-and _ _ (Decides-eqb a.dims b.dims)
    (Decides-and _ _ (Level-Decides a.level b.level) (Decides-and _ _ (Decides-eqb a.element b.element) (Decides-eqb a.user b.user)))))

abbrev SameParts : Head → Head → Type 0
SameParts a b = (a.path ≡ b.path) × ((a.params ≡ b.params) × (a.reversed ≡ b.reversed))

same-head : (a b : Head) → SameParts a b → a ≡ b
same-head a b s = ap (λ (p : List (List ℕ)). record { path = p; params = a.params; reversed = a.reversed }) s.0 ∙ ap (λ (p : Parameters). record { path = b.path; params = p; reversed = a.reversed }) s.1.0
    ∙ ap (λ r. record { path = b.path; params = b.params; reversed = r }) s.1.1

parts-same : (a b : Head) → a ≡ b → SameParts a b
parts-same a b e = (ap (λ (h : Head). h.path) e, (ap (λ (h : Head). h.params) e, ap (λ (h : Head). h.reversed) e))

path-Decides : (a b : List (List ℕ)) → Decides (pointwise (pointwise eqb) a b) (a ≡ b)
path-Decides a b = slice_eq-Decides bytes_eq-Decides a b (pointwise (pointwise eqb) a b) refl

pub Head-Decides : (a b : Head) → Decides (pointwise (pointwise eqb) a.path b.path && (((a.params.lanes == b.params.lanes) && ((a.params.dims == b.params.dims)
    && (((a.params.level.first == b.params.level.first) && ((a.params.level.second == b.params.level.second) && ((a.params.level.third == b.params.level.third) && (a.params.level.fourth == b.params.level.fourth))))
    && ((a.params.element == b.params.element) && (a.params.user == b.params.user))))) && beq a.reversed b.reversed)) (a ≡ b)
Head-Decides a b = Decides-like _ (same-head a b) (parts-same a b) (Decides-and _ _ (path-Decides a.path b.path) (Decides-and _ _ (Params-Decides a.params b.params) (booleans_Decides a.reversed b.reversed)))

-- ---- heads one after another

-- the heads before this stream are one
pub record AreSame (heads others : List Head) (stream : ℕ) : Type 0 where
  pub within : stream ≤ length heads
  pub also : stream ≤ length others
  pub same : take stream heads ≡ take stream others
