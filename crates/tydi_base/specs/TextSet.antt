-- Sets of texts, asked by the bytes of a text. This project's own.
use Rattle.std.specs.Prelude.{◌≡◌, ℕ, Bool, ◌||◌, List}
use Rattle.std.specs.List.{list_any}
use Rattle.std.specs.Str.{bytes_eq}
use Rattle.std.specs.Ordering.{nat_cmp}
use Rattle.std.specs.Cmp.Lexicographic.{slice_cmp}
use Rattle.std.specs.BTreeSet.{BTreeSet, contains_by}
use Rattle.std.specs.declared.vec.Vec.{Vec}

-- whether a text of these bytes is in the set
abbrev pub has_text : {Y : Type 0} → BTreeSet (Vec ℕ Y) → List ℕ → Bool
has_text set text = contains_by (λ k. slice_cmp nat_cmp text k.items) set

-- the new set has this text too, and no other that the old one had not
abbrev pub AddsText : {Y : Type 0} → BTreeSet (Vec ℕ Y) → BTreeSet (Vec ℕ Y) → List ℕ → Type 0
AddsText old new text = (other : List ℕ) → has_text new other ≡ (bytes_eq other text || has_text old other)

-- the set has these texts, and no others
pub record HasTexts {Y : Type 0} (set : BTreeSet (Vec ℕ Y)) (texts : List (List ℕ)) : Type 0 where
  pub same : (text : List ℕ) → has_text set text ≡ list_any (bytes_eq text) texts
