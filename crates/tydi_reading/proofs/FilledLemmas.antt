-- Rules that take a thing at least.
use Rattle.std.proofs.Common.{◌<◌, List, length, ap, ◌∙◌, arith}
use Rattle.std.proofs.lemmas.List.{length-append}
use Rattle.tydi_reading.specs.Forms.{Form, ◌⋯◌}
use Rattle.tydi_reading.specs.Reading.{Reader, Shrinks}
use Rattle.tydi_reading.specs.Rules.{IsRule}

pub shrinks-rule : {E T A : Type 0} (Good : T → Type 0) (p : Reader E T A) (Spelled : A → Form T) (Next : A → Form T) (Within : A → Type 0) (Unfit : Form T)
    → ((x : A) (front : List T) → Spelled x front → 0 < length front) → IsRule E Good p Spelled Next Within Unfit → Shrinks p
shrinks-rule Good p Spelled Next Within Unfit filled rule = record {
  less = λ ts rest x is.
      let f = rule.sound ts rest x is in
      let some = filled x f.front f.spelled in
      let whole = ap length f.split ∙ length-append f.front rest in
      omega arith;
}

-- a list that begins or ends with a form that is not empty is not empty
pub filled-first : {T : Type 0} (First Second : Form T) (ts : List T) → ((front : List T) → First front → 0 < length front) → (First ⋯ Second) ts → 0 < length ts
filled-first First Second ts filled b = let some = filled b.front b.begins in let whole = ap length b.all ∙ length-append b.front b.back in omega arith

pub filled-second : {T : Type 0} (First Second : Form T) (ts : List T) → ((back : List T) → Second back → 0 < length back) → (First ⋯ Second) ts → 0 < length ts
filled-second First Second ts filled b = let some = filled b.back b.ends in let whole = ap length b.all ∙ length-append b.front b.back in omega arith
