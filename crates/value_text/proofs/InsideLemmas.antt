-- What is inside a value is of the plain data of the value.
use Rattle.std.proofs.Common.{◌≡◌, ◌∙◌, ℕ, List, sym, ap}
use Rattle.std.specs.Prelude.{Bool}
use Rattle.logical_value.specs.declared.value.Value.{Value}
use Rattle.logical_value.specs.declared.value.Value.TheVariants as values
use Rattle.logical_value.specs.Tree.{word, group, union, list, plain, plain_values}
use Rattle.logical_value.proofs.PlainLemmas.{plain-Word, plain-Group, plain-Union, plain-List}

pub inside-Word : (value : Value) (bits made : List Bool) → value ≡ values.Word bits → made ≡ bits → word made ≡ plain value
inside-Word value bits made is same = ap word same ∙ sym (plain-Word bits) ∙ ap plain (sym is)

pub inside-Group : (value : Value) (parts made : List Value) → value ≡ values.Group parts → made ≡ parts → group (plain_values made) ≡ plain value
inside-Group value parts made is same = ap (λ (vs : List Value). group (plain_values vs)) same ∙ sym (plain-Group parts) ∙ ap plain (sym is)

pub inside-Union : (value : Value) (tag : ℕ) (part made : Value) → value ≡ values.Union tag part → made ≡ part → union tag (plain made) ≡ plain value
inside-Union value tag part made is same = ap (λ (v : Value). union tag (plain v)) same ∙ sym (plain-Union tag part) ∙ ap plain (sym is)

pub inside-List : (value : Value) (parts made : List Value) → value ≡ values.List parts → made ≡ parts → list (plain_values made) ≡ plain value
inside-List value parts made is same = ap (λ (vs : List Value). list (plain_values vs)) same ∙ sym (plain-List parts) ∙ ap plain (sym is)
