-- How long the text of a design is, of which so much is made.
use Rattle.std.proofs.Common.{◌≡◌, ℕ, ◌+◌, ◌-◌, nat_lt, ◌<◌, ◌≤◌, true, List, [], ◌∷◌, ◌++◌, length, min, append_assoc, sym, ap, ◌∙◌, subst, arith}
use Rattle.std.specs.List.{flat_map}
use Rattle.std.proofs.lemmas.Bool.Decides.{nat_tests}
use Rattle.std.proofs.lemmas.Grind.{flat_map-append}
use Rattle.std.proofs.lemmas.List.{length-append}
use Rattle.tydi_base.specs.Lengths.{most_bytes}
use Rattle.vhdl_text.specs.Text.{◌⁀◌}
use Rattle.vhdl_text.specs.VerilogText.{module_text, text_in}
use Rattle.vhdl_text.specs.declared.arch.Arch.{Arch}
use Rattle.vhdl_text.specs.declared.language.Language.{Language}
use Rattle.vhdl_text.specs.declared.language.Language.TheVariants as languages
use Rattle.vhdl_writer.specs.Designs.{AreMade, design_text, first_directive, last_directive, length_of}

-- ---- texts of streamlets

abbrev texts : Language → List Arch → List ℕ
texts language archs = flat_map (text_in language) archs

-- the bytes of a design are those of its streamlets, and those that it has without one
design-length : (language : Language) (archs : List Arch) → length (design_text language archs) ≡ length (design_text language []) + length (texts language archs)
design-length languages.Vhdl archs = omega arith
design-length languages.Verilog archs =
    omega (arith, length-append first_directive (flat_map module_text archs ⁀ last_directive), length-append (flat_map module_text archs) last_directive)

texts-more : (language : Language) (so_far : List Arch) (arch : Arch) (rest : List Arch)
    → length (texts language (so_far ++ arch ∷ rest)) ≡ length (texts language so_far) + (length (text_in language arch) + length (texts language rest))
texts-more language so_far arch rest =
    ap length (flat_map-append (text_in language) so_far (arch ∷ rest)) ∙ length-append (texts language so_far) (text_in language arch ++ texts language rest)
    ∙ ap (λ (n : ℕ). length (texts language so_far) + n) (length-append (text_in language arch) (texts language rest))

-- ---- what is made so far

-- one streamlet more
length-more : (language : Language) (archs : List Arch) (arch : Arch) (before one after : ℕ) → before ≡ length_of language archs → one ≡ min (length (text_in language arch)) most_bytes
    → after ≡ min (before + one) most_bytes → after ≡ length_of language (archs ++ arch ∷ [])
length-more language archs arch before one after is counted sum =
    let now = design-length language archs in
    let then_ = design-length language (archs ++ arch ∷ []) in
    let more = texts-more language archs arch [] in
    omega (arith, now, then_, more, is, counted, sum)

-- where the text so far and that of the next, or a part of it, is over the limit, so is the whole
text-over : (language : Language) (limit : ℕ) (all so_far rest : List Arch) (arch : Arch) (count least : ℕ) → count ≡ length_of language so_far → count ≤ limit → limit < most_bytes
    → so_far ++ arch ∷ rest ≡ all → least ≤ length (text_in language arch) → limit < count + least → limit < length (design_text language all)
text-over language limit all so_far rest arch count least counted within few together long over =
    let whole = ap (λ (archs : List Arch). length (design_text language archs)) (sym together) ∙ design-length language (so_far ++ arch ∷ rest) in
    let now = design-length language so_far in
    let more = texts-more language so_far arch rest in
    omega (arith, whole, now, more, counted, within, few, long, over)

over-test : (left least : ℕ) → nat_lt left least ≡ true → left < least
over-test left least over = grind (arith, nat_tests)

-- where the bytes that a design has without a streamlet are over it, so is the whole
pub none-over : (language : Language) (limit count : ℕ) (all : List Arch) → count ≡ length_of language [] → limit < count → limit < length (design_text language all)
none-over language limit count all is over = omega (arith, design-length language all, is, over)

-- where the next streamlet alone is over what is left of the limit, so is the whole
pub next-over : (language : Language) (limit : ℕ) (all so_far rest : List Arch) (arch : Arch) (count left least : ℕ) → AreMade language limit all so_far (arch ∷ rest) count → limit < most_bytes
    → left ≡ limit - count → least ≤ length (text_in language arch) → nat_lt left least ≡ true → limit < length (design_text language all)
next-over language limit all so_far rest arch count left least made few is long over =
    text-over language limit all so_far rest arch count least made.count_is made.within few made.together long (let more = over-test left least over in omega (arith, more, is, made.within))

-- and where the count with its text is over
pub count-over : (language : Language) (limit : ℕ) (all so_far rest : List Arch) (arch : Arch) (count one after : ℕ) → AreMade language limit all so_far (arch ∷ rest) count → limit < most_bytes
    → one ≡ min (length (text_in language arch)) most_bytes → after ≡ min (count + one) most_bytes → limit < after → limit < length (design_text language all)
count-over language limit all so_far rest arch count one after made few is sum over =
    text-over language limit all so_far rest arch count (length (text_in language arch)) made.count_is made.within few made.together (omega arith) (omega (arith, is, sum, over, few))

-- else it is made
pub made-more : (language : Language) (limit : ℕ) (all so_far rest : List Arch) (arch : Arch) (count one after : ℕ) → AreMade language limit all so_far (arch ∷ rest) count
    → one ≡ min (length (text_in language arch)) most_bytes → after ≡ min (count + one) most_bytes → after ≤ limit → AreMade language limit all (so_far ++ arch ∷ []) rest after
made-more language limit all so_far rest arch count one after made is sum within = record {
  together = append_assoc so_far (arch ∷ []) rest ∙ made.together;
  count_is = length-more language so_far arch count one after made.count_is is sum;
  within = within;
}

pub made-pushed : (language : Language) (limit : ℕ) (all so_far pushed rest : List Arch) (made arch : Arch) (count : ℕ) → pushed ≡ so_far ++ made ∷ [] → made ≡ arch
    → AreMade language limit all (so_far ++ arch ∷ []) rest count → AreMade language limit all pushed rest count
made-pushed language limit all so_far pushed rest made arch count is same are =
    subst (λ (archs : List Arch). AreMade language limit all archs rest count) (sym (is ∙ ap (λ (one : Arch). so_far ++ one ∷ []) same)) are
