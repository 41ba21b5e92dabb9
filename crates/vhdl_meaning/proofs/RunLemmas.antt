-- The lines of a run text, one after another.
use Rattle.std.proofs.Common.{◌≡◌, ◌∙◌, ℕ, suc, ◌+◌, ◌-◌, ◌<◌, List, [], ◌∷◌, ◌++◌, length, replicate, Ok, refl, ap, sym, append_assoc, arith}
use Rattle.std.proofs.lemmas.List.{length-append}
use Rattle.physical_stream.specs.declared.head.Head.{Head}
use Rattle.vhdl_meaning.specs.RunLines.{TextLine}
use Rattle.vhdl_meaning.specs.RunText.{Given, with_more, given_of, orders_in}
use Rattle.vhdl_meaning.specs.Orders.{text_order}

-- one line more
pub given_of-more : (cycles : ℕ) (heads : List Head) (count : ℕ) (given more : Given) (lines rest : List TextLine) (line : TextLine) → lines ≡ line ∷ rest →
    with_more cycles heads count line given ≡ Ok more → given_of cycles heads count given lines ≡ given_of cycles heads count more rest
given_of-more cycles heads count given more lines rest line first read = rw (first, read) refl

-- one order more, where some are lacking
pub orders_in-more : (cycles count : ℕ) (all new : List (List ℕ)) → length all < cycles → new ≡ all ++ text_order count ∷ [] → orders_in cycles count new ≡ orders_in cycles count all
orders_in-more cycles count all new less is =
    let long : length new ≡ length all + 1 = ap length is ∙ length-append all (text_order count ∷ []) in
    let one : cycles - length all ≡ suc (cycles - length new) = omega (arith, less, long) in
    ap (λ l. l ++ replicate (cycles - length new) (text_order count)) is
    ∙ append_assoc all (text_order count ∷ []) (replicate (cycles - length new) (text_order count))
    ∙ ap (λ n. all ++ replicate n (text_order count)) (sym one)
