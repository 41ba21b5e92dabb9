-- The architectures of streamlets, one after another.
use Rattle.std.proofs.Common.{◌≡◌, ℕ, zero, suc, add-one, ◌+◌, ◌<◌, List, [], ◌∷◌, ◌++◌, map, length, get_or, drop, sym, ap, ◌∙◌, subst, arith}
use Rattle.til_resolve.specs.PlainProject.{PlainStreamlet, plain_streamlet}
use Rattle.til_resolve.specs.declared.project.Streamlet.{Streamlet}
use Rattle.link_check.specs.declared.nets.ImplNets.{ImplNets}
use Rattle.vhdl_text.specs.declared.arch.Arch.{Arch}
use Rattle.vhdl_text.specs.declared.language.Language.{Language}
use Rattle.vhdl_writer.specs.Architecture.{arch_of, archs_from}
use Rattle.vhdl_writer.specs.Designs.{AreMade}
use Rattle.vhdl_writer.specs.declared.component.Component.{Component}

drop-at : {A : Type 0} (xs : List A) (n : ℕ) (x : A) → n < length xs → x ≡ get_or xs n x → drop n xs ≡ x ∷ drop (suc n) xs
drop-at [] n x within is = absurd (omega (arith, within))
drop-at (y ∷ xs) zero x within is = ap (λ z. z ∷ xs) (sym is)
drop-at (y ∷ xs) (suc n) x within is = drop-at xs n x (omega (arith, within)) is

-- the next streamlet, before those to come
pub made-next : (language : Language) (limit : ℕ) (all : List Arch) (streamlets : List PlainStreamlet) (components : List Component) (impls : List ImplNets) (left : List Streamlet) (n : ℕ) (one : Streamlet) (so_far : List Arch) (count : ℕ)
    → n < length left → one ≡ get_or left n one → AreMade language limit all so_far (archs_from streamlets components impls n (map plain_streamlet (drop n left))) count
    → AreMade language limit all so_far (arch_of streamlets components impls n (plain_streamlet one) ∷ archs_from streamlets components impls (suc n) (map plain_streamlet (drop (suc n) left))) count
made-next language limit all streamlets components impls left n one so_far count within is made =
    subst (λ (l : List Streamlet). AreMade language limit all so_far (archs_from streamlets components impls n (map plain_streamlet l)) count) (drop-at left n one within is) made

-- and behind it
pub made-then : (language : Language) (limit : ℕ) (all : List Arch) (streamlets : List PlainStreamlet) (components : List Component) (impls : List ImplNets) (left : List Streamlet) (n : ℕ) (so_far : List Arch) (count : ℕ)
    → AreMade language limit all so_far (archs_from streamlets components impls (suc n) (map plain_streamlet (drop (suc n) left))) count
    → AreMade language limit all so_far (archs_from streamlets components impls (n + 1) (map plain_streamlet (drop (n + 1) left))) count
made-then language limit all streamlets components impls left n so_far count made =
    subst (λ (k : ℕ). AreMade language limit all so_far (archs_from streamlets components impls k (map plain_streamlet (drop k left))) count) (sym (add-one n)) made
