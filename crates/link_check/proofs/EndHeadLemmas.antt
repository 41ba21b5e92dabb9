-- The heads between two ports.
use Rattle.std.proofs.Common.{◌≡◌, ◌∙◌, ◌⊎◌, inl, inr, List, [], ◌∷◌, ◌++◌, map, false, refl, sym, ap, subst}
use Rattle.std.proofs.lemmas.List.{append-nil}
use Rattle.physical_stream.specs.declared.head.Head.{Head}
use Rattle.type_split.specs.declared.split.Phys.{Phys}
use Rattle.logical_types.specs.Tree.{Ltype}
use Rattle.link_check.specs.Carriers.{AreBetween, CanRise}
use Rattle.link_check.specs.Carry.{head_of_stream, heads_from, heads_of_port, heads_to}
use Rattle.link_check.specs.Compatible.{Compatible}
use Rattle.link_check.specs.declared.end_heads.EndHeads.{EndHeads}
use Rattle.link_check.proofs.TwinLemmas.{compatible_ports_rise}

-- the heads so far and those of the streams that are left are all heads
pub record AreSoFar (source sink left others : List Head) (heads : EndHeads) : Type 0 where
  pub from : heads.from ++ heads_from left others ≡ heads_from source sink
  pub to : heads.to ++ heads_to left others ≡ heads_to source sink

none-left : (left others : List Phys) → (left ≡ []) ⊎ (others ≡ [])
    → (heads_from (map head_of_stream left) (map head_of_stream others) ≡ []) × (heads_to (map head_of_stream left) (map head_of_stream others) ≡ [])
none-left [] others ended = (refl, refl)
none-left (one ∷ left) [] ended = (refl, refl)
none-left (one ∷ left) (other ∷ others) (inl none) = absurd cc
none-left (one ∷ left) (other ∷ others) (inr none) = absurd cc

pub all-between : (source sink : List Head) (left others : List Phys) (heads : EndHeads) → AreSoFar source sink (map head_of_stream left) (map head_of_stream others) heads → (left ≡ []) ⊎ (others ≡ []) → AreBetween source sink heads
all-between source sink left others heads so_far ended = let none = none-left left others ended in record {
  from = sym (append-nil heads.from) ∙ ap (λ (l : List Head). heads.from ++ l) (sym none.0) ∙ so_far.from;
  to = sym (append-nil heads.to) ∙ ap (λ (l : List Head). heads.to ++ l) (sym none.1) ∙ so_far.to;
}

-- between compatible ports no level falls
pub can-rise : (source sink : List Head) (heads : EndHeads) → AreBetween source sink heads → (one other : Ltype) → source ≡ heads_of_port one → sink ≡ heads_of_port other → Compatible false one other → CanRise heads.from heads.to
can-rise source sink heads between one other here there compatible =
    let rise = compatible_ports_rise one other compatible in
    subst (λ (l : List Head). CanRise l heads.to) (sym (between.from ∙ ap (λ (l : List Head). heads_from l sink) here ∙ ap (heads_from (heads_of_port one)) there))
    (subst (CanRise (heads_from (heads_of_port one) (heads_of_port other))) (sym (between.to ∙ ap (λ (l : List Head). heads_to l sink) here ∙ ap (heads_to (heads_of_port one)) there))
    (record { alike = rise.alike; rise = rise.rise }))
