-- The answer of the check, put together and taken apart.
use Rattle.std.proofs.Common.{◌≡◌, ◌≢◌, ◌↔◌, Bool, true, false, ◌||◌, IsTrue, List, [], ◌∷◌, ◌++◌, map, Option, Some, None, option_map, Result, Ok, Err, IsPermutation, refl, sym, ap, ◌∙◌, subst, if◌then◌else◌}
use Rattle.std.specs.Bool.{beq}
use Rattle.std.specs.List.{list_all}
use Rattle.std.specs.Option.{option_or}
use Rattle.std.specs.Result.{IsErrAnd}
use Rattle.tydi_base.specs.declared.place.Place.{Place}
use Rattle.til_resolve.specs.PlainProject.{PlainStreamlet}
use Rattle.til_resolve.specs.declared.project.Link.{Link}
use Rattle.link_check.specs.Checked.{AreNets, IsChecked, fault_in, fault_of_bodies, impl_of, linked, nets_in, nets_or}
use Rattle.link_check.specs.Ends.{Inside, Side, ends_of, side_of}
use Rattle.link_check.specs.Laws.{AnswersAreOfTheProject}
use Rattle.link_check.specs.Linking.{IsTold}
use Rattle.link_check.specs.Links.{Body, difference_of, fault_of_body, fault_of_link, fault_of_links, fault_of_sides, is_linked}
use Rattle.link_check.specs.Order.{bodies_from, bodies_in_text}
use Rattle.link_check.specs.Sizes.{IsTooLarge, is_too_large}
use Rattle.link_check.specs.declared.difference.Difference.{Difference}
use Rattle.link_check.specs.declared.fault.LinkFault.{LinkFault}
use Rattle.link_check.specs.declared.fault.LinkFault.TheVariants as faults
use Rattle.link_check.specs.declared.nets.ImplNets.{ImplNets}
use Rattle.link_check.specs.declared.nets.Nets.{Nets}
use Rattle.link_check.proofs.SizeLemmas.{sizes_are_counted_whole, too_large-is}
use Rattle.link_check.proofs.TestLemmas.{neither}
use Rattle.link_check.proofs.TextOrderLemmas.{ordered-moves}

-- ---- put together

module _ (streamlets : List PlainStreamlet) where
  abbrev first : Option LinkFault
  first = fault_of_bodies streamlets (bodies_in_text streamlets)

  fault-linked : (fault : LinkFault) → first ≡ Some fault → linked streamlets ≡ Err fault
  fault-linked fault is = ap (λ (o : Option LinkFault). nets_or (nets_in streamlets) (option_or o (if is_too_large streamlets then Some faults.DesignTooLarge else None))) is

  told-linked : (fault : LinkFault) → IsTold first fault → fault ≢ faults.Memory → linked streamlets ≡ Err fault
  told-linked (faults.UnknownEnd place) told real = fault-linked (faults.UnknownEnd place) told
  told-linked (faults.SameSide place) told real = fault-linked (faults.SameSide place) told
  told-linked (faults.NotCompatible place difference) told real = fault-linked (faults.NotCompatible place difference) told
  told-linked (faults.LinkedTwice place) told real = fault-linked (faults.LinkedTwice place) told
  told-linked (faults.Unlinked place) told real = fault-linked (faults.Unlinked place) told
  told-linked faults.DesignTooLarge told real = absurd told
  told-linked faults.Memory told real = absurd (real refl)

  -- an error of links is that of the project
  pub checked-err : (result : Result Nets LinkFault) (fault : LinkFault) → IsErrAnd result (λ e. e ≡ fault) → IsTold first fault → IsChecked streamlets result
  checked-err (Ok nets) fault is told = absurd is
  checked-err (Err e) fault is told = subst (λ f. f ≢ faults.Memory → linked streamlets ≡ Err f) (sym is) (told-linked fault told)

  after-links : (large : Bool) → first ≡ None → large ≡ is_too_large streamlets → linked streamlets ≡ nets_or (nets_in streamlets) (if large then Some faults.DesignTooLarge else None)
  after-links large none is = ap (λ (o : Option LinkFault). nets_or (nets_in streamlets) (option_or o (if is_too_large streamlets then Some faults.DesignTooLarge else None))) none
      ∙ ap (λ b. nets_or (nets_in streamlets) (if b then Some faults.DesignTooLarge else None)) (sym is)

  -- links without an error, in a project that is too large
  pub large-linked : (large : Bool) → first ≡ None → IsTrue large ↔ IsTooLarge streamlets → large ≡ true → linked streamlets ≡ Err faults.DesignTooLarge
  large-linked large none tells is = after-links large none (too_large-is streamlets large tells) ∙ ap (λ b. nets_or (nets_in streamlets) (if b then Some faults.DesignTooLarge else None)) is

  -- or in one that is not
  pub small-linked : (large : Bool) (impls : List ImplNets) → first ≡ None → impls ≡ map (impl_of streamlets) (bodies_in_text streamlets) → IsTrue large ↔ IsTooLarge streamlets → large ≡ false
      → AreNets streamlets (record { impls = impls })
  small-linked large impls none are tells is = after-links large none (too_large-is streamlets large tells) ∙ ap (λ b. nets_or (nets_in streamlets) (if b then Some faults.DesignTooLarge else None)) is
      ∙ ap (λ (l : List ImplNets). Ok (record { impls = l })) (sym are)

-- ---- taken apart

-- the nets of a project: no body has an error, the project is not too large, and each implementation has its nets
pub record AreOf (streamlets : List PlainStreamlet) (nets : Nets) : Type 0 where
  pub all : IsPermutation (bodies_from 0 streamlets) (bodies_in_text streamlets)
  pub faultless : fault_of_bodies streamlets (bodies_in_text streamlets) ≡ None
  pub small : IsTooLarge streamlets → ⊥
  pub impls_are : nets.impls ≡ map (impl_of streamlets) (bodies_in_text streamlets)

pub nets-of : (streamlets : List PlainStreamlet) (nets : Nets) → AreNets streamlets nets → AreOf streamlets nets
nets-of streamlets nets are = by (fault_in streamlets) refl are
  where
    size : Option LinkFault
    size = if is_too_large streamlets then Some faults.DesignTooLarge else None

    not-large : (large : Bool) → is_too_large streamlets ≡ large → (if large then Some faults.DesignTooLarge else None) ≡ None → IsTooLarge streamlets → ⊥
    not-large true is none too = absurd cc
    not-large false is none too = let no : ◌≡◌ {A = Bool} false true = sym is ∙ (sizes_are_counted_whole streamlets).1 too in absurd cc

    by : (found : Option LinkFault) → fault_in streamlets ≡ found → nets_or (nets_in streamlets) found ≡ Ok nets → AreOf streamlets nets
    by (Some fault) is e = absurd cc
    by None is e =
        let parts = neither (first streamlets) size is in
        record {
          all = ordered-moves (bodies_from 0 streamlets);
          faultless = parts.0;
          small = not-large (is_too_large streamlets) refl parts.1;
          impls_are = let same : nets_in streamlets ≡ nets = cc in ap (λ (n : Nets). n.impls) (sym same);
        }

-- ---- no answer is want of memory

abbrev IsReal : Option LinkFault → Type 0
IsReal found = found ≢ Some faults.Memory

either-real : (one other : Option LinkFault) → IsReal one → IsReal other → IsReal (option_or one other)
either-real None other real also = also
either-real (Some one) other real also = real

sides-real : (place : Place) (one other : Option Side) (linked : Bool) → IsReal (fault_of_sides place one other linked)
sides-real place None other linked = λ e. absurd cc
sides-real place (Some one) None linked = λ e. absurd cc
sides-real place (Some one) (Some other) linked = by (beq one.is_source other.is_source) (difference_of one other) linked
  where
    by : (same : Bool) (difference : Option Difference) (linked : Bool)
        → IsReal (if same then Some (faults.SameSide place) else option_or (option_map (faults.NotCompatible place) difference) (if linked then Some (faults.LinkedTwice place) else None))
    by true difference linked = λ e. absurd cc
    by false (Some difference) linked = λ e. absurd cc
    by false None true = λ e. absurd cc
    by false None false = λ e. absurd cc

links-real : (streamlets : List PlainStreamlet) (inside : Inside) (earlier links : List Link) → IsReal (fault_of_links streamlets inside earlier links)
links-real streamlets inside earlier [] = λ e. absurd cc
links-real streamlets inside earlier (link ∷ more) =
    either-real (fault_of_link streamlets inside earlier link) (fault_of_links streamlets inside (earlier ++ link ∷ []) more)
    (sides-real link.place (side_of streamlets inside link.first) (side_of streamlets inside link.second) (is_linked earlier link.first || is_linked earlier link.second))
    (links-real streamlets inside (earlier ++ link ∷ []) more)

bodies-real : (streamlets : List PlainStreamlet) (bodies : List Body) → IsReal (fault_of_bodies streamlets bodies)
bodies-real streamlets [] = λ e. absurd cc
bodies-real streamlets (body ∷ more) = either-real (fault_of_body streamlets body) (fault_of_bodies streamlets more)
    (either-real (fault_of_links streamlets body.inside [] body.links) (if list_all (is_linked body.links) (ends_of streamlets body.inside) then None else Some (faults.Unlinked body.place))
    (links-real streamlets body.inside [] body.links) (unlinked (list_all (is_linked body.links) (ends_of streamlets body.inside))))
    (bodies-real streamlets more)
  where
    unlinked : (all : Bool) → IsReal (if all then None else Some (faults.Unlinked body.place))
    unlinked true = λ e. absurd cc
    unlinked false = λ e. absurd cc

pub answers_are_of_the_project : AnswersAreOfTheProject
answers_are_of_the_project streamlets = by (fault_in streamlets) (either-real (first streamlets) (if is_too_large streamlets then Some faults.DesignTooLarge else None) (bodies-real streamlets (bodies_in_text streamlets)) (size (is_too_large streamlets)))
  where
    size : (large : Bool) → IsReal (if large then Some faults.DesignTooLarge else None)
    size true = λ e. absurd cc
    size false = λ e. absurd cc

    by : (found : Option LinkFault) → IsReal found → nets_or (nets_in streamlets) found ≢ Err faults.Memory
    by None real = λ e. absurd cc
    by (Some fault) real = λ e. let same : fault ≡ faults.Memory = cc in real (ap (λ f. Some f) same)
