-- Refused paths, one after another.
use Rattle.std.proofs.Common.{◌≡◌, ℕ, List, ◌++◌, map, filter, refl, ap, ◌∙◌}
use Rattle.std.specs.Borrow.{Bor}
use Rattle.std.proofs.lemmas.List.{map-append}
use Rattle.std.proofs.lemmas.List.Elements.{filter-append}
use Rattle.tydi_base.specs.declared.place.Place.{Place}
use Rattle.til_parser.specs.declared.tree.AstKind.{AstKind}
use Rattle.til_parser.specs.declared.tree.AstKind.TheVariants as decls
use Rattle.til_parser.specs.declared.tree.AstPath.{AstPath}
use Rattle.til_parser.specs.declared.tree.AstPorts.TheVariants as ports
use Rattle.til_resolve.specs.declared.kinds.Asked.{Asked}
use Rattle.til_resolve.specs.declared.names.Sought.{Sought}
use Rattle.til_resolve.specs.Declarations.{Declaration, place_of}
use Rattle.til_resolve.specs.Kinds.{asks}
use Rattle.til_resolve.specs.Names.{Use, refused, uses_of_kind}
use Rattle.til_resolve.specs.PathsWritten.{asked_in, paths_of_kind, seen}
use Rattle.til_resolve.specs.Sought.{is_refused, refused_of}

module _ (wrong : Sought) (all : List Declaration) (space : List (List ℕ)) (asked : Asked) where
  pub refused_of-append : (front back : List AstPath) → refused_of wrong all space asked (front ++ back) ≡ refused_of wrong all space asked front ++ refused_of wrong all space asked back
  refused_of-append front back =
      let use_of : AstPath → Use = λ path. record { space = space; path = path; asks = asks asked } in
      let place : Use → Place = λ one. place_of one.path in
      ap (λ (l : List Use). map place (filter (is_refused wrong all) l)) (map-append use_of front back)
      ∙ ap (map place) (filter-append (is_refused wrong all) (map use_of front) (map use_of back))
      ∙ map-append place (filter (is_refused wrong all) (map use_of front)) (filter (is_refused wrong all) (map use_of back))

  -- the same of references to paths
  pub refused_seen-append : (front back : List (Bor AstPath)) → refused_of wrong all space asked (seen (front ++ back)) ≡ refused_of wrong all space asked (seen front) ++ refused_of wrong all space asked (seen back)
  refused_seen-append front back =
      ap (refused_of wrong all space asked) (map-append (λ (path : Bor AstPath). path.now) front back) ∙ refused_of-append (seen front) (seen back)

-- the paths in a declaration of a kind are those that are walked
pub refused-kind : (wrong : Sought) (all : List Declaration) (space : List (List ℕ)) (kind : AstKind)
    → refused_of wrong all space (asked_in kind) (paths_of_kind kind) ≡ refused (is_refused wrong all) (uses_of_kind space kind)
refused-kind wrong all space (decls.Alias ltype) = refl
refused-kind wrong all space (decls.Interface listed) = refl
refused-kind wrong all space (decls.Streamlet (ports.Own listed)) = refl
refused-kind wrong all space (decls.Streamlet (ports.Named path)) = refl
refused-kind wrong all space (decls.Impl target body) = refl
refused-kind wrong all space (decls.Test target port value plan) = refl
